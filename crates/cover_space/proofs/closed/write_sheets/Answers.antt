use Rattle.std.proofs.Common.{arith}
use Rattle.sphere_collapses.specs.declared.tree.Taken.{Taken}
use Rattle.cover_space.proofs.Stepped.{read, some-room, begun, all-walked}
use Rattle.cover_space.proofs.closed.write_sheets.Goals as goal

pub bounds-over-0 : goal.bounds-over-0
bounds-over-0 c = omega (arith, c.requires.over, some-room c.args.space.now c.args.labels.now c.requires.labelled c.args.dim c.args.cell c.requires.cell c.args.sheet c.requires.sheet c.sheet_is_along.ensures.along c.args.inside.now.vertices.items c.args.inside.now.edges.items c.args.inside.now.ends c.args.inside.now.tree.items c.requires.inside c.args.over.now c.requires.over)

pub loop-taken-init : goal.loop-taken-init
loop-taken-init c = begun c.args.space.now c.args.labels.now c.requires.labelled c.args.dim c.args.cell c.requires.cell c.args.sheet c.requires.sheet c.sheet_is_along.ensures.along c.args.inside.now.vertices.items c.args.inside.now.edges.items c.args.inside.now.ends c.args.inside.now.tree.items c.requires.inside c.args.over.now c.requires.over

pub returns-clause-over : goal.returns-clause-over
returns-clause-over c = all-walked c.args.space.now c.args.labels.now c.requires.labelled c.args.dim c.args.cell c.requires.cell c.args.sheet c.requires.sheet c.sheet_is_along.ensures.along c.args.inside.now.vertices.items c.args.inside.now.edges.items c.args.inside.now.ends c.args.inside.now.tree.items c.requires.inside c.deref-taken-items.result.now c.loop-taken.taken-index c.loop-taken.over c.deref-taken-items.ensures.value c.loop-taken-test.false c.loop-taken.invariant

abbrev no_node : Taken
no_node = record { node = 0; link = 0 }

pub sheet_at-there-requires-clause-first : goal.sheet_at-there-requires-clause-first
sheet_at-there-requires-clause-first c =
    (read c.args.space.now c.args.labels.now c.requires.labelled c.args.dim c.args.cell c.requires.cell c.args.sheet c.requires.sheet c.sheet_is_along.ensures.along c.args.inside.now.vertices.items c.args.inside.now.edges.items c.args.inside.now.ends c.args.inside.now.tree.items c.requires.inside
    c.deref-taken-items.result.now c.loop-taken.taken-index no_node c.loop-taken.over c.index-edge.result.now c.get-ends.result.now c.deref-taken-items.ensures.value c.loop-taken-test.true c.loop-taken.invariant c.index-edge.ensures c.get-ends.ensures).edge_low

pub sheet_at-there-requires-clause-last : goal.sheet_at-there-requires-clause-last
sheet_at-there-requires-clause-last c =
    (read c.args.space.now c.args.labels.now c.requires.labelled c.args.dim c.args.cell c.requires.cell c.args.sheet c.requires.sheet c.sheet_is_along.ensures.along c.args.inside.now.vertices.items c.args.inside.now.edges.items c.args.inside.now.ends c.args.inside.now.tree.items c.requires.inside
    c.deref-taken-items.result.now c.loop-taken.taken-index no_node c.loop-taken.over c.index-edge.result.now c.get-ends.result.now c.deref-taken-items.ensures.value c.loop-taken-test.true c.loop-taken.invariant c.index-edge.ensures c.get-ends.ensures).edge_high

pub sheet_at-there-requires-clause-permutes : goal.sheet_at-there-requires-clause-permutes
sheet_at-there-requires-clause-permutes c =
    (read c.args.space.now c.args.labels.now c.requires.labelled c.args.dim c.args.cell c.requires.cell c.args.sheet c.requires.sheet c.sheet_is_along.ensures.along c.args.inside.now.vertices.items c.args.inside.now.edges.items c.args.inside.now.ends c.args.inside.now.tree.items c.requires.inside
    c.deref-taken-items.result.now c.loop-taken.taken-index no_node c.loop-taken.over c.index-edge.result.now c.get-ends.result.now c.deref-taken-items.ensures.value c.loop-taken-test.true c.loop-taken.invariant c.index-edge.ensures c.get-ends.ensures).permutes

pub sheet_at-there-requires-clause-two : goal.sheet_at-there-requires-clause-two
sheet_at-there-requires-clause-two c =
    (read c.args.space.now c.args.labels.now c.requires.labelled c.args.dim c.args.cell c.requires.cell c.args.sheet c.requires.sheet c.sheet_is_along.ensures.along c.args.inside.now.vertices.items c.args.inside.now.edges.items c.args.inside.now.ends c.args.inside.now.tree.items c.requires.inside
    c.deref-taken-items.result.now c.loop-taken.taken-index no_node c.loop-taken.over c.index-edge.result.now c.get-ends.result.now c.deref-taken-items.ensures.value c.loop-taken-test.true c.loop-taken.invariant c.index-edge.ensures c.get-ends.ensures).two

pub sheet_at-there-requires-clause-place : goal.sheet_at-there-requires-clause-place
sheet_at-there-requires-clause-place c =
    (read c.args.space.now c.args.labels.now c.requires.labelled c.args.dim c.args.cell c.requires.cell c.args.sheet c.requires.sheet c.sheet_is_along.ensures.along c.args.inside.now.vertices.items c.args.inside.now.edges.items c.args.inside.now.ends c.args.inside.now.tree.items c.requires.inside
    c.deref-taken-items.result.now c.loop-taken.taken-index no_node c.loop-taken.over c.index-edge.result.now c.get-ends.result.now c.deref-taken-items.ensures.value c.loop-taken-test.true c.loop-taken.invariant c.index-edge.ensures c.get-ends.ensures).place

pub sheet_at-there-requires-clause-sheet : goal.sheet_at-there-requires-clause-sheet
sheet_at-there-requires-clause-sheet c =
    (read c.args.space.now c.args.labels.now c.requires.labelled c.args.dim c.args.cell c.requires.cell c.args.sheet c.requires.sheet c.sheet_is_along.ensures.along c.args.inside.now.vertices.items c.args.inside.now.edges.items c.args.inside.now.ends c.args.inside.now.tree.items c.requires.inside
    c.deref-taken-items.result.now c.loop-taken.taken-index no_node c.loop-taken.over c.index-edge.result.now c.get-ends.result.now c.deref-taken-items.ensures.value c.loop-taken-test.true c.loop-taken.invariant c.index-edge.ensures c.get-ends.ensures).sheet_range

pub overflow_sub-over : goal.overflow_sub-over
overflow_sub-over c =
    (read c.args.space.now c.args.labels.now c.requires.labelled c.args.dim c.args.cell c.requires.cell c.args.sheet c.requires.sheet c.sheet_is_along.ensures.along c.args.inside.now.vertices.items c.args.inside.now.edges.items c.args.inside.now.ends c.args.inside.now.tree.items c.requires.inside
    c.deref-taken-items.result.now c.loop-taken.taken-index no_node c.loop-taken.over c.index-edge.result.now c.get-ends.result.now c.deref-taken-items.ensures.value c.loop-taken-test.true c.loop-taken.invariant c.index-edge.ensures c.get-ends.ensures).node_low

pub bounds-over-taken : goal.bounds-over-taken
bounds-over-taken c =
    let k = read c.args.space.now c.args.labels.now c.requires.labelled c.args.dim c.args.cell c.requires.cell c.args.sheet c.requires.sheet c.sheet_is_along.ensures.along c.args.inside.now.vertices.items c.args.inside.now.edges.items c.args.inside.now.ends c.args.inside.now.tree.items c.requires.inside
    c.deref-taken-items.result.now c.loop-taken.taken-index no_node c.loop-taken.over c.index-edge.result.now c.get-ends.result.now c.deref-taken-items.ensures.value c.loop-taken-test.true c.loop-taken.invariant c.index-edge.ensures c.get-ends.ensures in
    omega (arith, k.node_low, k.node_high)

pub loop-taken-preserved : goal.loop-taken-preserved
loop-taken-preserved c =
    (read c.args.space.now c.args.labels.now c.requires.labelled c.args.dim c.args.cell c.requires.cell c.args.sheet c.requires.sheet c.sheet_is_along.ensures.along c.args.inside.now.vertices.items c.args.inside.now.edges.items c.args.inside.now.ends c.args.inside.now.tree.items c.requires.inside
    c.deref-taken-items.result.now c.loop-taken.taken-index no_node c.loop-taken.over c.index-edge.result.now c.get-ends.result.now c.deref-taken-items.ensures.value c.loop-taken-test.true c.loop-taken.invariant c.index-edge.ensures c.get-ends.ensures).more c.sheet_at-there.result c.sheet_at-there.ensures
