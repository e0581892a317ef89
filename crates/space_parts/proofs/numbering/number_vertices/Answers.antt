use Rattle.std.proofs.Common.{◌<◌, ◌∙◌, arith}
use Rattle.face_poset.specs.Poset.{count}
use Rattle.space_parts.specs.Parts.{component_at}
use Rattle.space_parts.proofs.Numbers.{pushed, vertex_numbers, vertex_number}
use Rattle.space_parts.proofs.numbering.number_vertices.Goals as goal

pub of-requires-clause-last : goal.of-requires-clause-last
of-requires-clause-last c = omega (arith, vertex_numbers c.args.space.now c.args.components.now c.requires, c.loop-index-test.true, c.cells-index-end.ensures.cells)

pub loop-index-preserved : goal.loop-index-preserved
loop-index-preserved c =
    let l : c.loop-index.index < count c.args.space.now 0 = omega (arith, c.loop-index-test.true, c.cells-index-end.ensures.cells) in
    c.in_ok-push.ensures.items
    ∙ pushed (component_at c.args.space.now 0) c.loop-index.index c.loop-index.numbers.items c.of.result c.loop-index.invariant (c.of.ensures ∙ vertex_number c.args.space.now c.args.components.now c.loop-index.index c.requires l)
