use Rattle.std.proofs.Common.{◌∙◌, arith}
use Rattle.sphere_collapses.proofs.Lists.{placed_at, placed_back, disks-more, vertices-begun, vertices-more, pairs_all, pairs_few}
use Rattle.sphere_collapses.proofs.collapse.list_pairs.Goals as goal

pub overflow_sub-taken : goal.overflow_sub-taken
overflow_sub-taken c = (placed_at c.args.disks.now c.args.edges.now c.args.dual.now c.loop-taken.taken-index c.requires.dual c.loop-taken-test.true).link_low

pub bounds-edges-taken : goal.bounds-edges-taken
bounds-edges-taken c = let p = placed_at c.args.disks.now c.args.edges.now c.args.dual.now c.loop-taken.taken-index c.requires.dual c.loop-taken-test.true in omega (arith, p.link_low, p.link_high)

pub overflow_sub-taken-in-loop-taken : goal.overflow_sub-taken-in-loop-taken
overflow_sub-taken-in-loop-taken c = (placed_at c.args.disks.now c.args.edges.now c.args.dual.now c.loop-taken.taken-index c.requires.dual c.loop-taken-test.true).node_low

pub bounds-disks-taken : goal.bounds-disks-taken
bounds-disks-taken c = let p = placed_at c.args.disks.now c.args.edges.now c.args.dual.now c.loop-taken.taken-index c.requires.dual c.loop-taken-test.true in omega (arith, p.node_low, p.node_high)

pub loop-taken-preserved : goal.loop-taken-preserved
loop-taken-preserved c = disks-more c.args.disks.now c.args.edges.now c.args.dual.now c.loop-taken.taken-index c.loop-taken.pairs.items c.push.new.self.items c.loop-taken-test.true c.loop-taken.invariant c.in_ok-push.ensures.items

pub overflow_sub-taken-in-loop-index-3 : goal.overflow_sub-taken-in-loop-index-3
overflow_sub-taken-in-loop-index-3 c = (placed_back c.args.vertices.now c.args.left.now c.args.primal.now c.loop-index.index c.requires.primal c.loop-index-test.true).node_low

pub bounds-vertices-taken : goal.bounds-vertices-taken
bounds-vertices-taken c = let p = placed_back c.args.vertices.now c.args.left.now c.args.primal.now c.loop-index.index c.requires.primal c.loop-index-test.true in omega (arith, p.node_low, p.node_high)

pub overflow_sub-taken-in-loop-index-4 : goal.overflow_sub-taken-in-loop-index-4
overflow_sub-taken-in-loop-index-4 c = (placed_back c.args.vertices.now c.args.left.now c.args.primal.now c.loop-index.index c.requires.primal c.loop-index-test.true).link_low

pub bounds-left-taken : goal.bounds-left-taken
bounds-left-taken c = let p = placed_back c.args.vertices.now c.args.left.now c.args.primal.now c.loop-index.index c.requires.primal c.loop-index-test.true in omega (arith, p.link_low, p.link_high)

pub loop-index-init : goal.loop-index-init
loop-index-init c = vertices-begun c.args.disks.now c.args.edges.now c.args.dual.now c.loop-taken.taken-index c.loop-taken.pairs.items c.loop-taken-test.false c.loop-taken.invariant

pub loop-index-preserved : goal.loop-index-preserved
loop-index-preserved c =
    vertices-more c.args.disks.now c.args.edges.now c.args.vertices.now c.args.left.now c.args.dual.now c.args.primal.now c.loop-index.index c.loop-index.pairs.items c.push-in-loop-index.new.self.items c.loop-index-test.true c.loop-index.invariant c.in_ok-push-2.ensures.items

pub new-requires : goal.new-requires
new-requires c = pairs_few c.args.disks.now c.args.edges.now c.args.vertices.now c.args.left.now c.args.dual.now c.args.primal.now c.loop-index.index c.loop-index.pairs.items c.requires.dual_few c.requires.primal_few c.loop-index-test.false c.loop-index.invariant

pub returns : goal.returns
returns c = c.new.ensures ∙ pairs_all c.args.disks.now c.args.edges.now c.args.vertices.now c.args.left.now c.args.dual.now c.args.primal.now c.loop-index.index c.loop-index.pairs.items c.loop-index-test.false c.loop-index.invariant
