use Rattle.std.proofs.Common.{length, refl, ap, ◌∙◌, subst, arith, All}
use Rattle.std.proofs.lemmas.List.{take_all}
use Rattle.sphere_collapses.specs.Trees.{HasEnds}
use Rattle.sphere_collapses.proofs.Trees.{link_read, across_in, crossed_at, crossing-begun}
use Rattle.sphere_collapses.proofs.tree.take_across.Goals as goal

pub loop-link-init : goal.loop-link-init
loop-link-init c = (refl, crossing-begun c.args.links.now c.args.found.now.found c.args.tree.now.items c.args.at.now)

pub overflow_sub-link : goal.overflow_sub-link
overflow_sub-link c = (link_read c.args.links.now c.args.found.now.most c.requires.links c.args.node c.args.at.now c.requires.at c.loop-link.link-index c.loop-link-test.true).0

pub get-requires : goal.get-requires
get-requires c =
    let r = link_read c.args.links.now c.args.found.now.most c.requires.links c.args.node c.args.at.now c.requires.at c.loop-link.link-index c.loop-link-test.true in
    omega (arith, r.0, r.1)

pub node_across-across-requires : goal.node_across-across-requires
node_across-across-requires c =
    ap length c.get.ensures ∙ (link_read c.args.links.now c.args.found.now.most c.requires.links c.args.node c.args.at.now c.requires.at c.loop-link.link-index c.loop-link-test.true).2

pub take-requires-clause-first : goal.take-requires-clause-first
take-requires-clause-first c =
    (across_in c.args.links.now c.args.found.now.most c.requires.links c.args.node c.args.at.now c.requires.at c.loop-link.link-index c.loop-link-test.true c.get.result.now c.node_across-across.result c.get.ensures c.node_across-across.ensures).0

pub take-requires-clause-last : goal.take-requires-clause-last
take-requires-clause-last c =
    let r = across_in c.args.links.now c.args.found.now.most c.requires.links c.args.node c.args.at.now c.requires.at c.loop-link.link-index c.loop-link-test.true c.get.result.now c.node_across-across.result c.get.ensures c.node_across-across.ensures in
    omega (arith, r.1, c.loop-link.invariant.0)

pub loop-link-preserved : goal.loop-link-preserved
loop-link-preserved c = (
  c.take.ensures.most ∙ c.loop-link.invariant.0,
  crossed_at c.args.links.now c.args.found.now.most c.requires.links c.args.node c.args.at.now c.requires.at c.loop-link.link-index c.loop-link-test.true c.args.found.now.found c.args.tree.now.items c.loop-link.found.found c.take.new.found.found
      c.loop-link.tree.items c.take.new.tree.items c.get.result.now c.node_across-across.result c.requires.node c.get.ensures c.node_across-across.ensures c.in_ok-take.ensures.taken c.loop-link.invariant.1,
)

pub returns-clause-most : goal.returns-clause-most
returns-clause-most c = c.loop-link.invariant.0

pub returns-clause-grows : goal.returns-clause-grows
returns-clause-grows c = c.loop-link.invariant.1.grows

pub returns-clause-longer : goal.returns-clause-longer
returns-clause-longer c = c.loop-link.invariant.1.longer

pub returns-clause-taken : goal.returns-clause-taken
returns-clause-taken c =
    subst (All (HasEnds c.args.links.now c.loop-link.found.found)) (take_all c.loop-link.link-index c.args.at.now c.loop-link-test.false) c.loop-link.invariant.1.taken
