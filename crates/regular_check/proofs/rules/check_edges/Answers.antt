use Rattle.std.proofs.Common.{◌+◌, ℕ, List, [], length, eqb, ap, sym, ◌∙◌, arith}
use Rattle.face_poset.specs.Poset.{count}
use Rattle.std.proofs.lemmas.Bool.{ne_eqb}
use Rattle.regular_check.specs.declared.fault.RegularFault.TheVariants.{EdgeEnds}
use Rattle.regular_check.specs.Rules.{edge_rules, rule, two_ends}
use Rattle.regular_check.proofs.Faults.{layer_first, layer_none, head_broken}
use Rattle.regular_check.proofs.rules.check_edges.Goals as goal

pub returns-then-facets-ne2 : goal.returns-then-facets-ne2
returns-then-facets-ne2 c =
    layer_first (edge_rules c.args.space.now) (count c.args.space.now 1) c.loop-index.index (EdgeEnds (c.loop-index.index + 1))
    (omega (arith, c.loop-index-test.true, c.cells-index-end.ensures.cells)) c.loop-index.invariant
    (head_broken (rule (two_ends c.args.space.now (c.loop-index.index + 1)) (EdgeEnds (c.loop-index.index + 1))) []
    (ap (λ (fs : List ℕ). eqb (length fs) 2) (sym c.facets.ensures.facets) ∙ ne_eqb (length c.facets.result.now) 2 c.if-facets-ne2.true))

pub returns : goal.returns
returns c =
    layer_none (edge_rules c.args.space.now) (count c.args.space.now 1) c.loop-index.index (omega (arith, c.loop-index-test.false, c.cells-index-end.ensures.cells)) c.loop-index.invariant
