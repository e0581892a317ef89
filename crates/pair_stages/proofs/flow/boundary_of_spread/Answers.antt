use Rattle.std.proofs.Common.{◌<◌, ℕ, length, refl, sym, ◌∙◌, subst}
use Rattle.pair_stages.proofs.Flows.{spread_boundary_none, spread_boundary_more}
use Rattle.pair_stages.proofs.flow.boundary_of_spread.Goals as goal

pub loop-index-init : goal.loop-index-init
loop-index-init g c =
    spread_boundary_none g.F.Field.ops g.met.F.Field.laws c.args.stage.now.rows c.args.next.now.kinds c.len.result c.in_ok-boundary.boundary c.args.c.now c.in_ok-boundary.ensures (c.len.ensures.len ∙ sym c.requires.paired.matching.long)

pub loop-index-preserved : goal.loop-index-preserved
loop-index-preserved g c =
    spread_boundary_more g.F.Field.ops g.met.F.Field.laws (length c.args.next.now.kinds) c.args.stage.now.rows c.args.next.now.kinds c.args.c.now c.loop-index.boundary c.add_boundary.new.chain c.loop-index.index c.critical_place.result (g.F.Field.number_of c.get.result)
    c.requires.paired.matching.matrix refl (subst (λ (n : ℕ). c.loop-index.index < n) c.len-index-end.ensures.len c.loop-index-test.true) c.requires.values c.len-index-end.ensures.elements c.loop-index.invariant c.critical_place.ensures.place c.get.ensures c.add_boundary.ensures
