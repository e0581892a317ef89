use Rattle.std.proofs.Common.{◌≡◌, ◌+◌, ◌-◌, ℕ, sym, subst, arith}
use Rattle.pair_stages.specs.Stages.{place_of}
use Rattle.pair_stages.specs.Reaches.{IsReach, IsSettled}
use Rattle.pair_stages.proofs.Sparse.{reach_triangular, reach_uppers, reach_settled}
use Rattle.pair_stages.proofs.coboundary.settle_mark.Goals as goal

pub settle_chosen-requires-clause-triangular : goal.settle_chosen-requires-clause-triangular
settle_chosen-requires-clause-triangular g c =
    reach_triangular g.F.Field.ops g.met.F.Field.laws c.args.stage.now c.args.next.now c.requires.paired c.args.row c.requires.row c.args.reach.now.found.found c.deref-chosen.result.now
    (subst (IsReach c.args.stage.now c.args.next.now (place_of c.args.stage.now.kinds c.args.row) c.args.reach.now.found.found) (sym c.deref-chosen.ensures.value) c.requires.reach)

pub settle_chosen-requires-clause-uppers : goal.settle_chosen-requires-clause-uppers
settle_chosen-requires-clause-uppers g c =
    reach_uppers g.F.Field.ops g.met.F.Field.laws c.args.stage.now c.args.next.now c.requires.paired c.args.row c.requires.row c.args.reach.now.found.found c.deref-chosen.result.now
    (subst (IsReach c.args.stage.now c.args.next.now (place_of c.args.stage.now.kinds c.args.row) c.args.reach.now.found.found) (sym c.deref-chosen.ensures.value) c.requires.reach)

number_again : (a b : ℕ) → a ≡ b → a + 1 - 1 ≡ b
number_again a b e = omega arith

pub returns : goal.returns
returns g c =
    subst (λ qs. IsSettled g.F.Field.ops c.args.stage.now c.args.next.now c.args.row c.args.reach.now.found.found qs c.settle_chosen.new.x) c.deref-chosen.ensures.value
    (reach_settled g.F.Field.ops g.met.F.Field.laws c.args.stage.now c.args.next.now c.requires.paired c.args.row c.requires.row c.args.reach.now.found.found c.deref-chosen.result.now
    (subst (IsReach c.args.stage.now c.args.next.now (place_of c.args.stage.now.kinds c.args.row) c.args.reach.now.found.found) (sym c.deref-chosen.ensures.value) c.requires.reach)
    c.args.x.now c.set.new.self c.settle_chosen.new.x c.args.zeros.now (c.critical_place.result + 1 - 1) (g.F.Field.number_of c.one.result)
    (number_again c.critical_place.result (place_of c.args.stage.now.kinds c.args.row) c.critical_place.ensures.place) c.requires.blank c.one.ensures c.set.ensures c.requires.zeros c.settle_chosen.ensures)
