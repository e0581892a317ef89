use Rattle.std.proofs.Common.{ℕ, List, length, get_or, ◌∙◌, ap, refl, arith}
use Rattle.chosen_field.specs.Listings.{at}
use Rattle.chosen_field.proofs.FirstWaits.{pass-lower, pass-none}
use Rattle.chosen_field.proofs.listing.pass.Goals as goal
use Rattle.chosen_field.proofs.listing.pass.Goals.{then-lower-ne0+in_ok-leave, else-lower-ne0}

pub loop-cell-preserved : goal.loop-cell-preserved
loop-cell-preserved c =
    let old : List ℕ = c.args.waits.now in
    let now : List ℕ = c.loop-cell.waits in
    let i : ℕ = c.loop-cell.cell-index in
    let lower : ℕ = at c.args.lowers.now (get_or c.args.cells.now i 0) in
    elim c.if-lower-ne0.branch [
      | then-lower-ne0+in_ok-leave w ↦ (
        ap (λ (xs : List ℕ). length xs) w.waits-is ∙ (w.leave.ensures.len ∙ c.loop-cell.invariant.0),
        pass-lower old now c.if-lower-ne0.waits c.args.lowers.now c.args.cells.now i c.loop-cell-test.true c.loop-cell.invariant.0 c.loop-cell.invariant.1 lower refl (omega (arith, w.if-lower-ne0.true))
            (omega (arith, c.requires.lowers (get_or c.args.cells.now i 0) (c.requires.cells i 0 c.loop-cell-test.true).0, c.loop-cell.invariant.0)) (w.waits-is ∙ w.in_ok-leave.ensures.counts),
      )
      | else-lower-ne0 w ↦ (
        ap (λ (xs : List ℕ). length xs) w.waits-is ∙ c.loop-cell.invariant.0,
        λ d low. ap (λ (xs : List ℕ). at xs d) w.waits-is ∙ pass-none old now c.if-lower-ne0.waits c.args.lowers.now c.args.cells.now i c.loop-cell-test.true c.loop-cell.invariant.0 c.loop-cell.invariant.1 (omega (arith, w.if-lower-ne0.false)) d low,
      )
    ]
