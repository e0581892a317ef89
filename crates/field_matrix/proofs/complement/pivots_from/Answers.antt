use Rattle.std.proofs.Common.{◌≡◌, ℕ, ◌-◌, ◌<◌, ◌≤◌, ◌++◌, ◌∷◌, [], List, Option, length, take, get_or, Some, is_some, true, false, refl, ap, sym, ◌∙◌, arith, subst}
use Rattle.std.specs.Option.{IsSome}
use Rattle.lane_rows.specs.Lanes.{first_place}
use Rattle.linear_laws.specs.Echelon.{IsReducedBelow, is_nonzero}
use Rattle.field_matrix.specs.Rows.{cut}
use Rattle.field_matrix.specs.Solutions.{above}
use Rattle.field_matrix.proofs.Cut.{length-cut}
use Rattle.field_matrix.proofs.Ranks.{First, told_by_first}
use Rattle.field_matrix.proofs.Turned.{first_of_row, high_place, is_high, is_low, kept_more, pushed_more}
use Rattle.field_matrix.proofs.complement.pivots_from.Goals as goal
use Rattle.field_matrix.proofs.complement.pivots_from.Goals.{then-not-below+in_ok-push, else-not-below}

pub row_of-requires-clause-row : goal.row_of-requires-clause-row
row_of-requires-clause-row c =
    let few : length c.requires.reduced.pivots ≤ length (cut c.args.shape.rows c.args.shape.cols c.args.entries.now) = c.requires.reduced.reduced.few in
    let rank : length c.requires.reduced.pivots ≡ c.args.rank = c.requires.reduced.rank_is in
    omega (arith, length-cut c.args.shape.rows c.args.shape.cols c.args.entries.now)

pub unwrap-requires : goal.unwrap-requires
unwrap-requires c =
    let begin : ℕ = c.args.begin in
    let cols : ℕ = c.args.shape.cols in
    let rows : List (List ℕ) = cut c.args.shape.rows cols c.args.entries.now in
    let i : ℕ = c.loop-i.i in
    let row : List ℕ = c.row_of.result.now in
    let long : length row ≡ cols = c.row_of.ensures.long in
    let within : begin ≤ length row = omega arith in
    let pivots : List ℕ = c.requires.reduced.pivots in
    let reduced : IsReducedBelow cols rows pivots = c.requires.reduced.reduced in
    let rank : length pivots ≡ c.args.rank = c.requires.reduced.rank_is in
    let p : ℕ = get_or pivots i 0 in
    let lp : i < length pivots = omega arith in
    let found : First row p = first_of_row cols rows pivots row i c.row_of.ensures.row long reduced lp in
    let told : c.is_some-below.result ≡ is_nonzero (take begin row) =
    c.is_some-below.ensures ∙ (ap (λ (u : Option ℕ). is_some u) c.first_nonzero.ensures ∙ (told_by_first c.split_at.result.0.now ∙ ap is_nonzero c.split_at.ensures.front)) in
    let off : c.is_some-below.result ≡ false = grind arith in
    let high : begin ≤ p = is_high begin p row within found (sym told ∙ off) in
    let place : c.first_nonzero-then-not-below.result ≡ Some (p - begin) = c.first_nonzero-then-not-below.ensures ∙ (ap first_place c.split_at.ensures.back ∙ high_place begin p row within found high) in
    subst IsSome (sym place) refl

pub loop-i-preserved : goal.loop-i-preserved
loop-i-preserved c = λ pivots reduced rank.
    let begin : ℕ = c.args.begin in
    let cols : ℕ = c.args.shape.cols in
    let rows : List (List ℕ) = cut c.args.shape.rows cols c.args.entries.now in
    let i : ℕ = c.loop-i.i in
    let row : List ℕ = c.row_of.result.now in
    let long : length row ≡ cols = c.row_of.ensures.long in
    let within : begin ≤ length row = omega arith in
    let p : ℕ = get_or pivots i 0 in
    let lp : i < length pivots = omega arith in
    let found : First row p = first_of_row cols rows pivots row i c.row_of.ensures.row long reduced lp in
    let told : c.is_some-below.result ≡ is_nonzero (take begin row) =
    c.is_some-below.ensures ∙ (ap (λ (u : Option ℕ). is_some u) c.first_nonzero.ensures ∙ (told_by_first c.split_at.result.0.now ∙ ap is_nonzero c.split_at.ensures.front)) in
    let old : c.loop-i.places.items ≡ above begin (take i pivots) = c.loop-i.invariant pivots reduced rank in
    elim c.if-not-below.branch [
      | then-not-below+in_ok-push w ↦
          let off : c.is_some-below.result ≡ false = grind arith in
          let high : begin ≤ p = is_high begin p row within found (sym told ∙ off) in
          let place : w.first_nonzero-then-not-below.result ≡ Some (p - begin) =
          w.first_nonzero-then-not-below.ensures ∙ (ap first_place c.split_at.ensures.back ∙ high_place begin p row within found high) in
          let seen : Some w.unwrap.result ≡ Some (p - begin) = sym w.unwrap.ensures ∙ place in
          let value : w.unwrap.result ≡ p - begin = cc in
          rw w.places-is (w.in_ok-push.ensures.items ∙ (ap (λ (x : ℕ). c.loop-i.places.items ++ x ∷ []) value ∙ pushed_more begin i p pivots c.loop-i.places.items lp refl high old))
      | else-not-below w ↦
          let on : c.is_some-below.result ≡ true = grind arith in
          let low : p < begin = is_low begin p row within found (sym told ∙ on) in
          rw w.places-is (kept_more begin i p pivots c.loop-i.places.items lp refl low old)
    ]
