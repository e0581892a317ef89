use Rattle.std.proofs.Common.{◌≡◌, ◌≢◌, ℕ, ◌<◌, List, [], length, length-set, map, get_or, get_or-set_same, get_or-set_other, set, ap, sym, ◌∙◌, arith, subst, inl, inr}
use Rattle.std.proofs.lemmas.Simd.{get_or-zip2}
use Rattle.small_field.specs.Field.{Ops, IsField}
use Rattle.linear_laws.specs.Vectors.{IsVector, IsMatrix, plus_scaled, SameSpan, row_at, entry}
use Rattle.small_field.proofs.CallerLemmas.{zero_below, mul_zero, zero_mul}
use Rattle.linear_laws.proofs.CallerLemmas.{addition_keeps_span, row_entry_below, plus_scaled-vector, all_at, all_set, same_or_not, one_is_not_zero, scaling_keeps_span, scaled-vector, scaled_at}
use Rattle.field_matrix.specs.Steps.{IsBroughtUp, ZeroBelow}

module _ (k : Ops) (f : IsField k) where
  -- another row at place `rank`, zero before the column and 1 there
  brought_by_row : (cols rank col : ℕ) (before : List (List ℕ)) (w : List ℕ) → IsMatrix k cols before → rank < length before → ZeroBelow rank col before → IsVector k cols w → SameSpan k cols before (set before rank w) → ((j : ℕ) → j < col → get_or w j 0 ≡ 0) → get_or w col 0 ≡ 1 → IsBroughtUp k cols rank col before (set before rank w)
  brought_by_row cols rank col before w a lr zeros v span none one = record {
    matrix = all_set (IsVector k cols) before rank w v a;
    long = length-set before rank w;
    span = span;
    above = λ i lt. let ne : i ≢ rank = omega arith in get_or-set_other before rank i w [] ne;
    below = λ i j li lt lj.
        elim (same_or_not i rank) [
          | inl q ↦ ap (λ (b : ℕ). entry (set before rank w) b j) q ∙ (ap (λ (r : List ℕ). get_or r j 0) (get_or-set_same before rank w [] lr) ∙ none j lj)
          | inr ne ↦ ap (λ (r : List ℕ). get_or r j 0) (get_or-set_other before rank i w [] ne) ∙ zeros i j li lt lj
        ];
    one = ap (λ (r : List ℕ). get_or r col 0) (get_or-set_same before rank w [] lr) ∙ one;
  }

  -- the inverse of an entry
  inverse_is : (cols here col c : ℕ) (before : List (List ℕ)) → IsMatrix k cols before → entry before here col ≢ 0 → c ≡ k.inv (entry before here col) → (k.mul c (entry before here col) ≡ 1) × (c < k.size) × (c ≢ 0)
  inverse_is cols here col c before a ne is =
      let e : ℕ = entry before here col in
      let low : e < k.size = row_entry_below k f cols before here col a in
      let one : k.mul c e ≡ 1 = ap (λ (z : ℕ). k.mul z e) is ∙ (f.mul_comm (k.inv e) e ∙ f.mul_inv e low ne) in (
        one,
        subst (λ (z : ℕ). z < k.size) (sym is) (f.inv_below e),
        λ z. one_is_not_zero (sym one ∙ (ap (λ (y : ℕ). k.mul y e) z ∙ zero_mul k f e)),
      )

  pub brought_by_scaling : (cols rank col c : ℕ) (before : List (List ℕ)) → IsMatrix k cols before → col < cols → rank < length before → ZeroBelow rank col before → entry before rank col ≢ 0 → c ≡ k.inv (entry before rank col) → IsBroughtUp k cols rank col before (set before rank (map (k.mul c) (row_at before rank)))
  brought_by_scaling cols rank col c before a lc lr zeros ne is =
      let x : List ℕ = row_at before rank in
      let v : IsVector k cols x = all_at (IsVector k cols) before rank [] lr a in
      let long : length x ≡ cols = v.long in
      let inverse = inverse_is cols rank col c before a ne is in
      brought_by_row cols rank col before (map (k.mul c) x) a lr zeros (scaled-vector k f cols c x v) (scaling_keeps_span k f cols c rank before a lr inverse.1 inverse.2).1
      (λ j lj. scaled_at k f c x j (omega arith) ∙ (ap (k.mul c) (zeros rank j (omega arith) lr lj) ∙ mul_zero k f c))
      (scaled_at k f c x col (omega arith) ∙ inverse.0)

  pub brought_by_addition : (cols rank here col c : ℕ) (before : List (List ℕ)) → IsMatrix k cols before → col < cols → rank < here → here < length before → ZeroBelow rank col before → entry before rank col ≡ 0 → entry before here col ≢ 0 → c ≡ k.inv (entry before here col) → IsBroughtUp k cols rank col before (set before rank (plus_scaled k c (row_at before rank) (row_at before here)))
  brought_by_addition cols rank here col c before a lc order lh zeros none ne is =
      let x : List ℕ = row_at before rank in
      let y : List ℕ = row_at before here in
      let lr : rank < length before = omega arith in
      let vx : IsVector k cols x = all_at (IsVector k cols) before rank [] lr a in
      let vy : IsVector k cols y = all_at (IsVector k cols) before here [] lh a in
      let lx : length x ≡ cols = vx.long in
      let ly : length y ≡ cols = vy.long in
      let inverse = inverse_is cols here col c before a ne is in
      let at : (j : ℕ) → j < cols → get_or (plus_scaled k c x y) j 0 ≡ k.add (get_or x j 0) (k.mul c (get_or y j 0)) =
      λ j lj. get_or-zip2 (λ a b. k.add a (k.mul c b)) x y j 0 0 0 (omega arith) (omega arith) in
      brought_by_row cols rank col before (plus_scaled k c x y) a lr zeros (plus_scaled-vector k f cols c x y vx vy) (addition_keeps_span k f cols c rank here before a lr lh (omega arith))
      (λ j lj. at j (omega arith)
      ∙ (ap (λ (z : ℕ). k.add z (k.mul c (get_or y j 0))) (zeros rank j (omega arith) lr lj)
      ∙ (ap (λ (z : ℕ). k.add 0 (k.mul c z)) (zeros here j (omega arith) lh lj) ∙ (ap (k.add 0) (mul_zero k f c) ∙ f.zero_add 0 (zero_below k f)))))
      (at col lc ∙ (ap (λ (z : ℕ). k.add z (k.mul c (get_or y col 0))) none ∙ (f.zero_add (k.mul c (get_or y col 0)) (f.mul_below c (get_or y col 0)) ∙ inverse.0)))
