use Rattle.std.proofs.Common.{◌≡◌, ◌≢◌, ℕ, ◌+◌, ◌<◌, List, [], length, length-set, get_or, get_or-set_same, get_or-set_other, set, ap, sym, ◌∙◌, arith, subst}
use Rattle.std.proofs.lemmas.Simd.{get_or-zip2}
use native.Mathlib.Decide.{dec_lt}
use Prim.{yes, no}
use Rattle.small_field.specs.Field.{Ops, IsField}
use Rattle.linear_laws.specs.Vectors.{IsVector, plus_scaled, row_at, entry}
use Rattle.small_field.proofs.CallerLemmas.{add_zero, mul_zero}
use Rattle.linear_laws.proofs.CallerLemmas.{same_span_trans, row_entry_below, addition_keeps_span, plus_scaled-vector, all_at, all_set}
use Rattle.field_matrix.specs.Steps.{IsCleared, IsPivotRow}

module _ (k : Ops) (f : IsField k) where
  -- nothing to do in a row
  pub cleared_more : (cols rank col i : ℕ) (before after : List (List ℕ)) → IsCleared k cols rank col i before after → (i ≢ rank → entry after i col ≡ 0) → IsCleared k cols rank col (i + 1) before after
  cleared_more cols rank col i before after h z = record {
    matrix = h.matrix;
    long = h.long;
    span = h.span;
    kept = h.kept;
    earlier = h.earlier;
    clear = λ a lt l ne.
        elim (dec_lt a i) [
          | yes s ↦ h.clear a s l ne
          | no m ↦ let e : i ≡ a = omega arith in subst (λ (b : ℕ). entry after b col ≡ 0) e (z (λ q. ne (sym e ∙ q)))
        ];
  }

  -- a multiple of the pivot row is taken away
  pub cleared_by_addition : (cols rank col i s : ℕ) (before after : List (List ℕ)) → IsPivotRow before rank col → col < cols → rank < length before → i < length before → i ≢ rank → s ≡ k.neg (entry after i col) → IsCleared k cols rank col i before after → IsCleared k cols rank col (i + 1) before (set after i (plus_scaled k s (row_at after i) (row_at after rank)))
  cleared_by_addition cols rank col i s before after pivot lc lr li ne is_s h =
      let x : List ℕ = row_at after i in
      let y : List ℕ = row_at after rank in
      let w : List ℕ = plus_scaled k s x y in
      let new : List (List ℕ) = set after i w in
      let la : i < length after = let e : length after ≡ length before = h.long in omega arith in
      let lb : rank < length after = let e : length after ≡ length before = h.long in omega arith in
      let vx : IsVector k cols x = all_at (IsVector k cols) after i [] la h.matrix in
      let vy : IsVector k cols y = all_at (IsVector k cols) after rank [] lb h.matrix in
      let at_i : row_at new i ≡ w = get_or-set_same after i w [] la in
      let at_other : (a : ℕ) → a ≢ i → row_at new a ≡ row_at after a = λ a d. get_or-set_other after i a w [] d in
      let value : (j : ℕ) → j < cols → entry new i j ≡ k.add (entry after i j) (k.mul s (entry before rank j)) =
      λ j lj. let ex : length x ≡ cols = vx.long in
      let ey : length y ≡ cols = vy.long in
      ap (λ (r : List ℕ). get_or r j 0) at_i
      ∙ (get_or-zip2 (λ a b. k.add a (k.mul s b)) x y j 0 0 0 (omega arith) (omega arith) ∙ ap (λ (r : List ℕ). k.add (entry after i j) (k.mul s (get_or r j 0))) h.kept) in
      record {
        matrix = all_set (IsVector k cols) after i w (plus_scaled-vector k f cols s x y vx vy) h.matrix;
        long = length-set after i w ∙ h.long;
        span = same_span_trans k cols before after new h.span (addition_keeps_span k f cols s i rank after h.matrix la lb ne);
        kept = at_other rank (λ e. ne (sym e)) ∙ h.kept;
        earlier = λ a j lj.
            elim (dec_lt a i) [
              | yes l ↦ ap (λ (r : List ℕ). get_or r j 0) (at_other a (omega arith)) ∙ h.earlier a j lj
              | no m ↦
                  elim (dec_lt i a) [
                    | yes l ↦ ap (λ (r : List ℕ). get_or r j 0) (at_other a (omega arith)) ∙ h.earlier a j lj
                    | no n ↦
                        let e : i ≡ a = omega arith in
                        subst (λ (b : ℕ). entry new b j ≡ entry before b j) e
                        (value j (omega arith)
                        ∙ (ap (λ (z : ℕ). k.add (entry after i j) (k.mul s z)) (pivot.first j lj)
                        ∙ (ap (λ (z : ℕ). k.add (entry after i j) z) (mul_zero k f s) ∙ (add_zero k f (entry after i j) (row_entry_below k f cols after i j h.matrix) ∙ h.earlier i j lj))))
                  ]
            ];
        clear = λ a lt l d.
            elim (dec_lt a i) [
              | yes b ↦ ap (λ (r : List ℕ). get_or r col 0) (at_other a (omega arith)) ∙ h.clear a b l d
              | no m ↦
                  let e : i ≡ a = omega arith in
                  subst (λ (b : ℕ). entry new b col ≡ 0) e
                  (value col lc
                  ∙ (ap (λ (z : ℕ). k.add (entry after i col) (k.mul s z)) pivot.one
                  ∙ (ap (λ (z : ℕ). k.add (entry after i col) z) (f.mul_comm s 1 ∙ (f.one_mul s (subst (λ (z : ℕ). z < k.size) (sym is_s) (f.neg_below (entry after i col))) ∙ is_s)) ∙ f.add_neg (entry after i col))))
            ];
      }
