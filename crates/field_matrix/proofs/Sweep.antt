-- A row is cleared at the pivots of a reduced form, with the history beside.
use Rattle.std.proofs.Common.{◌≡◌, ◌≢◌, ℕ, ◌+◌, ◌-◌, ◌<◌, ◌≤◌, List, [], ◌∷◌, length, replicate, get_or, Some, None, refl, ap, sym, ◌∙◌, arith, subst, inl, inr}
use Rattle.std.proofs.lemmas.Simd.{get_or-zip2, length-replicate}
use native.Mathlib.Decide.{dec_lt}
use Prim.{yes, no}
use Rattle.lane_rows.specs.Lanes.{first_place}
use Rattle.lane_rows.proofs.CallerLemmas.{place_missing}
use Rattle.small_field.specs.Field.{Ops, IsField}
use Rattle.small_field.specs.Values.{AreElements}
use Rattle.linear_laws.specs.Marks.{mark}
use Rattle.linear_laws.specs.Vectors.{IsVector, IsMatrix, plus_scaled, combination, row_at}
use Rattle.linear_laws.specs.Echelon.{IsReducedBelow}
use Rattle.small_field.proofs.CallerLemmas.{zero_below, mul_zero, zero_mul, add_zero}
use Rattle.linear_laws.proofs.CallerLemmas.{all_at, plus_scaled-vector, combination-vector, combination-zeros, combination-plus, combination-mark, mark_vector, zeros-elements, same_or_not, regroup, plus_zeros}
use Rattle.field_matrix.specs.Steps.{IsSwept, IsClearAt}
use Rattle.field_matrix.proofs.Ranks.{first_is, pivot_first}

some_same : (a b : ℕ) → Some a ≡ Some b → a ≡ b
some_same a b e = cc

some_or_none : (a : ℕ) → Some a ≡ None → ⊥
some_or_none a e = cc

-- nothing of a row is added
pub zero_times : (k : Ops) → IsField k → (xs ys : List ℕ) → length ys ≡ length xs → AreElements k xs → plus_scaled k 0 xs ys ≡ xs
zero_times k f [] ys same h = refl
zero_times k f (x ∷ xs) [] same h = absurd (omega (arith, same))
zero_times k f (x ∷ xs) (y ∷ ys) same h =
    ap (λ (z : ℕ). k.add x z ∷ plus_scaled k 0 xs ys) (zero_mul k f y)
    ∙ (ap (λ (z : ℕ). z ∷ plus_scaled k 0 xs ys) (add_zero k f x h.0) ∙ ap (λ (r : List ℕ). x ∷ r) (zero_times k f xs ys (omega (arith, same)) h.1))

-- the negative of 0
pub neg_zero : (k : Ops) → IsField k → k.neg 0 ≡ 0
neg_zero k f = sym (f.zero_add (k.neg 0) (f.neg_below 0)) ∙ f.add_neg 0

-- the state of a sweep
pub record Swept (k : Ops) (cols width upto : ℕ) (rows history : List (List ℕ)) (before now told : List ℕ) : Type 0 where
  pub vector : IsVector k cols now
  pub swept : IsSwept k cols width rows history before now told
  pub clear : IsClearAt upto rows now

module _ (k : Ops) (f : IsField k) (cols : ℕ) (rows : List (List ℕ)) (a : IsMatrix k cols rows) (pivots : List ℕ) (r : IsReducedBelow cols rows pivots) where
  pub place_is : (i : ℕ) → i < length pivots → first_place (row_at rows i) ≡ Some (get_or pivots i 0)
  place_is i lt = first_is (row_at rows i) (get_or pivots i 0) (pivot_first k f cols rows pivots i a r lt)

  row_vector : (i : ℕ) → i < length rows → IsVector k cols (row_at rows i)
  row_vector i lt = all_at (IsVector k cols) rows i [] lt a

  -- a row after the pivots is zero
  pub none_after : (i : ℕ) → length pivots ≤ i → i < length rows → first_place (row_at rows i) ≡ None
  none_after i le lt =
      let l : length (row_at rows i) ≡ cols = (row_vector i lt).long in
      place_missing (row_at rows i) (λ j lj. r.zero i j le lt (omega (arith, l, lj)))

  -- a row that is not zero has its pivot first
  pub has_pivot : (i p : ℕ) → i < length rows → first_place (row_at rows i) ≡ Some p → (i < length pivots) × (p ≡ get_or pivots i 0)
  has_pivot i p lt found =
      elim (dec_lt i (length pivots)) [
        | yes l ↦ (l, some_same p (get_or pivots i 0) (sym found ∙ place_is i l))
        | no m ↦ absurd (some_or_none p (sym found ∙ none_after i (omega arith) lt))
      ]

  -- where a row is zero, so are all that follow
  pub clear_on : (i : ℕ) (now : List ℕ) → i < length rows → first_place (row_at rows i) ≡ None → IsClearAt i rows now → IsClearAt (length rows) rows now
  clear_on i now lt none clear b p lb found =
      elim (dec_lt b i) [
        | yes l ↦ clear b p l found
        | no m ↦
            let h : b < length pivots = (has_pivot b p lb found).0 in
            absurd (some_or_none (get_or pivots i 0) (sym (place_is i (omega arith)) ∙ none))
      ]

  module _ (width : ℕ) (history : List (List ℕ)) (w : IsMatrix k width history) (same : length history ≡ length rows) where
    pub swept_none : (before : List ℕ) → IsVector k cols before → Swept k cols width 0 rows history before before (replicate width 0)
    swept_none before v = record {
      vector = v;
      swept = record {
        coefficients = replicate (length rows) 0;
        vector = record { long = length-replicate (length rows) 0; elements = zeros-elements k f (length rows) };
        is = sym (ap (plus_scaled k 1 before) (combination-zeros k f cols (length rows) rows a) ∙ plus_zeros k f cols before v);
        told_is = sym (combination-zeros k f width (length rows) history w);
      };
      clear = λ b p lt. absurd (omega (arith, lt));
    }

    -- one more row is swept
    module _ (i p s : ℕ) (before now told : List ℕ) (lt : i < length rows) (found : first_place (row_at rows i) ≡ Some p) (is_s : s ≡ k.neg (get_or now p 0)) (vb : IsVector k cols before) (old : Swept k cols width i rows history before now told) where
      n : ℕ
      n = length rows

      source : List ℕ
      source = row_at rows i

      cs : List ℕ
      cs = old.swept.coefficients

      more : List ℕ
      more = plus_scaled k s cs (mark n i)

      -- the combination has a multiple of one more row
      combined : (c : ℕ) (others : List (List ℕ)) → IsMatrix k c others → length others ≡ length rows → plus_scaled k s (combination k c cs others) (row_at others i) ≡ combination k c more others
      unfolding n more cs
      combined c others m e =
          ap (plus_scaled k s (combination k c cs others)) (sym (combination-mark k f c (length rows) i others m e lt))
          ∙ combination-plus k f c s cs (mark (length rows) i) others m (old.swept.vector.long ∙ sym e) ((mark_vector k f (length rows) i).long ∙ sym e)

      cleared : IsClearAt (i + 1) rows (plus_scaled k s now source)
      unfolding source
      cleared b q lb at_b =
          let vs : IsVector k cols (row_at rows i) = row_vector i lt in
          let ls : length (row_at rows i) ≡ cols = vs.long in
          let ln : length now ≡ cols = old.vector.long in
          let here = has_pivot i p lt found in
          let there = has_pivot b q (omega (arith, lb, lt)) at_b in
          let lq : get_or pivots b 0 < cols = r.within b there.0 in
          let at : get_or (plus_scaled k s now (row_at rows i)) q 0 ≡ k.add (get_or now q 0) (k.mul s (get_or (row_at rows i) q 0)) =
          get_or-zip2 (λ x y. k.add x (k.mul s y)) now (row_at rows i) q 0 0 0 (omega (arith, lq, ln, there.1)) (omega (arith, lq, ls, there.1)) in
          elim (same_or_not b i) [
            | inl e ↦
                let qp : q ≡ p = there.1 ∙ (ap (λ (j : ℕ). get_or pivots j 0) e ∙ sym here.1) in
                let one : get_or (row_at rows i) q 0 ≡ 1 = ap (λ (j : ℕ). get_or (row_at rows i) j 0) (qp ∙ here.1) ∙ r.one i here.0 in
                let factor : s ≡ k.neg (get_or now q 0) = is_s ∙ ap (λ (j : ℕ). k.neg (get_or now j 0)) (sym qp) in
                let low : s < k.size = subst (λ (x : ℕ). x < k.size) (sym is_s) (f.neg_below (get_or now p 0)) in
                at
                ∙ (ap (λ (y : ℕ). k.add (get_or now q 0) (k.mul s y)) one
                ∙ (ap (k.add (get_or now q 0)) (f.mul_comm s 1 ∙ (f.one_mul s low ∙ factor)) ∙ f.add_neg (get_or now q 0)))
            | inr ne ↦
                let zero_there : get_or now q 0 ≡ 0 = old.clear b q (omega (arith, lb, ne)) at_b in
                let none : get_or (row_at rows i) q 0 ≡ 0 = ap (λ (j : ℕ). get_or (row_at rows i) j 0) there.1 ∙ r.alone b i there.0 lt (λ e. ne (sym e)) in
                at
                ∙ (ap (λ (x : ℕ). k.add x (k.mul s (get_or (row_at rows i) q 0))) zero_there
                ∙ (ap (λ (y : ℕ). k.add 0 (k.mul s y)) none ∙ (ap (k.add 0) (mul_zero k f s) ∙ f.zero_add 0 (zero_below k f))))
          ]

      pub swept_more : Swept k cols width (i + 1) rows history before (plus_scaled k s now (row_at rows i)) (plus_scaled k s told (row_at history i))
      unfolding cs source n more
      swept_more =
          let vs : IsVector k cols (row_at rows i) = row_vector i lt in
          let lc : length (combination k cols cs rows) ≡ cols = (combination-vector k f cols cs rows a).long in
          record {
            vector = plus_scaled-vector k f cols s now (row_at rows i) old.vector vs;
            swept = record {
              coefficients = plus_scaled k s cs (mark (length rows) i);
              vector = plus_scaled-vector k f (length rows) s cs (mark (length rows) i) old.swept.vector (mark_vector k f (length rows) i);
              is =
                  ap (λ (v : List ℕ). plus_scaled k s v (row_at rows i)) old.swept.is
                  ∙ (regroup k f s before (combination k cols cs rows) (row_at rows i) (vb.long ∙ sym vs.long) (lc ∙ sym vs.long) ∙ ap (plus_scaled k 1 before) (combined cols rows a refl));
              told_is = ap (λ (v : List ℕ). plus_scaled k s v (row_at history i)) old.swept.told_is ∙ combined width history w same;
            };
            clear = cleared;
          }

-- what is told is a vector
pub told_vector : (k : Ops) → IsField k → (cols width : ℕ) (rows history : List (List ℕ)) (before now told : List ℕ) → IsMatrix k width history → IsSwept k cols width rows history before now told → IsVector k width told
told_vector k f cols width rows history before now told w s = subst (IsVector k width) (sym s.told_is) (combination-vector k f width s.coefficients history w)
