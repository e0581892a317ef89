-- Solutions by a reduced form and its history.
use Rattle.std.proofs.Common.{◌≡◌, ℕ, zero, suc, ◌+◌, ◌<◌, List, [], ◌∷◌, length, map, drop, replicate, get_or, Some, true, false, refl, ap, sym, ◌∙◌, arith, subst}
use Rattle.std.proofs.lemmas.List.{length-map}
use Rattle.small_field.specs.Field.{Ops, IsField}
use Rattle.linear_laws.specs.Vectors.{IsVector, IsMatrix, InSpan, plus_scaled, combination}
use Rattle.small_field.specs.Values.{AreElements}
use Rattle.linear_laws.specs.Echelon.{is_nonzero, rank_of}
use Rattle.small_field.proofs.CallerLemmas.{neg_mul, neg_unique, neg_neg}
use Rattle.linear_laws.proofs.CallerLemmas.{none_is_zeros, zeros_are_none, combination-vector, combination_twice, span_plus, span_scaled, zero_at_pivots}
use Rattle.field_matrix.specs.Solutions.{IsElimination}
use Rattle.field_matrix.specs.Steps.{IsSwept, IsClearAt}
use Rattle.field_matrix.proofs.Sweep.{place_is}

module _ (k : Ops) (f : IsField k) where
  negatives-elements : (xs : List ℕ) → AreElements k (map k.neg xs)
  negatives-elements [] = tt
  negatives-elements (x ∷ xs) = (f.neg_below x, negatives-elements xs)

  pub negatives-vector : (n : ℕ) (xs : List ℕ) → IsVector k n xs → IsVector k n (map k.neg xs)
  negatives-vector n xs v = record { long = length-map xs k.neg ∙ v.long; elements = negatives-elements xs }

  -- the negatives are multiples
  negatives_scaled : (xs : List ℕ) → AreElements k xs → map k.neg xs ≡ map (k.mul (k.neg 1)) xs
  negatives_scaled [] h = refl
  negatives_scaled (x ∷ xs) h =
      ap (λ (y : ℕ). y ∷ map k.neg xs) (ap k.neg (sym (f.one_mul x h.0)) ∙ sym (neg_mul k f 1 x)) ∙ ap (λ (r : List ℕ). k.mul (k.neg 1) x ∷ r) (negatives_scaled xs h.1)

  -- what the negatives cancel
  cancelled : (m : ℕ) (rhs xs : List ℕ) → IsVector k m rhs → IsVector k m xs → plus_scaled k 1 (map k.neg rhs) xs ≡ replicate m 0 → xs ≡ rhs
  cancelled zero [] [] v w e = refl
  cancelled zero (r ∷ rhs) xs v w e = absurd (omega (arith, v.long))
  cancelled zero [] (x ∷ xs) v w e = absurd (omega (arith, w.long))
  cancelled (suc m) [] xs v w e = absurd (omega (arith, v.long))
  cancelled (suc m) (r ∷ rhs) [] v w e = absurd (omega (arith, w.long))
  cancelled (suc m) (r ∷ rhs) (x ∷ xs) v w e =
      let lr : length rhs ≡ m = let l : length (r ∷ rhs) ≡ suc m = v.long in omega arith in
      let lx : length xs ≡ m = let l : length (x ∷ xs) ≡ suc m = w.long in omega arith in
      let here : k.add (k.neg r) (k.mul 1 x) ≡ 0 = ap (λ (u : List ℕ). get_or u 0 0) e in
      let rest : plus_scaled k 1 (map k.neg rhs) xs ≡ replicate m 0 = ap (drop 1) e in
      let is : x ≡ r =
      sym (f.one_mul x w.elements.0) ∙ (neg_unique k f (k.neg r) (k.mul 1 x) (f.mul_below 1 x) here ∙ neg_neg k f r v.elements.0) in
      ap (λ (y : ℕ). y ∷ xs) is ∙ ap (λ (u : List ℕ). r ∷ u) (cancelled m rhs xs (record { long = lr; elements = v.elements.1 }) (record { long = lx; elements = w.elements.1 }) rest)

  module _ (n : ℕ) (rows reduced history : List (List ℕ)) (e : IsElimination k n rows reduced history) (right left told : List ℕ) (vr : IsVector k n right) (s : IsSwept k n (length rows) reduced history (map k.neg right) left told) where
    -- the coefficients are a vector
    pub told_vector : IsVector k (length rows) told
    told_vector = subst (IsVector k (length rows)) (sym s.told_is) (combination-vector k f (length rows) s.coefficients history e.is_history.matrix)

    -- nothing is left of the right side: the history has the coefficients
    pub solved : IsVector k n left → is_nonzero left ≡ false → combination k n told rows ≡ right
    solved vl none =
        let zeros : left ≡ replicate n 0 = none_is_zeros left none ∙ ap (λ (j : ℕ). replicate {A = ℕ} j 0) vl.long in
        ap (λ (cs : List ℕ). combination k n cs rows) s.told_is
        ∙ (sym (combination_twice k f n s.coefficients history rows e.is_matrix e.is_history.matrix)
        ∙ (ap (combination k n s.coefficients) e.is_history.gives
        ∙ cancelled n right (combination k n s.coefficients reduced) vr (combination-vector k f n s.coefficients reduced e.is_reduced.matrix) (sym s.is ∙ zeros)))

    -- something is left: there are no coefficients
    pub unsolvable : IsClearAt (length reduced) reduced left → is_nonzero left ≡ true → InSpan k n rows right → ⊥
    unsolvable clear some p =
        let negative : InSpan k n rows (map k.neg right) = subst (InSpan k n rows) (sym (negatives_scaled right vr.elements)) (span_scaled k f n (k.neg 1) rows right e.is_matrix vr.long p) in
        let d : InSpan k n rows (combination k n s.coefficients reduced) =
        e.is_reduced.span.back (combination k n s.coefficients reduced) (record { coefficients = s.coefficients; vector = s.vector; is = refl }) in
        let inside : InSpan k n rows left = subst (InSpan k n rows) (sym s.is) (span_plus k f n 1 rows (map k.neg right) (combination k n s.coefficients reduced) e.is_matrix negative d) in
        let lp : length e.is_reduced.pivots ≡ rank_of reduced = e.is_reduced.rank_is in
        let few = e.is_reduced.reduced.few in
        let at : (i : ℕ) → i < rank_of reduced → get_or left (get_or e.is_reduced.pivots i 0) 0 ≡ 0 =
        λ i lt.
        clear i (get_or e.is_reduced.pivots i 0) (omega (arith, lt, lp, few)) (place_is k f n reduced e.is_reduced.matrix e.is_reduced.pivots e.is_reduced.reduced i (omega (arith, lt, lp))) in
        let none : left ≡ replicate n 0 = zero_at_pivots k f n (rank_of reduced) rows reduced e.is_reduced left inside at in
        let no : true ≡ false = sym some ∙ (ap is_nonzero none ∙ zeros_are_none n) in
        cc
