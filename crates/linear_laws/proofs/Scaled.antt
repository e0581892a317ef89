use Rattle.std.proofs.Common.{◌≡◌, ◌≢◌, ℕ, zero, suc, ◌<◌, List, [], ◌∷◌, length, length-set, map, replicate, get_or, get_or-set_same, set, refl, ap, sym, ◌∙◌, arith, subst, ◌⊎◌, inl, inr}
use Rattle.std.specs.List.{AllByRecursion}
use Rattle.std.proofs.lemmas.List.{set-set, set-get_or}
use native.Mathlib.Decide.{dec_lt}
use Prim.{yes, no}
use Rattle.small_field.specs.Field.{Ops, IsField}
use Rattle.linear_laws.specs.Vectors.{IsVector, IsMatrix, plus_scaled, InSpan, SameSpan, row_at}
use Rattle.small_field.specs.Values.{AreElements}
use Rattle.linear_laws.proofs.Span.{same_span, span_rows, span_zero, span_plus}
use Rattle.linear_laws.proofs.Alls.{all_set, all_at}

pub same_or_not : (a b : ℕ) → (a ≡ b) ⊎ (a ≢ b)
same_or_not a b = elim (dec_lt a b) [ yes l ↦ inr (omega arith) | no m ↦ elim (dec_lt b a) [ yes l ↦ inr (omega arith) | no n ↦ inl (omega arith) ] ]

pub one_is_not_zero : ◌≡◌ {A = ℕ} 1 0 → ⊥
one_is_not_zero e = cc

module _ (k : Ops) (f : IsField k) where
  -- a row times a factor
  pub scaled_is : (c n : ℕ) (xs : List ℕ) → length xs ≡ n → map (k.mul c) xs ≡ plus_scaled k c (replicate n 0) xs
  scaled_is c zero [] h = refl
  scaled_is c zero (x ∷ xs) h = absurd (omega arith)
  scaled_is c (suc n) [] h = absurd (omega arith)
  scaled_is c (suc n) (x ∷ xs) h = ap (λ y. y ∷ map (k.mul c) xs) (sym (f.zero_add (k.mul c x) (f.mul_below c x))) ∙ ap (λ r. k.add 0 (k.mul c x) ∷ r) (scaled_is c n xs (omega arith))

  scaled_back : (c : ℕ) (xs : List ℕ) → c < k.size → c ≢ 0 → AreElements k xs → map (k.mul (k.inv c)) (map (k.mul c) xs) ≡ xs
  scaled_back c [] lt ne h = refl
  scaled_back c (x ∷ xs) lt ne h =
      let one : k.mul (k.inv c) c ≡ 1 = f.mul_comm (k.inv c) c ∙ f.mul_inv c lt ne in
      ap (λ y. y ∷ map (k.mul (k.inv c)) (map (k.mul c) xs)) (sym (f.mul_assoc (k.inv c) c x) ∙ (ap (λ y. k.mul y x) one ∙ f.one_mul x h.0))
      ∙ ap (λ r. x ∷ r) (scaled_back c xs lt ne h.1)

  length-scaled : (c : ℕ) (xs : List ℕ) → length (map (k.mul c) xs) ≡ length xs
  length-scaled c [] = refl
  length-scaled c (x ∷ xs) = ap suc (length-scaled c xs)

  scaled-elements : (c : ℕ) (xs : List ℕ) → AreElements k (map (k.mul c) xs)
  scaled-elements c [] = tt
  scaled-elements c (x ∷ xs) = (f.mul_below c x, scaled-elements c xs)

  pub scaled-vector : (n c : ℕ) (xs : List ℕ) → IsVector k n xs → IsVector k n (map (k.mul c) xs)
  scaled-vector n c xs v = record { long = length-scaled c xs ∙ v.long; elements = scaled-elements c xs }

  pub scaled_at : (c : ℕ) (xs : List ℕ) (j : ℕ) → j < length xs → get_or (map (k.mul c) xs) j 0 ≡ k.mul c (get_or xs j 0)
  scaled_at c [] j lt = absurd (omega arith)
  scaled_at c (x ∷ xs) zero lt = refl
  scaled_at c (x ∷ xs) (suc j) lt = scaled_at c xs j (omega arith)

  pub span_scaled : (n c : ℕ) (rows : List (List ℕ)) (v : List ℕ) → IsMatrix k n rows → length v ≡ n → InSpan k n rows v → InSpan k n rows (map (k.mul c) v)
  span_scaled n c rows v a l p = subst (InSpan k n rows) (sym (scaled_is c n v l)) (span_plus k f n c rows (replicate n 0) v a (span_zero k f n rows a) p)

  -- row i times c, which is not zero
  pub scaling_keeps_span : (n c i : ℕ) (rows : List (List ℕ)) → IsMatrix k n rows → i < length rows → c < k.size → c ≢ 0 → IsMatrix k n (set rows i (map (k.mul c) (row_at rows i))) × SameSpan k n rows (set rows i (map (k.mul c) (row_at rows i)))
  scaling_keeps_span n c i rows a li lc ne =
      let x : List ℕ = row_at rows i in
      let w : List ℕ = map (k.mul c) x in
      let vx : IsVector k n x = all_at (IsVector k n) rows i [] li a in
      let vw : IsVector k n w = scaled-vector n c x vx in
      let b : IsMatrix k n (set rows i w) = all_set (IsVector k n) rows i w vw a in
      let mine : AllByRecursion (InSpan k n rows) rows = span_rows k f n rows a in
      let theirs : AllByRecursion (InSpan k n (set rows i w)) (set rows i w) = span_rows k f n (set rows i w) b in
      let long : length (set rows i w) ≡ length rows = length-set rows i w in
      let new : AllByRecursion (InSpan k n rows) (set rows i w) = all_set (InSpan k n rows) rows i w (span_scaled n c rows x a vx.long (all_at (InSpan k n rows) rows i [] li mine)) mine in
      let w_in : InSpan k n (set rows i w) w = subst (InSpan k n (set rows i w)) (get_or-set_same rows i w [] li) (all_at (InSpan k n (set rows i w)) (set rows i w) i [] (omega arith) theirs) in
      let x_in : InSpan k n (set rows i w) x = subst (InSpan k n (set rows i w)) (scaled_back c x lc ne vx.elements) (span_scaled n (k.inv c) (set rows i w) w b vw.long w_in) in
      let old : AllByRecursion (InSpan k n (set rows i w)) rows = subst (AllByRecursion (InSpan k n (set rows i w))) (set-set rows i w (get_or rows i []) ∙ set-get_or rows i []) (all_set (InSpan k n (set rows i w)) (set rows i w) i x x_in theirs) in
      (b, same_span k f n rows (set rows i w) a b old new)
