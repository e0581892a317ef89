use Rattle.std.proofs.Common.{◌≡◌, ◌≢◌, ℕ, zero, suc, ◌<◌, ◌≤◌, ◌⊎◌, inl, inr, List, [], ◌∷◌, length, map, replicate, get_or, refl, ap, sym, ◌∙◌, arith, subst}
use Rattle.std.specs.List.{AllByRecursion}
use native.Mathlib.Decide.{dec_lt}
use Prim.{yes, no}
use Rattle.small_field.specs.Field.{Ops, IsField}
use Rattle.linear_laws.specs.Vectors.{IsVector, IsMatrix, IsNonzero, IsDependent, plus_scaled, combination, InSpan, IsIndependent}
use Rattle.small_field.specs.Values.{AreElements}
use Rattle.small_field.proofs.CallerLemmas.{mul_neg, neg_unique}
use Rattle.linear_laws.proofs.Solve.{more_are_dependent, rest}
use Rattle.linear_laws.proofs.Span.{combination-vector, combination-zeros, combination-plus, zero_times}
use Rattle.linear_laws.proofs.Decide.{decide, zeros_of_dots}
use Rattle.linear_laws.proofs.Scaled.{same_or_not, span_scaled}

zeros_at : (m i : ℕ) → ◌≡◌ {A = ℕ} (get_or (replicate m 0) i 0) 0
zeros_at zero i = refl
zeros_at (suc m) zero = refl
zeros_at (suc m) (suc i) = zeros_at m i

module _ (k : Ops) (f : IsField k) where
  pub no_nonzero : (m : ℕ) (cs : List ℕ) → cs ≡ replicate m 0 → IsNonzero cs → ⊥
  no_nonzero m cs e ne = ne.1 (ap (λ (r : List ℕ). get_or r ne.0 0) e ∙ zeros_at m ne.0)

  -- w + c v is zero: v is a multiple of w
  solved_for : (n c : ℕ) (w v : List ℕ) → c < k.size → c ≢ 0 → length w ≡ n → length v ≡ n → AreElements k v → plus_scaled k c w v ≡ replicate n 0 → v ≡ map (k.mul (k.neg (k.inv c))) w
  solved_for zero c [] [] lc ne lw lv el e = refl
  solved_for zero c (x ∷ w) v lc ne lw lv el e = absurd (omega arith)
  solved_for zero c [] (y ∷ v) lc ne lw lv el e = absurd (omega arith)
  solved_for (suc n) c [] v lc ne lw lv el e = absurd (omega arith)
  solved_for (suc n) c (x ∷ w) [] lc ne lw lv el e = absurd (omega arith)
  solved_for (suc n) c (x ∷ w) (y ∷ v) lc ne lw lv el e =
      let here : k.add x (k.mul c y) ≡ 0 = ap (λ (r : List ℕ). get_or r 0 0) e in
      let more : plus_scaled k c w v ≡ replicate n 0 = ap rest e in
      let one : k.mul (k.inv c) c ≡ 1 = f.mul_comm (k.inv c) c ∙ f.mul_inv c lc ne in
      let cy : k.mul c y ≡ k.neg x = neg_unique k f x (k.mul c y) (f.mul_below c y) here in
      let is : y ≡ k.mul (k.neg (k.inv c)) x =
      sym (f.one_mul y el.0) ∙ (ap (λ (m : ℕ). k.mul m y) (sym one) ∙ (f.mul_assoc (k.inv c) c y ∙ (ap (k.mul (k.inv c)) cy ∙ (mul_neg k f (k.inv c) x
      ∙ sym (f.mul_comm (k.neg (k.inv c)) x ∙ (mul_neg k f x (k.inv c) ∙ ap k.neg (f.mul_comm x (k.inv c)))))))) in
      ap (λ (m : ℕ). m ∷ v) is ∙ ap (λ (r : List ℕ). k.mul (k.neg (k.inv c)) x ∷ r) (solved_for n c w v lc ne (omega arith) (omega arith) el.1 more)

  related_in_span : (n : ℕ) (us : List (List ℕ)) (v cs : List ℕ) → IsMatrix k n us → IsVector k n v → IsIndependent k n us → IsVector k (suc (length us)) cs → IsNonzero cs → combination k n cs (v ∷ us) ≡ replicate n 0 → InSpan k n us v
  related_in_span n us v [] a b ind w ne z = absurd (omega (arith, w.long))
  related_in_span n us v (c ∷ ds) a b ind w ne z =
      let ld : length ds ≡ length us = let l : length (c ∷ ds) ≡ suc (length us) = w.long in omega arith in
      let D : List ℕ = combination k n ds us in
      let vD : IsVector k n D = combination-vector k f n ds us a in
      let vd : IsVector k (length us) ds = record { long = ld; elements = w.elements.1 } in
      elim (same_or_not c 0) [
        | inl e ↦
            let D0 : D ≡ replicate n 0 = sym (zero_times k f D v (vD.long ∙ sym b.long) vD.elements) ∙ (ap (λ (m : ℕ). plus_scaled k m D v) (sym e) ∙ z) in
            let all : c ∷ ds ≡ replicate (suc (length us)) 0 = ap (λ (m : ℕ). m ∷ ds) e ∙ ap (λ (r : List ℕ). 0 ∷ r) (ind ds vd D0) in
            absurd (no_nonzero (suc (length us)) (c ∷ ds) all ne)
        | inr nz ↦
            let is : v ≡ map (k.mul (k.neg (k.inv c))) D = solved_for n c D v w.elements.0 nz vD.long b.long b.elements z in
            subst (InSpan k n us) (sym is) (span_scaled k f n (k.neg (k.inv c)) us D a vD.long (record { coefficients = ds; vector = vd; is = refl }))
      ]

  -- a vector is in the span of independent vectors, or is independent of them
  pub in_span_or_not : (n : ℕ) (us : List (List ℕ)) (v : List ℕ) → IsMatrix k n us → IsVector k n v → IsIndependent k n us → InSpan k n us v ⊎ IsIndependent k n (v ∷ us)
  in_span_or_not n us v a b ind =
      elim (decide k f n (v ∷ us) (b, a)) [
        | inl i ↦ inr i
        | inr r ↦ inl (related_in_span n us v r.coefficients a b ind r.vector r.nonzero r.zero)
      ]

  -- the coefficients of vectors in a span
  pub record Coordinates (n : ℕ) (vs us : List (List ℕ)) : Type 0 where
    pub rows : List (List ℕ)
    pub long : length rows ≡ length us
    pub matrix : IsMatrix k (length vs) rows
    pub are : map (λ cs. combination k n cs vs) rows ≡ us

  pub coordinates : (n : ℕ) (vs us : List (List ℕ)) → AllByRecursion (InSpan k n vs) us → Coordinates n vs us
  coordinates n vs [] h = record { rows = []; long = refl; matrix = tt; are = refl }
  coordinates n vs (u ∷ us) h =
      let c : Coordinates n vs us = coordinates n vs us h.1 in
      record {
        rows = h.0.coefficients ∷ c.rows;
        long = ap suc c.long;
        matrix = (h.0.vector, c.matrix);
        are = ap (λ (w : List ℕ). w ∷ map (λ cs. combination k n cs vs) c.rows) h.0.is ∙ ap (λ (ws : List (List ℕ)). u ∷ ws) c.are;
      }

  -- a combination of combinations
  pub combination_twice : (n : ℕ) (cs : List ℕ) (rows vs : List (List ℕ)) → IsMatrix k n vs → IsMatrix k (length vs) rows → combination k n cs (map (λ ds. combination k n ds vs) rows) ≡ combination k n (combination k (length vs) cs rows) vs
  combination_twice n [] rows vs a b = sym (combination-zeros k f n (length vs) vs a)
  combination_twice n (c ∷ cs) [] vs a b = sym (combination-zeros k f n (length vs) vs a)
  combination_twice n (c ∷ cs) (r ∷ rows) vs a b =
      ap (λ (w : List ℕ). plus_scaled k c w (combination k n r vs)) (combination_twice n cs rows vs a b.1)
      ∙ combination-plus k f n c (combination k (length vs) cs rows) r vs a (combination-vector k f (length vs) cs rows b.1).long b.0.long

  -- independent vectors in the span of others are no more than those
  pub no_more : (n : ℕ) (us vs : List (List ℕ)) → IsMatrix k n vs → IsIndependent k n us → AllByRecursion (InSpan k n vs) us → length us ≤ length vs
  no_more n us vs a ind h =
      elim (dec_lt (length vs) (length us)) [
        | yes more ↦
            let c : Coordinates n vs us = coordinates n vs us h in
            let d : IsDependent k (length vs) c.rows = more_are_dependent k f (length vs) c.rows c.matrix (subst (λ (m : ℕ). length vs < m) (sym c.long) more) in
            let z : combination k (length vs) d.coefficients c.rows ≡ replicate (length vs) 0 = zeros_of_dots k f (length vs) d.coefficients c.rows c.matrix d.zero in
            let zero_of_us : combination k n d.coefficients us ≡ replicate n 0 =
            ap (combination k n d.coefficients) (sym c.are)
            ∙ (combination_twice n d.coefficients c.rows vs a c.matrix ∙ (ap (λ (w : List ℕ). combination k n w vs) z ∙ combination-zeros k f n (length vs) vs a)) in
            let all : d.coefficients ≡ replicate (length us) 0 = ind d.coefficients (subst (λ (m : ℕ). IsVector k m d.coefficients) c.long d.vector) zero_of_us in
            absurd (no_nonzero (length us) d.coefficients all d.nonzero)
        | no m ↦ omega arith
      ]
