use Rattle.std.proofs.Common.{◌≡◌, ℕ, suc, ◌<◌, inl, inr, List, [], ◌∷◌, ◌++◌, length, drop, replicate, refl, ap, sym, ◌∙◌, arith, subst}
use Rattle.std.specs.List.{AllByRecursion}
use Rattle.small_field.specs.Field.{Ops, IsField}
use Rattle.linear_laws.specs.Vectors.{dot, IsVector, IsMatrix, plus_scaled, combination, InSpan, IsIndependent, IsDependent}
use Rattle.linear_laws.specs.Triangle.{Triangle, TriangleOver}
use Rattle.linear_laws.proofs.Dot.{dot_below, dot_added, dot_zeros, dot_comm}
use Rattle.small_field.proofs.CallerLemmas.{zero_below, mul_zero, factor_zero}
use Rattle.linear_laws.proofs.Solve.{more_are_dependent}
use Rattle.linear_laws.proofs.Span.{combination-vector, zero_times}
use Rattle.linear_laws.proofs.Decide.{zeros_of_dots}
use Rattle.linear_laws.proofs.Dimension.{in_span_or_not, no_nonzero}

module _ (k : Ops) (f : IsField k) where
  -- a combination of vectors that are zero on a test
  pub dot_of_none : (n : ℕ) (cs t : List ℕ) (ds : List (List ℕ)) → IsMatrix k n ds → length t ≡ n → AllByRecursion (λ d. dot k d t ≡ 0) ds → dot k (combination k n cs ds) t ≡ 0
  dot_of_none n [] t ds a l h = dot_comm k f (replicate n 0) t ∙ dot_zeros k f t n
  dot_of_none n (c ∷ cs) t [] a l h = dot_comm k f (replicate n 0) t ∙ dot_zeros k f t n
  dot_of_none n (c ∷ cs) t (d ∷ ds) a l h =
      let C : List ℕ = combination k n cs ds in
      dot_added k f c C d t ((combination-vector k f n cs ds a.1).long ∙ sym a.0.long) (a.0.long ∙ sym l)
      ∙ (ap (λ (x : ℕ). k.add x (k.mul c (dot k d t))) (dot_of_none n cs t ds a.1 l h.1)
      ∙ (ap (λ (x : ℕ). k.add 0 (k.mul c x)) h.0 ∙ (ap (k.add 0) (mul_zero k f c) ∙ f.zero_add 0 (zero_below k f))))

  -- vectors with a triangle of tests are independent
  pub triangle_independent : (n : ℕ) (ds ts : List (List ℕ)) → IsMatrix k n ds → IsMatrix k n ts → Triangle k ds ts → IsIndependent k n ds
  triangle_independent n [] [] a b h [] v e = refl
  triangle_independent n [] [] a b h (c ∷ cs) v e = absurd (omega (arith, v.long))
  triangle_independent n [] (t ∷ ts) a b h cs v e = absurd h
  triangle_independent n (d ∷ ds) [] a b h cs v e = absurd h
  triangle_independent n (d ∷ ds) (t ∷ ts) a b h [] v e = absurd (omega (arith, v.long))
  triangle_independent n (d ∷ ds) (t ∷ ts) a b h (c ∷ cs) v e =
      let C : List ℕ = combination k n cs ds in
      let vC : IsVector k n C = combination-vector k f n cs ds a.1 in
      let lc : length cs ≡ length ds = let l : length (c ∷ cs) ≡ suc (length ds) = v.long in omega arith in
      let sum : dot k (plus_scaled k c C d) t ≡ k.add (dot k C t) (k.mul c (dot k d t)) = dot_added k f c C d t (vC.long ∙ sym a.0.long) (a.0.long ∙ sym b.0.long) in
      let none : dot k C t ≡ 0 = dot_of_none n cs t ds a.1 b.0.long h.1 in
      let prod : k.mul c (dot k d t) ≡ 0 =
      sym (f.zero_add (k.mul c (dot k d t)) (f.mul_below c (dot k d t))) ∙ (ap (λ (x : ℕ). k.add x (k.mul c (dot k d t))) (sym none)
      ∙ (sym sum ∙ (ap (λ (w : List ℕ). dot k w t) e ∙ (dot_comm k f (replicate n 0) t ∙ dot_zeros k f t n)))) in
      let c0 : c ≡ 0 = factor_zero k f (dot k d t) c (dot_below k f d t) h.0 v.elements.0 (f.mul_comm (dot k d t) c ∙ prod) in
      let C0 : C ≡ replicate n 0 = sym (zero_times k f C d (vC.long ∙ sym a.0.long) vC.elements) ∙ (ap (λ (x : ℕ). plus_scaled k x C d) (sym c0) ∙ e) in
      ap (λ (x : ℕ). x ∷ cs) c0 ∙ ap (λ (r : List ℕ). 0 ∷ r) (triangle_independent n ds ts a.1 b.1 h.2 cs (record { long = lc; elements = v.elements.1 }) C0)

  pub joined : (ds ts es us : List (List ℕ)) → TriangleOver k es ds ts → Triangle k es us → Triangle k (ds ++ es) (ts ++ us)
  joined [] [] es us h g = g
  joined [] (t ∷ ts) es us h g = absurd h
  joined (d ∷ ds) [] es us h g = absurd h
  joined (d ∷ ds) (t ∷ ts) es us h g = (h.0, h.1, joined ds ts es us h.2 g)

  -- n independent vectors of n coordinates span
  pub full_spans : (n : ℕ) (ds : List (List ℕ)) (z : List ℕ) → IsMatrix k n ds → IsVector k n z → IsIndependent k n ds → length ds ≡ n → InSpan k n ds z
  full_spans n ds z a b ind l =
      elim (in_span_or_not k f n ds z a b ind) [
        | inl p ↦ p
        | inr i ↦
            let more : n < length (z ∷ ds) = omega arith in
            let d : IsDependent k n (z ∷ ds) = more_are_dependent k f n (z ∷ ds) (b, a) more in
            absurd (no_nonzero k f (length (z ∷ ds)) d.coefficients (i d.coefficients d.vector (zeros_of_dots k f n d.coefficients (z ∷ ds) (b, a) d.zero)) d.nonzero)
      ]

  -- where the tests of the vectors in front are zero on a combination, those have no part in it
  pub front_has_none : (n : ℕ) (ds ts es : List (List ℕ)) (cs : List ℕ) → IsMatrix k n (ds ++ es) → IsMatrix k n ts → TriangleOver k es ds ts → IsVector k (length (ds ++ es)) cs → AllByRecursion (λ t. dot k (combination k n cs (ds ++ es)) t ≡ 0) ts → combination k n cs (ds ++ es) ≡ combination k n (drop (length ds) cs) es
  front_has_none n [] [] es cs a b h v z = refl
  front_has_none n [] (t ∷ ts) es cs a b h v z = absurd h
  front_has_none n (d ∷ ds) [] es cs a b h v z = absurd h
  front_has_none n (d ∷ ds) (t ∷ ts) es [] a b h v z = absurd (omega (arith, v.long))
  front_has_none n (d ∷ ds) (t ∷ ts) es (c ∷ cs) a b h v z =
      let C : List ℕ = combination k n cs (ds ++ es) in
      let vC : IsVector k n C = combination-vector k f n cs (ds ++ es) a.1 in
      let lc : length cs ≡ length (ds ++ es) = let l : length (c ∷ cs) ≡ suc (length (ds ++ es)) = v.long in omega arith in
      let sum : dot k (plus_scaled k c C d) t ≡ k.add (dot k C t) (k.mul c (dot k d t)) = dot_added k f c C d t (vC.long ∙ sym a.0.long) (a.0.long ∙ sym b.0.long) in
      let none : dot k C t ≡ 0 = dot_of_none n cs t (ds ++ es) a.1 b.0.long h.1 in
      let prod : k.mul c (dot k d t) ≡ 0 = sym (f.zero_add (k.mul c (dot k d t)) (f.mul_below c (dot k d t))) ∙ (ap (λ (x : ℕ). k.add x (k.mul c (dot k d t))) (sym none) ∙ (sym sum ∙ z.0)) in
      let c0 : c ≡ 0 = factor_zero k f (dot k d t) c (dot_below k f d t) h.0 v.elements.0 (f.mul_comm (dot k d t) c ∙ prod) in
      let same : plus_scaled k c C d ≡ C = ap (λ (x : ℕ). plus_scaled k x C d) c0 ∙ zero_times k f C d (vC.long ∙ sym a.0.long) vC.elements in
      same ∙ front_has_none n ds ts es cs a.1 b.1 h.2 (record { long = lc; elements = v.elements.1 }) (subst (λ (w : List ℕ). AllByRecursion (λ t. dot k w t ≡ 0) ts) same z.1)

  dropped : (xs es : List (List ℕ)) (cs : List ℕ) → IsVector k (length (xs ++ es)) cs → IsVector k (length es) (drop (length xs) cs)
  dropped [] es cs v = v
  dropped (x ∷ xs) es [] v = absurd (omega (arith, v.long))
  dropped (x ∷ xs) es (c ∷ cs) v = let l : length cs ≡ length (xs ++ es) = let e : length (c ∷ cs) ≡ suc (length (xs ++ es)) = v.long in omega arith in dropped xs es cs (record { long = l; elements = v.elements.1 })

  -- a vector on which the tests in front are zero is a combination of the others
  pub certified : (n : ℕ) (xs ws es us : List (List ℕ)) (z : List ℕ) → IsMatrix k n (xs ++ es) → IsMatrix k n (ws ++ us) → IsMatrix k n ws → TriangleOver k es xs ws → Triangle k es us → length (xs ++ es) ≡ n → IsVector k n z → AllByRecursion (λ w. dot k z w ≡ 0) ws → (cs : List ℕ) × IsVector k (length es) cs × (z ≡ combination k n cs es)
  certified n xs ws es us z a b b1 h g l v killed =
      let p : InSpan k n (xs ++ es) z = full_spans n (xs ++ es) z a v (triangle_independent n (xs ++ es) (ws ++ us) a b (joined xs ws es us h g)) l in (
        drop (length xs) p.coefficients,
        dropped xs es p.coefficients p.vector,
        sym p.is ∙ front_has_none n xs ws es p.coefficients a b1 h p.vector (subst (λ (w : List ℕ). AllByRecursion (λ t. dot k w t ≡ 0) ws) (sym p.is) killed),
      )
