use Rattle.std.proofs.Common.{◌≡◌, ℕ, zero, suc, ◌<◌, List, [], ◌∷◌, length, replicate, refl, ap, sym, ◌∙◌, arith}
use Rattle.std.proofs.lemmas.Simd.{length-replicate}
use Rattle.small_field.specs.Field.{Ops, IsField}
use Rattle.linear_laws.specs.Vectors.{dot, boundary, IsVector, IsMatrix, combination}
use Rattle.linear_laws.proofs.Dot.{dot_below, dot_zeros, dot_added}
use Rattle.small_field.proofs.CallerLemmas.{zero_below, add_zero, mul_zero, zero_mul}
use Rattle.linear_laws.proofs.Span.{combination-vector, zeros-elements}

module _ (k : Ops) (f : IsField k) where
  pub zeros_dot : (m : ℕ) (c : List ℕ) → dot k (replicate m 0) c ≡ 0
  zeros_dot zero c = refl
  zeros_dot (suc m) [] = refl
  zeros_dot (suc m) (x ∷ c) = ap (λ (a : ℕ). k.add a (dot k (replicate m 0) c)) (zero_mul k f x) ∙ (ap (k.add 0) (zeros_dot m c) ∙ f.zero_add 0 (zero_below k f))

  -- the coboundary of x on c is x on the boundary of c
  pub adjoint : (m : ℕ) (x c : List ℕ) (rows : List (List ℕ)) → IsMatrix k m rows → length x ≡ length rows → length c ≡ m → dot k (combination k m x rows) c ≡ dot k x (boundary k rows c)
  adjoint m [] c rows a l h = zeros_dot m c
  adjoint m (x ∷ xs) c [] a l h = absurd (omega arith)
  adjoint m (x ∷ xs) c (r ∷ rows) a l h =
      let C : List ℕ = combination k m xs rows in
      let lC : length C ≡ m = (combination-vector k f m xs rows a.1).long in
      dot_added k f x C r c (lC ∙ sym a.0.long) (a.0.long ∙ sym h)
      ∙ (ap (λ (n : ℕ). k.add n (k.mul x (dot k r c))) (adjoint m xs c rows a.1 (omega arith) h) ∙ f.add_comm (dot k xs (boundary k rows c)) (k.mul x (dot k r c)))

  -- 0 times what it is, before the rest
  pub skip_left : (y d : ℕ) → d < k.size → k.add (k.mul 0 y) d ≡ d
  skip_left y d h = ap (λ (n : ℕ). k.add n d) (zero_mul k f y) ∙ f.zero_add d h

  pub skip_right : (x d : ℕ) → d < k.size → k.add (k.mul x 0) d ≡ d
  skip_right x d h = ap (λ (n : ℕ). k.add n d) (mul_zero k f x) ∙ f.zero_add d h

  -- what is zero on each vector is zero
  pub killed : (n : ℕ) (x : List ℕ) → IsVector k n x → ((t : List ℕ) → IsVector k n t → dot k x t ≡ 0) → x ≡ replicate n 0
  killed zero [] v h = refl
  killed zero (x ∷ xs) v h = absurd (omega (arith, v.long))
  killed (suc n) [] v h = absurd (omega (arith, v.long))
  killed (suc n) (x ∷ xs) v h =
      let l : length xs ≡ n = let e : length (x ∷ xs) ≡ suc n = v.long in omega arith in
      let one : k.add (k.mul x 1) (dot k xs (replicate n 0)) ≡ 0 = h (1 ∷ replicate n 0) (record { long = ap suc (length-replicate n 0); elements = (f.one_below, zeros-elements k f n) }) in
      let x0 : x ≡ 0 =
      sym (f.one_mul x v.elements.0) ∙ (f.mul_comm 1 x ∙ (sym (add_zero k f (k.mul x 1) (f.mul_below x 1)) ∙ (ap (k.add (k.mul x 1)) (sym (dot_zeros k f xs n)) ∙ one))) in
      let more : xs ≡ replicate n 0 =
      killed n xs (record { long = l; elements = v.elements.1 })
      (λ t w. sym (skip_right x (dot k xs t) (dot_below k f xs t)) ∙ h (0 ∷ t) (record { long = ap suc w.long; elements = (zero_below k f, w.elements) })) in
      ap (λ (y : ℕ). y ∷ xs) x0 ∙ ap (λ (r : List ℕ). 0 ∷ r) more
