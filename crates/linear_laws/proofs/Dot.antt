use Rattle.std.proofs.Common.{◌≡◌, ℕ, zero, suc, ◌<◌, List, [], ◌∷◌, length, replicate, refl, ap, sym, ◌∙◌, arith}
use Rattle.small_field.specs.Field.{Ops, IsField}
use Rattle.small_field.proofs.CallerLemmas.{zero_below, mul_zero, add_swap, add_mul}
use Rattle.linear_laws.specs.Vectors.{dot, plus_scaled}

module _ (k : Ops) (f : IsField k) where
  pub dot_below : (xs ys : List ℕ) → dot k xs ys < k.size
  dot_below [] ys = zero_below k f
  dot_below (x ∷ xs) [] = zero_below k f
  dot_below (x ∷ xs) (y ∷ ys) = f.add_below (k.mul x y) (dot k xs ys)

  pub dot_zeros : (xs : List ℕ) (n : ℕ) → dot k xs (replicate n 0) ≡ 0
  dot_zeros [] n = refl
  dot_zeros (x ∷ xs) zero = refl
  dot_zeros (x ∷ xs) (suc n) = ap (λ a. k.add a (dot k xs (replicate n 0))) (mul_zero k f x) ∙ (ap (λ a. k.add 0 a) (dot_zeros xs n) ∙ f.zero_add 0 (zero_below k f))

  -- a row plus a multiple of another
  pub dot_added : (s : ℕ) (xs ys zs : List ℕ) → length xs ≡ length ys → length ys ≡ length zs → dot k (plus_scaled k s xs ys) zs ≡ k.add (dot k xs zs) (k.mul s (dot k ys zs))
  dot_added s [] [] zs a b = sym (ap (λ n. k.add 0 n) (mul_zero k f s) ∙ f.zero_add 0 (zero_below k f))
  dot_added s [] (y ∷ ys) zs a b = absurd (omega arith)
  dot_added s (x ∷ xs) [] zs a b = absurd (omega arith)
  dot_added s (x ∷ xs) (y ∷ ys) [] a b = absurd (omega arith)
  dot_added s (x ∷ xs) (y ∷ ys) (z ∷ zs) a b =
      let rest : dot k (plus_scaled k s xs ys) zs ≡ k.add (dot k xs zs) (k.mul s (dot k ys zs)) = dot_added s xs ys zs (omega arith) (omega arith) in
      let here : k.mul (k.add x (k.mul s y)) z ≡ k.add (k.mul x z) (k.mul s (k.mul y z)) = add_mul k f x (k.mul s y) z ∙ ap (λ n. k.add (k.mul x z) n) (f.mul_assoc s y z) in
      let out : k.mul s (k.add (k.mul y z) (dot k ys zs)) ≡ k.add (k.mul s (k.mul y z)) (k.mul s (dot k ys zs)) = f.mul_add s (k.mul y z) (dot k ys zs) in
      let swap : k.add (k.add (k.mul x z) (k.mul s (k.mul y z))) (k.add (dot k xs zs) (k.mul s (dot k ys zs))) ≡ k.add (k.add (k.mul x z) (dot k xs zs)) (k.add (k.mul s (k.mul y z)) (k.mul s (dot k ys zs))) = add_swap k f (k.mul x z) (k.mul s (k.mul y z)) (dot k xs zs) (k.mul s (dot k ys zs)) in
      cc

  pub dot_comm : (xs ys : List ℕ) → dot k xs ys ≡ dot k ys xs
  dot_comm [] [] = refl
  dot_comm [] (y ∷ ys) = refl
  dot_comm (x ∷ xs) [] = refl
  dot_comm (x ∷ xs) (y ∷ ys) = ap (λ n. k.add n (dot k xs ys)) (f.mul_comm x y) ∙ ap (λ n. k.add (k.mul y x) n) (dot_comm xs ys)
