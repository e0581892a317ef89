-- Alternating sums over a chain with one entry left out.
use Rattle.std.proofs.Common.{◌≡◌, ℕ, ◌<◌, List, [], ◌∷◌, map, refl, ap, sym}
use Rattle.small_field.specs.Field.{Ops, IsField}
use Rattle.small_field.proofs.CallerLemmas.{zero_below, add_zero, add_swap, neg_add, neg_zero}
use Rattle.order_complex.specs.Cochains.{alternating, leave_out}

-- the alternating sum of x over the chain with one entry left out
abbrev pub around : Ops → (List ℕ → ℕ) → List ℕ → ℕ
around F x chain = alternating F (map x (leave_out chain))

module _ (F : Ops) (L : IsField F) where
  pub alternating_below : (xs : List ℕ) → alternating F xs < F.size
  alternating_below [] = zero_below F L
  alternating_below (x ∷ xs) = L.add_below x (F.neg (alternating F xs))

  -- the alternating sum of differences
  alternating_sub : (x g : List ℕ → ℕ) (bs : List (List ℕ)) →
      alternating F (map (λ b. F.add (x b) (F.neg (g b))) bs) ≡ F.add (alternating F (map x bs)) (F.neg (alternating F (map g bs)))
  alternating_sub x g [] = sym (L.add_neg 0)
  alternating_sub x g (b ∷ bs) =
      rw (alternating_sub x g bs, neg_add F L (alternating F (map x bs)) (F.neg (alternating F (map g bs))), neg_add F L (g b) (F.neg (alternating F (map g bs)))) (add_swap F L _ _ _ _)

  map_map : (h : List ℕ → ℕ) (f : List ℕ → List ℕ) (bs : List (List ℕ)) → map h (map f bs) ≡ map (λ b. h (f b)) bs
  map_map h f [] = refl
  map_map h f (b ∷ bs) = ap (λ r. h (f b) ∷ r) (map_map h f bs)

  map_same : (h g : List ℕ → ℕ) → ((b : List ℕ) → h b ≡ g b) → (bs : List (List ℕ)) → map h bs ≡ map g bs
  map_same h g e [] = refl
  map_same h g e (b ∷ bs) = rw (e b, map_same h g e bs) refl

  around_cons : (x : List ℕ → ℕ) (a : ℕ) (b : List ℕ) → around F x (a ∷ b) ≡ F.add (x b) (F.neg (around F (λ y. x (a ∷ y)) b))
  around_cons x a b = rw (map_map x (λ y. a ∷ y) (leave_out b)) refl

  -- twice around is zero
  pub around-around : (x : List ℕ → ℕ) (c : List ℕ) → around F (around F x) c ≡ 0
  around-around x [] = refl
  around-around x (a ∷ c) =
      let xa : List ℕ → ℕ = λ y. x (a ∷ y) in
      let e : map (λ b. around F x (a ∷ b)) (leave_out c) ≡ map (λ b. F.add (x b) (F.neg (around F xa b))) (leave_out c) = map_same _ _ (λ b. around_cons x a b) (leave_out c) in
      rw (around_cons (λ b. around F x b) a c, e, alternating_sub x (λ b. around F xa b) (leave_out c), around-around xa c, neg_zero F L, add_zero F L (around F x c) (alternating_below _)) (L.add_neg _)
