-- Sums over lists in a field, and signs as elements.
use Rattle.std.proofs.Common.{◌≡◌, ◌≢◌, inl, inr, ℕ, ◌<◌, List, [], ◌∷◌, Bool, true, false, cond, map, filter, refl, ap, sym, ◌∙◌, subst}
use Rattle.small_field.specs.Field.{Ops, IsField}
use Rattle.small_field.proofs.CallerLemmas.{zero_below, add_zero, mul_zero, zero_mul, add_swap, add_mul, neg_neg, neg_mul}
use Rattle.linear_laws.specs.Vectors.{dot}
use Rattle.number_lists.specs.Members.{In, here, there}
use Rattle.number_lists.proofs.CallerLemmas.{In-cases, AreDistinct, more}
use Rattle.pair_stages.specs.Signed.{sign_element}
use Rattle.local_field.specs.Flags.{other_sign}

-- the sum of what h gives on a list
abbrev pub summed : {A : Type 0} → Ops → (A → ℕ) → List A → ℕ
summed F h [] = 0
summed F h (x ∷ xs) = F.add (h x) (summed F h xs)

module _ (F : Ops) (L : IsField F) where
  -- ---- sums

  pub sum-below : {A : Type 0} (h : A → ℕ) (xs : List A) → summed F h xs < F.size
  sum-below h [] = zero_below F L
  sum-below h (x ∷ xs) = L.add_below (h x) (summed F h xs)

  pub sum-same : {A : Type 0} (h g : A → ℕ) (xs : List A) → ((x : A) → In x xs → h x ≡ g x) → summed F h xs ≡ summed F g xs
  sum-same h g [] e = refl
  sum-same h g (x ∷ xs) e = ap (λ (n : ℕ). F.add n (summed F h xs)) (e x here) ∙ ap (F.add (g x)) (sum-same h g xs (λ y i. e y (there i)))

  pub sum-zero : {A : Type 0} (h : A → ℕ) (xs : List A) → ((x : A) → In x xs → h x ≡ 0) → summed F h xs ≡ 0
  sum-zero h [] e = refl
  sum-zero h (x ∷ xs) e = ap (λ (n : ℕ). F.add n (summed F h xs)) (e x here) ∙ (ap (F.add 0) (sum-zero h xs (λ y i. e y (there i))) ∙ L.zero_add 0 (zero_below F L))

  pub sum-plus : {A : Type 0} (h g : A → ℕ) (xs : List A) → summed F (λ x. F.add (h x) (g x)) xs ≡ F.add (summed F h xs) (summed F g xs)
  sum-plus h g [] = sym (L.zero_add 0 (zero_below F L))
  sum-plus h g (x ∷ xs) = ap (F.add (F.add (h x) (g x))) (sum-plus h g xs) ∙ add_swap F L (h x) (g x) (summed F h xs) (summed F g xs)

  pub sum-times : {A : Type 0} (a : ℕ) (h : A → ℕ) (xs : List A) → summed F (λ x. F.mul a (h x)) xs ≡ F.mul a (summed F h xs)
  sum-times a h [] = sym (mul_zero F L a)
  sum-times a h (x ∷ xs) = ap (F.add (F.mul a (h x))) (sum-times a h xs) ∙ sym (L.mul_add a (h x) (summed F h xs))

  pub sum-by : {A : Type 0} (a : ℕ) (h : A → ℕ) (xs : List A) → summed F (λ x. F.mul (h x) a) xs ≡ F.mul (summed F h xs) a
  sum-by a h [] = sym (zero_mul F L a)
  sum-by a h (x ∷ xs) = ap (F.add (F.mul (h x) a)) (sum-by a h xs) ∙ sym (add_mul F L (h x) (summed F h xs) a)

  pub sum-swap : {A B : Type 0} (h : A → B → ℕ) (xs : List A) (ys : List B) → summed F (λ x. summed F (λ y. h x y) ys) xs ≡ summed F (λ y. summed F (λ x. h x y) xs) ys
  sum-swap h [] ys = sym (sum-zero (λ y. 0) ys (λ y i. refl))
  sum-swap h (x ∷ xs) ys = ap (F.add (summed F (λ y. h x y) ys)) (sum-swap h xs ys) ∙ sym (sum-plus (λ y. h x y) (λ y. summed F (λ x. h x y) xs) ys)

  pub sum-filter : {A : Type 0} (h : A → ℕ) (p : A → Bool) (xs : List A) → summed F h (filter p xs) ≡ summed F (λ x. cond (p x) (h x) 0) xs
  sum-filter h p [] = refl
  sum-filter {A} h p (x ∷ xs) = by (p x) (sum-filter h p xs)
    where
      by : (b : Bool) → summed F h (filter p xs) ≡ summed F (λ x. cond (p x) (h x) 0) xs
          → summed F h (cond b (x ∷ filter p xs) (filter p xs)) ≡ F.add (cond b (h x) 0) (summed F (λ x. cond (p x) (h x) 0) xs)
      by true e = ap (F.add (h x)) e
      by false e = e ∙ sym (L.zero_add (summed F (λ x. cond (p x) (h x) 0) xs) (sum-below (λ x. cond (p x) (h x) 0) xs))

  -- one of different elements alone counts
  pub sum-one : {A : Type 0} (h : A → ℕ) (xs : List A) (x : A) → AreDistinct xs → In x xs → h x < F.size → ((y : A) → In y xs → y ≢ x → h y ≡ 0) → summed F h xs ≡ h x
  sum-one h [] x d i b e = elim i [ ]
  sum-one {A} h (y ∷ ys) x (more n d) i b e = elim (In-cases i) [
    | inl s ↦
        ap (F.add (h y)) (sum-zero h ys (λ z j. e z (there j) (λ q. n (subst (λ (w : A). In w ys) (q ∙ s) j))))
        ∙ (ap (λ (w : A). F.add (h w) 0) (sym s) ∙ add_zero F L (h x) b)
    | inr j ↦
        ap (λ (v : ℕ). F.add v (summed F h ys)) (e y here (λ q. n (subst (λ (w : A). In w ys) (sym q) j)))
        ∙ (L.zero_add (summed F h ys) (sum-below h ys) ∙ sum-one h ys x d j b (λ z k. e z (there k)))
  ]

  -- a product of lists that two functions give
  pub dot-maps : {A : Type 0} (h g : A → ℕ) (xs : List A) → dot F (map h xs) (map g xs) ≡ summed F (λ x. F.mul (h x) (g x)) xs
  dot-maps h g [] = refl
  dot-maps h g (x ∷ xs) = ap (F.add (F.mul (h x) (g x))) (dot-maps h g xs)

  -- a factor comes out of a product
  pub mul_out : (a b c : ℕ) → F.mul a (F.mul b c) ≡ F.mul b (F.mul a c)
  mul_out a b c = sym (L.mul_assoc a b c) ∙ (ap (λ (n : ℕ). F.mul n c) (L.mul_comm a b) ∙ L.mul_assoc b a c)

  -- ---- signs

  abbrev pub sign : Bool → ℕ
  sign b = sign_element F b

  pub sign-below : (b : Bool) → sign b < F.size
  sign-below true = L.neg_below 1
  sign-below false = L.one_below

  pub sign-times : (a b : Bool) → F.mul (sign a) (sign b) ≡ sign (other_sign a b)
  sign-times true true = neg_mul F L 1 (F.neg 1) ∙ (ap F.neg (L.one_mul (F.neg 1) (L.neg_below 1)) ∙ neg_neg F L 1 L.one_below)
  sign-times true false = neg_mul F L 1 1 ∙ ap F.neg (L.one_mul 1 L.one_below)
  sign-times false true = L.one_mul (F.neg 1) (L.neg_below 1)
  sign-times false false = L.one_mul 1 L.one_below

  pub sign-twice : (a : Bool) → F.mul (sign a) (sign a) ≡ 1
  sign-twice true = sign-times true true
  sign-twice false = sign-times false false
