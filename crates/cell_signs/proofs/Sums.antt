-- Sums of whole numbers over lists.
use Rattle.std.proofs.Common.{◌≡◌, ◌≢◌, ℕ, suc, List, [], ◌∷◌, ◌++◌, Bool, true, false, cond, eqb, map, take, drop, refl, ap, sym, ◌∙◌, subst, arith}
use Rattle.std.specs.Prelude.{ℤ, pos, ◌+ℤ◌, ◌-ℤ◌, AllPairs}
use Rattle.std.specs.List.Sorted.{IsStrictlyIncreasing}
use Rattle.std.proofs.Math.IntN.{+ℤ_idr, +ℤ_idl}
use Rattle.std.proofs.lemmas.Bool.{eqb-true, eq-eqb, false≢true}
use Rattle.std.proofs.lemmas.Int.{ints}
use Rattle.std.proofs.lemmas.List.Kept.{AllPairs-from_increasing}
use Rattle.number_lists.specs.Words.{holds}
use Rattle.number_lists.specs.Members.{In, here, there}
use Rattle.number_lists.proofs.CallerLemmas.{In-holds, holds-In, In-at}
use Rattle.std.proofs.lemmas.Bool.{ne_eqb}
use Rattle.cell_signs.specs.Oriented.{sum_over}

-- no element comes twice
abbrev pub Once : {A : Type 0} → List A → Type 0
Once [] = Unit {0}
Once (x ∷ xs) = (In x xs → ⊥) × Once xs

pub once : (xs : List ℕ) → AllPairs (λ a b. a ≢ b) xs → Once xs
once [] h = tt
once (x ∷ xs) h = ((λ i. let r = In-at i in h 0 (suc r.0) 0 (omega arith) (omega (arith, r.1)) (sym r.2)), once xs (λ i j d l m. h (suc i) (suc j) d (omega (arith, l)) (omega (arith, m))))

pub once_rising : (xs : List ℕ) → IsStrictlyIncreasing xs → Once xs
once_rising xs h = once xs (λ i j d l m e. omega (arith, AllPairs-from_increasing xs h i j d l m, e))

-- ---- sums

pub sum-same : {A : Type 0} (f g : A → ℤ) (xs : List A) → ((x : A) → In x xs → f x ≡ g x) → sum_over f xs ≡ sum_over g xs
sum-same f g [] h = refl
sum-same f g (x ∷ xs) h = ap (λ n. n +ℤ sum_over f xs) (h x here) ∙ ap (λ n. g x +ℤ n) (sum-same f g xs (λ y i. h y (there i)))

pub sum-zero : {A : Type 0} (f : A → ℤ) (xs : List A) → ((x : A) → In x xs → f x ≡ pos 0) → sum_over f xs ≡ pos 0
sum-zero f [] h = refl
sum-zero f (x ∷ xs) h = let a = h x here in let b = sum-zero f xs (λ y i. h y (there i)) in omega (arith, ints, a, b)

pub sum-add : {A : Type 0} (f g : A → ℤ) (xs : List A) → sum_over (λ x. f x +ℤ g x) xs ≡ sum_over f xs +ℤ sum_over g xs
sum-add f g [] = refl
sum-add f g (x ∷ xs) = let a = sum-add f g xs in omega (arith, ints, a)

pub sum-less : {A : Type 0} (f g : A → ℤ) (xs : List A) → sum_over (λ x. f x -ℤ g x) xs ≡ sum_over f xs -ℤ sum_over g xs
sum-less f g [] = refl
sum-less f g (x ∷ xs) = let a = sum-less f g xs in omega (arith, ints, a)

pub sum-append : {A : Type 0} (f : A → ℤ) (xs ys : List A) → sum_over f (xs ++ ys) ≡ sum_over f xs +ℤ sum_over f ys
sum-append f [] ys = sym (+ℤ_idl (sum_over f ys))
sum-append f (x ∷ xs) ys = let a = sum-append f xs ys in omega (arith, ints, a)

pub sum-map : {A B : Type 0} (f : B → ℤ) (g : A → B) (xs : List A) → sum_over f (map g xs) ≡ sum_over (λ x. f (g x)) xs
sum-map f g [] = refl
sum-map f g (x ∷ xs) = ap (λ n. f (g x) +ℤ n) (sum-map f g xs)

-- a list turned round by one
pub sum-turned : {A : Type 0} (f : A → ℤ) (xs : List A) → sum_over f (drop 1 xs ++ take 1 xs) ≡ sum_over f xs
sum-turned f [] = refl
sum-turned f (x ∷ xs) = let a = sum-append f xs (x ∷ []) in omega (arith, ints, a)

-- a double sum in either order
pub sum-swap : {A B : Type 0} (f : A → B → ℤ) (xs : List A) (ys : List B) → sum_over (λ x. sum_over (f x) ys) xs ≡ sum_over (λ y. sum_over (λ x. f x y) xs) ys
sum-swap f [] ys = sym (sum-zero (λ y. pos 0) ys (λ y i. refl))
sum-swap f (x ∷ xs) ys = ap (λ n. sum_over (f x) ys +ℤ n) (sum-swap f xs ys) ∙ sym (sum-add (f x) (λ y. sum_over (λ x. f x y) xs) ys)

-- one element alone counts
pub sum-single : {A : Type 0} (f : A → ℤ) (xs : List A) (x : A) → Once xs → In x xs → ((y : A) → In y xs → (x ≡ y → ⊥) → f y ≡ pos 0) → sum_over f xs ≡ f x
sum-single f [] x o i h = elim i [ ]
sum-single f (y ∷ xs) x o here h = let a = sum-zero f xs (λ z i. h z (there i) (λ e. o.0 (subst (λ w. In w xs) (sym e) i))) in omega (arith, ints, a)
sum-single f (y ∷ xs) x o (there i) h =
    let a : f y ≡ pos 0 = h y here (λ e. o.0 (subst (λ z. In z xs) e i)) in
    let b = sum-single f xs x o.1 i (λ z j. h z (there j)) in
    omega (arith, ints, a, b)

-- ---- over lists of numbers

-- f at one place
abbrev pub at_only : ℕ → ℤ → ℕ → ℤ
at_only x n y = cond (eqb x y) n (pos 0)

at_itself : (x : ℕ) (n : ℤ) → at_only x n x ≡ n
at_itself x n = ap (λ (b : Bool). cond b n (pos 0)) (eq-eqb x x refl)

at_other : (x y : ℕ) (n : ℤ) → (x ≡ y → ⊥) → at_only x n y ≡ pos 0
at_other x y n h = ap (λ (b : Bool). cond b n (pos 0)) (ne_eqb x y h)

pub sum-at : (xs : List ℕ) (x : ℕ) (n : ℤ) → Once xs → In x xs → sum_over (at_only x n) xs ≡ n
sum-at xs x n o i = sum-single (at_only x n) xs x o i (λ y j h. at_other x y n h) ∙ at_itself x n

at_back : (x y : ℕ) (f : ℕ → ℤ) → at_only x (f x) y ≡ at_only y (f y) x
at_back x y f = by (eqb x y) refl
  where
    by : (b : Bool) → eqb x y ≡ b → cond (eqb x y) (f x) (pos 0) ≡ cond (eqb y x) (f y) (pos 0)
    by true e = ap (λ (z : ℕ). at_only x (f x) z) (sym (eqb-true x y e)) ∙ ap (λ (z : ℕ). at_only z (f z) x) (eqb-true x y e)
    by false e = ap (λ (c : Bool). cond c (f x) (pos 0)) e ∙ sym (at_other y x (f y) (λ q. false≢true (sym e ∙ eq-eqb x y (sym q))))

-- what is 0 outside a part of the list sums up over the part
pub sum-within : (f : ℕ → ℤ) (xs ys : List ℕ) → Once xs → Once ys → ((x : ℕ) → In x xs → In x ys) → ((y : ℕ) → In y ys → holds xs y ≡ false → f y ≡ pos 0) → sum_over f xs ≡ sum_over f ys
sum-within f xs ys o p inside out =
    sum-same f (λ x. sum_over (at_only x (f x)) ys) xs (λ x i. sym (sum-at ys x (f x) p (inside x i)))
    ∙ (sum-swap (λ x y. at_only x (f x) y) xs ys
    ∙ sum-same (λ y. sum_over (λ x. at_only x (f x) y) xs) f ys (λ y j. by y j (holds xs y) refl))
  where
    by : (y : ℕ) → In y ys → (b : Bool) → holds xs y ≡ b → sum_over (λ x. at_only x (f x) y) xs ≡ f y
    by y j true e = sum-same (λ x. at_only x (f x) y) (at_only y (f y)) xs (λ x i. at_back x y f) ∙ sum-at xs y (f y) o (holds-In xs e)
    by y j false e = sum-zero (λ x. at_only x (f x) y) xs (λ x i. at_other x y (f x) (λ q. false≢true (sym e ∙ In-holds (subst (λ (z : ℕ). In z xs) q i)))) ∙ sym (out y j e)

-- two elements alone count
pub sum-two : (f : ℕ → ℤ) (xs : List ℕ) (a b : ℕ) → Once xs → In a xs → In b xs → (a ≡ b → ⊥) → ((y : ℕ) → In y xs → (a ≡ y → ⊥) → (b ≡ y → ⊥) → f y ≡ pos 0) → sum_over f xs ≡ f a +ℤ f b
sum-two f xs a b o i j d h =
    sum-same f (λ x. at_only a (f a) x +ℤ at_only b (f b) x) xs (λ x k. by x k (eqb a x) refl (eqb b x) refl)
    ∙ (sum-add (at_only a (f a)) (at_only b (f b)) xs
    ∙ (ap (λ n. n +ℤ sum_over (at_only b (f b)) xs) (sum-at xs a (f a) o i) ∙ ap (λ n. f a +ℤ n) (sum-at xs b (f b) o j)))
  where
    by : (x : ℕ) → In x xs → (p : Bool) → eqb a x ≡ p → (q : Bool) → eqb b x ≡ q → f x ≡ cond (eqb a x) (f a) (pos 0) +ℤ cond (eqb b x) (f b) (pos 0)
    by x k true e true g = absurd (d (eqb-true a x e ∙ sym (eqb-true b x g)))
    by x k true e false g = ap f (sym (eqb-true a x e)) ∙ (sym (+ℤ_idr (f a)) ∙ sym (ap (λ (c : Bool). cond c (f a) (pos 0) +ℤ cond (eqb b x) (f b) (pos 0)) e ∙ ap (λ (c : Bool). f a +ℤ cond c (f b) (pos 0)) g))
    by x k false e true g = ap f (sym (eqb-true b x g)) ∙ (sym (+ℤ_idl (f b)) ∙ sym (ap (λ (c : Bool). cond c (f a) (pos 0) +ℤ cond (eqb b x) (f b) (pos 0)) e ∙ ap (λ (c : Bool). pos 0 +ℤ cond c (f b) (pos 0)) g))
    by x k false e false g = h x k (λ q. false≢true (sym e ∙ eq-eqb a x q)) (λ q. false≢true (sym g ∙ eq-eqb b x q)) ∙ sym (ap (λ (c : Bool). cond c (f a) (pos 0) +ℤ cond (eqb b x) (f b) (pos 0)) e ∙ ap (λ (c : Bool). pos 0 +ℤ cond c (f b) (pos 0)) g)
