-- Lists cut by a test, and lists of members by component.
use Rattle.std.proofs.Common.{◌≡◌, ℕ, zero, suc, ◌+◌, ◌<◌, List, [], ◌∷◌, ◌++◌, map, length, filter, refl, ap, arith, sym, ◌∙◌, Bool, true, false, not, length-append, get_or}
use Rattle.std.specs.Prelude.{◌==◌, nat_lt}
use Rattle.std.proofs.lemmas.Bool.{eq-eqb}
use Rattle.std.proofs.lemmas.List.Elements.{filter-append}
use Rattle.std.proofs.lemmas.List.{append-nil, get_or_default}
use Rattle.number_lists.specs.Members.{In, here, there}
use Rattle.number_lists.proofs.CallerLemmas.{length-filter-le}

-- ---- tests

pub filter-all : {A : Type 0} (p : A → Bool) (xs : List A) → ((x : A) → In x xs → p x ≡ true) → filter p xs ≡ xs
filter-all p [] h = refl
filter-all p (x ∷ xs) h = rw (h x here) (ap (λ ys. x ∷ ys) (filter-all p xs (λ y i. h y (there i))))

pub filter-none : {A : Type 0} (p : A → Bool) (xs : List A) → ((x : A) → In x xs → p x ≡ false) → filter p xs ≡ []
filter-none p [] h = refl
filter-none p (x ∷ xs) h = rw (h x here) (filter-none p xs (λ y i. h y (there i)))

pub filter-swap : {A : Type 0} (p q : A → Bool) (xs : List A) → filter p (filter q xs) ≡ filter q (filter p xs)
filter-swap p q [] = refl
filter-swap p q (x ∷ xs) = one (p x) (q x) refl refl (filter-swap p q xs)
  where
    one : (a b : Bool) → p x ≡ a → q x ≡ b → filter p (filter q xs) ≡ filter q (filter p xs) → filter p (filter q (x ∷ xs)) ≡ filter q (filter p (x ∷ xs))
    one true true e f h = rw (f, e) (rw f (ap (λ ys. x ∷ ys) h))
    one true false e f h = rw (f, e) (rw f h)
    one false true e f h = rw (f, e) h
    one false false e f h = rw (f, e) h

-- what passes a test no element of which passes
none-passes : {A : Type 0} (p : A → Bool) (xs : List A) → filter p xs ≡ [] → filter (λ x. not (p x)) xs ≡ xs
none-passes p [] e = refl
none-passes p (x ∷ xs) e = one (p x) refl (none-passes p xs)
  where
    one : (b : Bool) → p x ≡ b → (filter p xs ≡ [] → filter (λ y. not (p y)) xs ≡ xs) → filter (λ y. not (p y)) (x ∷ xs) ≡ x ∷ xs
    one true f h = absurd (let g : x ∷ filter p xs ≡ [] = (rw f at e) in grind (arith, g))
    one false f h = rw f (ap (λ ys. x ∷ ys) (h (rw f at e)))

all-pass : {A : Type 0} (p : A → Bool) (xs : List A) → filter p xs ≡ xs → filter (λ x. not (p x)) xs ≡ []
all-pass p [] e = refl
all-pass p (x ∷ xs) e = one (p x) refl (all-pass p xs)
  where
    one : (b : Bool) → p x ≡ b → (filter p xs ≡ xs → filter (λ y. not (p y)) xs ≡ []) → filter (λ y. not (p y)) (x ∷ xs) ≡ []
    one true f h = rw f (h (let g : x ∷ filter p xs ≡ x ∷ xs = (rw f at e) in cc))
    one false f h = absurd (let g : filter p xs ≡ x ∷ xs = (rw f at e) in omega (arith, ap length g, length-filter-le p xs))

-- the elements before those that pass
pub before-passing : {A : Type 0} (p : A → Bool) (xs ys : List A) → filter p (xs ++ ys) ≡ ys → filter p ys ≡ ys → filter (λ x. not (p x)) (xs ++ ys) ≡ xs
before-passing p xs ys e f =
    filter-append (λ x. not (p x)) xs ys
    ∙ (ap (λ zs. zs ++ filter (λ x. not (p x)) ys) (none-passes p xs (nothing (filter p xs) (ap length (sym (filter-append p xs ys) ∙ e)) (ap length f)))
    ∙ (ap (λ zs. xs ++ zs) (all-pass p ys f) ∙ append-nil xs))
  where
    nothing : (zs : List _) → length (zs ++ filter p ys) ≡ length ys → length (filter p ys) ≡ length ys → zs ≡ []
    nothing [] h k = refl
    nothing (z ∷ zs) h k = absurd (omega (arith, h, k, length-append zs (filter p ys)))

-- ---- numbers by themselves

pub lt-self : (i : ℕ) → nat_lt i i ≡ false
lt-self i = grind arith

pub same-self : (i : ℕ) → (i == i) ≡ true
same-self i = eq-eqb i i refl

pub filter-agree : {A : Type 0} (p q : A → Bool) → ((x : A) → p x ≡ q x) → (xs : List A) → filter p xs ≡ filter q xs
filter-agree p q e [] = refl
filter-agree p q e (x ∷ xs) = rw (e x, filter-agree p q e xs) refl

-- ---- elements by their places

pub get-mapped : {A B : Type 0} (f : A → B) (xs : List A) (ys : List B) (k : ℕ) (d : B) (e : A) → k < length xs → get_or (map f xs ++ ys) k d ≡ f (get_or xs k e)
get-mapped f [] ys k d e l = absurd (omega (arith, l))
get-mapped f (x ∷ xs) ys zero d e l = refl
get-mapped f (x ∷ xs) ys (suc k) d e l = get-mapped f xs ys k d e (omega (arith, l))

pub get-behind : {A : Type 0} (xs ys : List A) (k j : ℕ) (d e : A) → length xs + j ≡ k → j < length ys → get_or (xs ++ ys) k d ≡ get_or ys j e
get-behind [] ys k j d e h l = ap (λ (i : ℕ). get_or ys i d) (omega (arith, h)) ∙ get_or_default ys j d e l
get-behind (x ∷ xs) ys zero j d e h l = absurd (omega (arith, h))
get-behind (x ∷ xs) ys (suc k) j d e h l = get-behind xs ys k j d e (omega (arith, h)) l
