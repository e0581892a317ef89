-- What the first element that passes is, shorter filters, and what is in a list and is not.
use Rattle.std.proofs.Common.{◌≡◌, ℕ, suc, ◌<◌, List, [], ◌∷◌, length, refl, arith, sym, ◌∙◌, Bool, true, false, cond}
use Rattle.std.specs.Prelude.{filter, find, Some, None, ◌==◌, not}
use Rattle.std.proofs.lemmas.Bool.{eq-eqb, not_from_false, false_from_ne_true, false≢true}
use Rattle.number_lists.specs.Members.{In, here, there}
use Rattle.number_lists.specs.Words.{holds}
use Rattle.number_lists.proofs.CallerLemmas.{any-In, length-filter-le}

pub find-some : {A : Type 0} (p : A → Bool) (xs : List A) (x : A) → find p xs ≡ Some x → In x xs × (p x ≡ true)
find-some p [] x e = absurd (grind (arith, e))
find-some p (y ∷ xs) x e = by (p y) refl e (λ k. find-some p xs x k)
  where
    by : (b : Bool) → p y ≡ b → cond b (Some y) (find p xs) ≡ Some x → (find p xs ≡ Some x → In x xs × (p x ≡ true)) → In x (y ∷ xs) × (p x ≡ true)
    by true k e h = let s : y ≡ x = grind (arith, e) in rw s (here, rw s at k)
    by false k e h = let r = h e in (there r.0, r.1)

none_of : {A : Type 0} (b : Bool) (p : A → Bool) {x y : A} {xs : List A} → p y ≡ b → cond b (Some y) (find p xs) ≡ None → In x (y ∷ xs) → (find p xs ≡ None → In x xs → p x ≡ false) → p x ≡ false
none_of true p k e h g = absurd (grind (arith, e))
none_of false p k e here g = k
none_of false p k e (there h) g = g e h

pub find-none : {A : Type 0} (p : A → Bool) {x : A} (xs : List A) → find p xs ≡ None → In x xs → p x ≡ false
find-none p [] e h = elim h [ ]
find-none p (y ∷ xs) e h = none_of (p y) p refl e h (λ k i. find-none p xs k i)

pub filter-less : {A : Type 0} (p : A → Bool) {x : A} (xs : List A) → In x xs → p x ≡ false → length (filter p xs) < length xs
filter-less p [] h e = elim h [ ]
filter-less p (y ∷ xs) here e = rw e (omega (arith, length-filter-le p xs))
filter-less p (y ∷ xs) (there h) e = less (p y) (filter-less p xs h e)
  where
    less : (a : Bool) → length (filter p xs) < length xs → length (cond a (y ∷ filter p xs) (filter p xs)) < suc (length xs)
    less true h = omega (arith, h)
    less false h = omega (arith, h)

pub not_yet : (b : Bool) → (b ≡ true → ⊥) → not b ≡ true
not_yet b k = not_from_false b (false_from_ne_true b k)

pub clash : (xs : List ℕ) (x : ℕ) → holds xs x ≡ false → holds xs x ≡ true → ⊥
clash xs x e k = false≢true (sym e ∙ k)

pub first_held : (x y : ℕ) (xs : List ℕ) → x ≡ y → holds (y ∷ xs) x ≡ true
first_held x y xs e = any-In (λ z. z == x) {x = y} {xs = y ∷ xs} here (eq-eqb y x (sym e))
