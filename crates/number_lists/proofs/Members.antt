-- Members of lists, and tests over them.
use Rattle.std.proofs.Common.{◌≡◌, ◌⊎◌, inl, inr, ℕ, zero, suc, ◌+◌, ◌<◌, ◌≤◌, List, [], ◌∷◌, ◌++◌, Bool, true, false, cond, ◌||◌, ◌&&◌, eqb, filter, map, reverse, length, get_or, refl, sym, ◌∙◌, subst, arith, Contains}
use Rattle.std.specs.List.{list_any, list_all, flat_map, range_with_len}
use Rattle.std.proofs.lemmas.Bool.{eqb-true, eq-eqb, false≢true, cases_eq, or_left, or_right, and_parts, and_from, false_from_ne_true}
use Rattle.std.specs.Cmp.{both_ways}
use Rattle.std.proofs.lemmas.List.{reverse-append}
use Rattle.number_lists.specs.Words.{holds, upto}
use Rattle.number_lists.specs.Members.{In, here, there}

-- ---- tests

pub and-left : (a b : Bool) → (a && b) ≡ true → a ≡ true
and-left a b e = (and_parts a b e).0

pub and-right : (a b : Bool) → (a && b) ≡ true → b ≡ true
and-right a b e = (and_parts a b e).1

pub same_bool : (a b : Bool) → (a ≡ true → b ≡ true) → (b ≡ true → a ≡ true) → a ≡ b
same_bool a b f g = both_ways a b f g

-- ---- members of any type

pub In-cases : {A : Type 0} {x y : A} {xs : List A} → In x (y ∷ xs) → (x ≡ y) ⊎ In x xs
In-cases here = inl refl
In-cases (there h) = inr h

module _ {A : Type 0} where
  pick_in : (b : Bool) (y : A) {x : A} {xs : List A} → In x xs → In x (cond b (y ∷ xs) xs)
  pick_in true y k = there k
  pick_in false y k = k

  pub In-filter : (p : A → Bool) {x : A} {xs : List A} → In x xs → p x ≡ true → In x (filter p xs)
  In-filter p here e = rw e here
  In-filter p (there {y = y} h) e = pick_in (p y) y (In-filter p h e)

  -- x among y and the rest, where y is taken or not
  split_in : (b : Bool) (p : A → Bool) {x y : A} {xs : List A} → p y ≡ b → In x (cond b (y ∷ xs) xs) → (In x xs → p x ≡ true) → p x ≡ true
  split_in true p e here k = e
  split_in true p e (there h) k = k h
  split_in false p e h k = k h

  pub filter-In : (p : A → Bool) {x : A} (xs : List A) → In x (filter p xs) → p x ≡ true
  filter-In p [] h = elim h [ ]
  filter-In p (y ∷ xs) h = split_in (p y) p refl h (λ k. filter-In p xs k)

  pub In-inside : (p : A → Bool) {x : A} (xs : List A) → In x (filter p xs) → In x xs
  In-inside p [] h = h
  In-inside p (y ∷ xs) h = inside_of (p y) h (λ k. In-inside p xs k)
    where
      inside_of : (b : Bool) {x : A} → In x (cond b (y ∷ filter p xs) (filter p xs)) → (In x (filter p xs) → In x xs) → In x (y ∷ xs)
      inside_of true here k = here
      inside_of true (there h) k = there (k h)
      inside_of false h k = there (k h)

  pub any-In : (p : A → Bool) {x : A} {xs : List A} → In x xs → p x ≡ true → list_any p xs ≡ true
  any-In p {x} (here {xs}) e = or_left (p x) (list_any p xs) e
  any-In p (there {y} {xs} h) e = or_right (p y) (list_any p xs) (any-In p h e)

  some_of : (b : Bool) (p : A → Bool) {y : A} {xs : List A} → p y ≡ b → (b || list_any p xs) ≡ true → (list_any p xs ≡ true → (x : A) × In x xs × (p x ≡ true)) → (x : A) × In x (y ∷ xs) × (p x ≡ true)
  some_of true p {y = y} e h k = (y, here, e)
  some_of false p e h k = let r = k h in (r.0, there r.1, r.2)

  pub any-some : (p : A → Bool) (xs : List A) → list_any p xs ≡ true → (x : A) × In x xs × (p x ≡ true)
  any-some p [] e = absurd (false≢true e)
  any-some p (y ∷ xs) e = some_of (p y) p refl e (λ h. any-some p xs h)

  -- no member passes
  pub any-none : (p : A → Bool) (xs : List A) → ((x : A) → In x xs → p x ≡ true → ⊥) → list_any p xs ≡ false
  any-none p xs k = false_from_ne_true (list_any p xs) (λ e. let s = any-some p xs e in k s.0 s.1 s.2)

  pub none-In : (p : A → Bool) {x : A} {xs : List A} → list_any p xs ≡ false → In x xs → p x ≡ true → ⊥
  none-In p e h t = false≢true (sym e ∙ any-In p h t)

  pub all-In : (p : A → Bool) {x : A} {xs : List A} → list_all p xs ≡ true → In x xs → p x ≡ true
  all-In p {x} e (here {xs}) = (and_parts (p x) (list_all p xs) e).0
  all-In p e (there {y} {xs} h) = all-In p ((and_parts (p y) (list_all p xs) e).1) h

  pub In-all : (p : A → Bool) (xs : List A) → ((x : A) → In x xs → p x ≡ true) → list_all p xs ≡ true
  In-all p [] h = refl
  In-all p (x ∷ xs) h = and_from (p x) (list_all p xs) (h x here) (In-all p xs (λ y k. h y (there k)))

  pub In-left : {x : A} {xs : List A} (ys : List A) → In x xs → In x (xs ++ ys)
  In-left ys here = here
  In-left ys (there h) = there (In-left ys h)

  pub In-right : {x : A} (xs : List A) {ys : List A} → In x ys → In x (xs ++ ys)
  In-right [] h = h
  In-right (y ∷ xs) h = there (In-right xs h)

  pub append-In : {x : A} (xs ys : List A) → In x (xs ++ ys) → In x xs ⊎ In x ys
  append-In [] ys h = inr h
  append-In (y ∷ xs) ys here = inl here
  append-In (y ∷ xs) ys (there h) = elim (append-In xs ys h) [ inl k ↦ inl (there k) | inr k ↦ inr k ]

  -- one more at the end
  pub push-In : {x : A} (xs : List A) (y : A) → In x (xs ++ y ∷ []) → In x xs ⊎ (x ≡ y)
  push-In xs y h = elim (append-In xs (y ∷ []) h) [ inl k ↦ inl k | inr k ↦ elim (In-cases k) [ inl e ↦ inr e | inr n ↦ elim n [ ] ] ]

  pub In-last : (xs : List A) (y : A) → In y (xs ++ y ∷ [])
  In-last xs y = In-right xs here

  pub In-Contains : {x : A} {xs : List A} → In x xs → Contains xs x
  In-Contains here = (zero, omega arith, refl)
  In-Contains (there h) = let r = In-Contains h in (suc r.0, omega (arith, r.1), r.2)

  pub at-In : (xs : List A) (k : ℕ) (d : A) → k < length xs → In (get_or xs k d) xs
  at-In [] k d l = absurd (omega arith)
  at-In (x ∷ xs) zero d l = here
  at-In (x ∷ xs) (suc k) d l = there (at-In xs k d (omega arith))

  pub Contains-In : {x : A} {xs : List A} → Contains xs x → In x xs
  Contains-In {x} {xs} c = let P : A → Type 0 = λ y. In y xs in subst P c.2 (at-In xs c.0 x c.1)

  pub reverse-In : {x : A} (xs : List A) → In x (reverse xs) → In x xs
  reverse-In [] h = h
  reverse-In {x} (y ∷ xs) h =
      let P : List A → Type 0 = λ ys. In x ys in
      elim (append-In (reverse xs) (y ∷ []) (subst P (reverse-append (y ∷ []) xs) h)) [ inl k ↦ there (reverse-In xs k) | inr k ↦ elim (In-cases k) [ inl e ↦ rw e here | inr n ↦ elim n [ ] ] ]

  pub In-reverse : {x : A} {xs : List A} → In x xs → In x (reverse xs)
  In-reverse {x} (here {xs}) = let P : List A → Type 0 = λ ys. In x ys in subst P (sym (reverse-append (x ∷ []) xs)) (In-right (reverse xs) here)
  In-reverse {x} (there {y} {xs} h) = let P : List A → Type 0 = λ ys. In x ys in subst P (sym (reverse-append (y ∷ []) xs)) (In-left (y ∷ []) (In-reverse h))

pub In-map : {A B : Type 0} (f : A → B) {x : A} {xs : List A} → In x xs → In (f x) (map f xs)
In-map f here = here
In-map f (there h) = there (In-map f h)

pub map-In : {A B : Type 0} (f : A → B) {y : B} (xs : List A) → In y (map f xs) → (x : A) × In x xs × (y ≡ f x)
map-In f [] h = elim h [ ]
map-In f (x ∷ xs) here = (x, here, refl)
map-In f (x ∷ xs) (there h) = let r = map-In f xs h in (r.0, there r.1, r.2)

pub In-flat_map : {A B : Type 0} (f : A → List B) {x : A} {y : B} {xs : List A} → In x xs → In y (f x) → In y (flat_map f xs)
In-flat_map f (here {xs}) k = In-left (flat_map f xs) k
In-flat_map f (there {y = z} {xs} h) k = In-right (f z) (In-flat_map f h k)

pub flat_map-In : {A B : Type 0} (f : A → List B) {y : B} (xs : List A) → In y (flat_map f xs) → (x : A) × In x xs × In y (f x)
flat_map-In f [] h = elim h [ ]
flat_map-In f (x ∷ xs) h = elim (append-In (f x) (flat_map f xs) h) [ inl a ↦ (x, here, a) | inr b ↦ let r = flat_map-In f xs b in (r.0, there r.1, r.2) ]

-- ---- members of lists of numbers

pub holds-In : {x : ℕ} (xs : List ℕ) → holds xs x ≡ true → In x xs
holds-In {x} xs e = let s = any-some (λ y. eqb y x) xs e in subst (λ (z : ℕ). In z xs) (eqb-true s.0 x s.2) s.1

pub In-holds : {x : ℕ} {xs : List ℕ} → In x xs → holds xs x ≡ true
In-holds {x} h = any-In (λ y. eqb y x) h (eq-eqb x x refl)

-- a member has a place
pub In-at : {x : ℕ} {xs : List ℕ} → In x xs → (k : ℕ) × (k < length xs) × (get_or xs k 0 ≡ x)
In-at here = (zero, omega arith, refl)
In-at (there h) = let r = In-at h in (suc r.0, omega (arith, r.1), r.2)

pub In-range : (a n k : ℕ) → a ≤ k → k < a + n → In k (range_with_len a n)
In-range a zero k l m = absurd (omega arith)
In-range a (suc n) k l m = elim (cases_eq a k) [ inl e ↦ subst (λ (x : ℕ). In x (a ∷ range_with_len (a + 1) n)) e here | inr e ↦ there (In-range (a + 1) n k (omega (arith, e, l)) (omega arith)) ]

pub range-In : (a n k : ℕ) → In k (range_with_len a n) → (a ≤ k) × (k < a + n)
range-In a zero k h = elim h [ ]
range-In a (suc n) k h = by_place h (λ x j. range-In (a + 1) n x j)
  where
    by_place : {x : ℕ} → In x (a ∷ range_with_len (a + 1) n) → ((y : ℕ) → In y (range_with_len (a + 1) n) → (a + 1 ≤ y) × (y < a + 1 + n)) → (a ≤ x) × (x < a + suc n)
    by_place here k = (omega arith, omega arith)
    by_place {x} (there j) k = let r = k x j in (omega (arith, r.0), omega (arith, r.1))

pub In-upto : (n x : ℕ) → 1 ≤ x → x ≤ n → In x (upto n)
In-upto n x low high = In-range 1 n x low (omega (arith, high))

pub upto-In : (n x : ℕ) → In x (upto n) → (1 ≤ x) × (x ≤ n)
upto-In n x h = let r = range-In 1 n x h in (r.0, omega (arith, r.1))
