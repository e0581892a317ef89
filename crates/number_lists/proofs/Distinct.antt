-- Lists without repetition.
use Rattle.std.proofs.Common.{◌≡◌, refl, inl, inr, ℕ, zero, suc, ◌+◌, ◌<◌, List, [], ◌∷◌, ◌++◌, Bool, true, false, cond, filter, map, length, get_or, ap, sym, subst, arith}
use Rattle.std.specs.List.{flat_map, range_with_len}
use Rattle.number_lists.specs.Members.{In, here, there}
use Rattle.number_lists.proofs.Members.{In-inside, append-In, at-In, map-In, flat_map-In, range-In}

-- no element twice
pub data AreDistinct {A : Type 0} : List A → Type 0 where
  none : AreDistinct []
  more : {x : A} {xs : List A} → (In x xs → ⊥) → AreDistinct xs → AreDistinct (x ∷ xs)

module _ {A : Type 0} where
  pub distinct-filter : (p : A → Bool) {xs : List A} → AreDistinct xs → AreDistinct (filter p xs)
  distinct-filter p none = none
  distinct-filter p (more {x} {xs} n d) = by_test (p x) (distinct-filter p d)
    where
      by_test : (b : Bool) → AreDistinct (filter p xs) → AreDistinct (cond b (x ∷ filter p xs) (filter p xs))
      by_test true e = more (λ i. n (In-inside p xs i)) e
      by_test false e = e

  pub distinct-at : {xs : List A} (i j : ℕ) (d : A) → AreDistinct xs → i < length xs → j < length xs → get_or xs i d ≡ get_or xs j d → i ≡ j
  distinct-at i j d none l m e = absurd (omega arith)
  distinct-at zero zero d (more n h) l m e = refl
  distinct-at zero (suc j) d (more {x} {xs} n h) l m e = absurd (n (subst (λ (y : A). In y xs) (sym e) (at-In xs j d (omega arith))))
  distinct-at (suc i) zero d (more {x} {xs} n h) l m e = absurd (n (subst (λ (y : A). In y xs) e (at-In xs i d (omega arith))))
  distinct-at (suc i) (suc j) d (more {x} {xs} n h) l m e = let q : i ≡ j = distinct-at i j d h (omega arith) (omega arith) e in ap (λ (k : ℕ). suc k) q

  pub distinct-append : {xs ys : List A} → AreDistinct xs → AreDistinct ys → ((x : A) → In x xs → In x ys → ⊥) → AreDistinct (xs ++ ys)
  distinct-append none e h = e
  distinct-append {ys = ys} (more {x} {xs} n d) e h = more (λ i. elim (append-In xs ys i) [ inl p ↦ n p | inr p ↦ h x here p ]) (distinct-append d e (λ y i j. h y (there i) j))

pub distinct-map : {A B : Type 0} (f : A → B) {xs : List A} → ((x y : A) → f x ≡ f y → x ≡ y) → AreDistinct xs → AreDistinct (map f xs)
distinct-map f h none = none
distinct-map {A} f h (more {x} {xs} n d) = more (λ i. (let r = map-In f xs i in n (subst (λ (z : A). In z xs) (sym (h x r.0 r.2)) r.1))) (distinct-map f h d)

pub distinct-flat_map : {A B : Type 0} (f : A → List B) {xs : List A} → AreDistinct xs → ((x : A) → AreDistinct (f x)) → ((x y : A) (z : B) → In z (f x) → In z (f y) → x ≡ y) → AreDistinct (flat_map f xs)
distinct-flat_map f none d h = none
distinct-flat_map {A} f (more {x} {xs} n e) d h =
    distinct-append (d x) (distinct-flat_map f e d h) (λ z i j. (let r = flat_map-In f xs j in n (subst (λ (w : A). In w xs) (sym (h x r.0 z i r.2)) r.1)))

pub distinct-range : (a n : ℕ) → AreDistinct (range_with_len a n)
distinct-range a zero = none
distinct-range a (suc n) = more (λ i. (let r = range-In (a + 1) n a i in omega (arith, r.0))) (distinct-range (a + 1) n)
