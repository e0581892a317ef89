-- Lists in which each member stands in a relation to each later one.
use Rattle.std.proofs.Common.{◌≡◌, ◌⊎◌, inl, inr, List, [], ◌∷◌, ◌++◌, Bool, true, false, cond, filter, reverse, refl, sym, subst}
use Rattle.std.proofs.lemmas.List.{reverse-append}
use Rattle.number_lists.specs.Members.{In, here, there}
use Rattle.number_lists.proofs.CallerLemmas.{In-cases, In-inside, append-In, reverse-In}

abbrev pub Lined : {A : Type 0} → (A → A → Type 0) → List A → Type 0
Lined R [] = Unit {0}
Lined R (x ∷ xs) = ((y : _) → In y xs → R x y) × Lined R xs

module _ {A : Type 0} (R : A → A → Type 0) where
  pub lined-append : (xs ys : List A) → Lined R xs → Lined R ys → ((x y : A) → In x xs → In y ys → R x y) → Lined R (xs ++ ys)
  lined-append [] ys h k both = k
  lined-append (x ∷ xs) ys h k both =
      (λ y m. elim (append-In xs ys m) [ inl p ↦ h.0 y p | inr p ↦ both x y here p ], lined-append xs ys h.1 k (λ z y m n. both z y (there m) n))

  pub lined-push : (xs : List A) (y : A) → Lined R xs → ((x : A) → In x xs → R x y) → Lined R (xs ++ y ∷ [])
  lined-push xs y h k = lined-append xs (y ∷ []) h ((λ z m. elim m [ ]), tt) (λ x z m n. elim (In-cases n) [ inl e ↦ rw e (k x m) | inr o ↦ elim o [ ] ])

  pub lined-filter : (p : A → Bool) (xs : List A) → Lined R xs → Lined R (filter p xs)
  lined-filter p [] h = tt
  lined-filter p (x ∷ xs) h = by (p x) (lined-filter p xs h.1)
    where
      by : (b : Bool) → Lined R (filter p xs) → Lined R (cond b (x ∷ filter p xs) (filter p xs))
      by true k = (λ y m. h.0 y (In-inside p xs m), k)
      by false k = k

  -- two members are one, or one stands in the relation to the other
  pub lined-two : (xs : List A) → Lined R xs → (x y : A) → In x xs → In y xs → (x ≡ y) ⊎ (R x y ⊎ R y x)
  lined-two [] h x y m n = elim m [ ]
  lined-two (z ∷ zs) h x y m n =
      elim (In-cases m) [
        | inl e ↦ elim (In-cases n) [ inl f ↦ inl (rw (e, f) refl) | inr k ↦ inr (inl (rw e (h.0 y k))) ]
        | inr i ↦ elim (In-cases n) [ inl f ↦ inr (inr (rw f (h.0 x i))) | inr k ↦ lined-two zs h.1 x y i k ]
      ]

  pub lined-left : (xs ys : List A) → Lined R (xs ++ ys) → Lined R xs
  lined-left [] ys h = tt
  lined-left (x ∷ xs) ys h = (λ y m. h.0 y (in_left xs m), lined-left xs ys h.1)
    where
      in_left : (zs : List A) {y : A} → In y zs → In y (zs ++ ys)
      in_left [] m = elim m [ ]
      in_left (z ∷ zs) here = here
      in_left (z ∷ zs) (there m) = there (in_left zs m)

-- backward
pub lined-reverse : {A : Type 0} (R : A → A → Type 0) (xs : List A) → Lined (λ x y. R y x) xs → Lined R (reverse xs)
lined-reverse R [] h = tt
lined-reverse {A} R (x ∷ xs) h =
    let P : List A → Type 0 = λ ys. Lined R ys in
    subst P (sym (reverse-append (x ∷ []) xs)) (lined-push R (reverse xs) x (lined-reverse R xs h.1) (λ y m. h.0 y (reverse-In xs m)))
