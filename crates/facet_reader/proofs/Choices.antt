-- Sublists: the choices of some of the elements, and the lists that leave one out.
use Rattle.std.proofs.Common.{◌≡◌, inl, inr, ℕ, zero, suc, ◌+◌, List, [], ◌∷◌, ◌++◌, map, length, refl, ap, sym, ◌∙◌, subst, arith}
use Rattle.number_lists.specs.Members.{In, here, there}
use Rattle.number_lists.proofs.CallerLemmas.{In-cases, In-map, map-In, In-left, In-right, append-In, AreDistinct, none, more, distinct-append, distinct-map}
use Rattle.std.proofs.lemmas.List.{map-append}
use Rattle.std.proofs.lemmas.Simd.{map-map}
use Rattle.facet_reader.specs.SetSpaces.{choices, leave_one}

-- some of the elements, in their order
pub data IsPart : List ℕ → List ℕ → Type 0 where
  no_part : IsPart [] []
  kept : {x : ℕ} {s xs : List ℕ} → IsPart s xs → IsPart (x ∷ s) (x ∷ xs)
  left : {x : ℕ} {s xs : List ℕ} → IsPart s xs → IsPart s (x ∷ xs)

pub empty_part : (xs : List ℕ) → IsPart [] xs
empty_part [] = no_part
empty_part (x ∷ xs) = left (empty_part xs)

pub whole_part : (xs : List ℕ) → IsPart xs xs
whole_part [] = no_part
whole_part (x ∷ xs) = kept (whole_part xs)

pub part_of_part : {s t xs : List ℕ} → IsPart s t → IsPart t xs → IsPart s xs
part_of_part h no_part = h
part_of_part (kept h) (kept k) = kept (part_of_part h k)
part_of_part (left h) (kept k) = left (part_of_part h k)
part_of_part h (left k) = left (part_of_part h k)

pub part-In : {x : ℕ} {s xs : List ℕ} → IsPart s xs → In x s → In x xs
part-In no_part i = i
part-In (kept h) here = here
part-In (kept h) (there i) = there (part-In h i)
part-In (left h) i = there (part-In h i)

further : (x : ℕ) (s xs : List ℕ) → In s (choices (length s) xs) → In s (choices (length s) (x ∷ xs))
further x [] xs i = here
further x (y ∷ s) xs i = In-right (map (λ t. x ∷ t) (choices (length s) xs)) i

-- the choices of a size are the parts of this length
pub part-choice : {s xs : List ℕ} → IsPart s xs → In s (choices (length s) xs)
part-choice no_part = here
part-choice (kept {x} {s} {xs} h) = In-left (choices (suc (length s)) xs) (In-map (λ t. x ∷ t) (part-choice h))
part-choice (left {x} {s} {xs} h) = further x s xs (part-choice h)

pub choice-part : (size : ℕ) (s xs : List ℕ) → In s (choices size xs) → IsPart s xs × (length s ≡ size)
choice-part zero s xs here = (empty_part xs, refl)
choice-part zero s xs (there i) = elim i [ ]
choice-part (suc size) s [] i = elim i [ ]
choice-part (suc size) s (x ∷ xs) i =
    elim (append-In (map (λ t. x ∷ t) (choices size xs)) (choices (suc size) xs) i) [
      | inl j ↦ let r = map-In (λ t. x ∷ t) (choices size xs) j in let k = choice-part size r.0 xs r.1 in (subst (λ t. IsPart t (x ∷ xs)) (sym r.2) (kept k.0), ap length r.2 ∙ ap (λ (n : ℕ). suc n) k.1)
      | inr j ↦ let k = choice-part (suc size) s xs j in (left k.0, k.1)
    ]

pub choice-of-part : (size : ℕ) {s xs : List ℕ} → IsPart s xs → length s ≡ size → In s (choices size xs)
choice-of-part size {s} {xs} h e = subst (λ (n : ℕ). In s (choices n xs)) e (part-choice h)

no_member : (t : List ℕ) → In t [] → ⊥
no_member t i = elim i [ ]

-- lists that leave one out are parts with one element less
pub leave-part : (s t : List ℕ) → In t (leave_one s) → IsPart t s × (length t + 1 ≡ length s)
leave-part [] t i = elim i [ ]
leave-part (x ∷ s) t i =
    elim (append-In (map (λ u. x ∷ u) (leave_one s)) (s ∷ []) i) [
      | inl j ↦ let r = map-In (λ u. x ∷ u) (leave_one s) j in let k = leave-part s r.0 r.1 in (subst (λ u. IsPart u (x ∷ s)) (sym r.2) (kept k.0), omega (arith, ap length r.2, k.1))
      | inr j ↦ elim (In-cases j) [
        | inl e ↦ (subst (λ u. IsPart u (x ∷ s)) (sym e) (left (whole_part s)), omega (arith, ap length e))
        | inr i ↦ absurd (no_member t i)
      ]
    ]

pub leave-some : (x : ℕ) (s : List ℕ) → (t : List ℕ) × In t (leave_one (x ∷ s))
leave-some x s = (s, In-right (map (λ u. x ∷ u) (leave_one s)) here)

-- maps
pub leave-map : (f : ℕ → ℕ) (s : List ℕ) → leave_one (map f s) ≡ map (map f) (leave_one s)
leave-map f [] = refl
leave-map f (x ∷ s) =
    ap (λ (ts : List (List ℕ)). map (λ u. f x ∷ u) ts ++ map f s ∷ []) (leave-map f s)
    ∙ (ap (λ (ts : List (List ℕ)). ts ++ map f s ∷ []) (map-map (λ u. f x ∷ u) (map f) (leave_one s) ∙ sym (map-map (map f) (λ u. x ∷ u) (leave_one s)))
    ∙ sym (map-append (map f) (map (λ u. x ∷ u) (leave_one s)) (s ∷ [])))

pub part-map : (f : ℕ → ℕ) {s xs : List ℕ} → IsPart s xs → IsPart (map f s) (map f xs)
part-map f no_part = no_part
part-map f (kept h) = kept (part-map f h)
part-map f (left h) = left (part-map f h)

-- choices of different elements are different
pub distinct-choices : (size : ℕ) (xs : List ℕ) → AreDistinct xs → AreDistinct (choices size xs)
distinct-choices zero xs h = more (λ i. elim i [ ]) none
distinct-choices (suc size) [] h = none
distinct-choices (suc size) (x ∷ xs) (more fresh h) =
    distinct-append (distinct-map (λ s. x ∷ s) (λ s t e. same_rest s t e) (distinct-choices size xs h)) (distinct-choices (suc size) xs h)
    (λ s i j.
    let r = map-In (λ t. x ∷ t) (choices size xs) i in
    let k = choice-part (suc size) s xs j in
    fresh (part-In k.0 (subst (In x) (sym r.2) here)))
  where
    same_rest : (s t : List ℕ) → x ∷ s ≡ x ∷ t → s ≡ t
    same_rest s t e = cc

pub part-distinct : {s xs : List ℕ} → IsPart s xs → AreDistinct xs → AreDistinct s
part-distinct no_part h = h
part-distinct (kept k) (more fresh h) = more (λ i. fresh (part-In k i)) (part-distinct k h)
part-distinct (left k) (more fresh h) = part-distinct k h
