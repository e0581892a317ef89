-- The cells of the pairs of a building, as a list.
use Rattle.std.proofs.Common.{◌≡◌, inl, inr, ℕ, List, [], ◌∷◌, ◌++◌, refl, ap, sym, subst}
use Rattle.std.specs.List.{AllByRecursion}
use Rattle.number_lists.specs.Members.{In, here, there}
use Rattle.number_lists.proofs.CallerLemmas.{In-cases}
use Rattle.local_field.specs.Inside.{cells_of, IsAmong}

-- the cells of the pairs, without the facet at the end
abbrev pub front : List (ℕ × ℕ) → List ℕ
front [] = []
front (p ∷ pairs) = p.0 ∷ p.1 ∷ front pairs

pub cells-front : (pairs : List (ℕ × ℕ)) (f : ℕ) → cells_of pairs f ≡ front pairs ++ f ∷ []
cells-front [] f = refl
cells-front (p ∷ pairs) f = ap (λ (xs : List ℕ). p.0 ∷ p.1 ∷ xs) (cells-front pairs f)

pub front-append : (xs ys : List (ℕ × ℕ)) → front (xs ++ ys) ≡ front xs ++ front ys
front-append [] ys = refl
front-append (p ∷ xs) ys = ap (λ (zs : List ℕ). p.0 ∷ p.1 ∷ zs) (front-append xs ys)

-- a cell is among those of the pairs, or the facet
pub among-front : (c : ℕ) (pairs : List (ℕ × ℕ)) (f : ℕ) → In c (front pairs) → IsAmong c pairs f
among-front c [] f i = elim i [ ]
among-front c (p ∷ pairs) f i =
    elim (In-cases i) [ inl e ↦ inl e | inr j ↦ elim (In-cases j) [ inl e ↦ inr (inl e) | inr k ↦ inr (inr (among-front c pairs f k)) ] ]

pub among-last : (c : ℕ) (pairs : List (ℕ × ℕ)) (f : ℕ) → c ≡ f → IsAmong c pairs f
among-last c [] f e = e
among-last c (p ∷ pairs) f e = inr (inr (among-last c pairs f e))

-- what holds of each member holds of all
pub all-In : {A : Type 0} (P : A → Type 0) (xs : List A) → ((x : A) → In x xs → P x) → AllByRecursion P xs
all-In P [] h = tt
all-In P (x ∷ xs) h = (h x here, all-In P xs (λ y i. h y (there i)))

pub In-of-all : {A : Type 0} (P : A → Type 0) (xs : List A) (x : A) → AllByRecursion P xs → In x xs → P x
In-of-all P (y ∷ xs) x h i = elim (In-cases i) [ inl e ↦ subst P (sym e) h.0 | inr j ↦ In-of-all P xs x h.1 j ]
In-of-all P [] x h i = elim i [ ]
