-- The pairs of a collapse of a 3-cell, as they are listed.
use Rattle.std.proofs.Common.{◌≡◌, ℕ, zero, suc, ◌+◌, ◌≤◌, ◌<◌, List, [], ◌∷◌, ◌++◌, true, map, take, length, get_or, refl, ap, sym, ◌∙◌, subst, arith}
use Rattle.number_lists.specs.Members.{In}
use Rattle.number_lists.proofs.CallerLemmas.{at-In}
use Rattle.face_poset.specs.declared.cells.Pair.{Pair}
use Rattle.face_poset.specs.Poset.{IsSpace, count, facets_of}
use Rattle.sphere_collapses.specs.Collapses.{boundary_less, collapses}
use Rattle.local_field.proofs.SolidBuildings.{solid-there}

pub record PairStands (space : List (List (List ℕ))) (p : Pair) : Type 0 where
  pub flat : p.dim ≤ 1
  pub lower : p.lower ≤ count space p.dim
  pub upper : p.upper ≤ count space (p.dim + 1)

pub pair-stands : (space : List (List (List ℕ))) → IsSpace space → (n m : ℕ) → 1 ≤ n → n ≤ count space 3 → In m (facets_of space 3 n) → (pairs : List Pair) → collapses space (boundary_less space n m) pairs ≡ true
    → (p : Pair) (k : ℕ) → k < length pairs → p ≡ get_or pairs k p → PairStands space p
pair-stands space valid n m low high i pairs e p k l s =
    let t = solid-there space valid n m low high i pairs e p (subst (λ (q : Pair). In q pairs) (sym s) (at-In pairs k p l)) in
    let u = t.1.small in
    let more : suc p.dim ≡ p.dim + 1 = omega arith in
    record { flat = omega (arith, u); lower = t.0.high; upper = subst (λ (d : ℕ). p.upper ≤ count space d) more t.1.high }

-- one more of a list that is mapped
pub map-more : {A B : Type 0} (f : A → B) (xs : List A) (i : ℕ) (d : A) → i < length xs → map f (take (i + 1) xs) ≡ map f (take i xs) ++ f (get_or xs i d) ∷ []
map-more {A} {B} f xs i d l = ap (λ (k : ℕ). map f (take k xs)) more ∙ by xs i l
  where
    more : i + 1 ≡ suc i
    more = omega arith

    by : (xs : List A) (i : ℕ) → i < length xs → map f (take (suc i) xs) ≡ map f (take i xs) ++ f (get_or xs i d) ∷ []
    by [] i l = absurd (omega (arith, l))
    by (x ∷ xs) zero l = refl
    by (x ∷ xs) (suc i) l = ap (λ (ys : List B). f x ∷ ys) (by xs i (omega (arith, l)))
