-- Lemmas on lists of facets.
use Rattle.std.proofs.Common.{◌≡◌, ℕ, zero, suc, ◌+◌, ◌-◌, ◌<◌, ◌≤◌, List, length, get_or, [], subst, sym, arith}
use Rattle.face_poset.specs.Poset.{IsCell, IsSpace, count, facets_of}

-- the facets of a cell are a list of facets
pub facets-cell : (space : List (List (List ℕ))) (dim cell most : ℕ) → IsSpace space → 1 ≤ dim → 1 ≤ cell → cell ≤ count space dim → count space (dim - 1) ≤ most → IsCell most (facets_of space dim cell)
facets-cell space dim cell most h low first last room =
    let is : IsCell (count space (dim - 1)) (facets_of space dim cell) = h.cells dim low (cell - 1) [] (omega arith) in
    record { rises = is.rises; within = λ k d l. (let w = is.within k d l in (w.0, omega (arith, w.1, room))); some = is.some }

-- a number of an increasing list from 1 on is above its place
pub above_place : (xs : List ℕ) (most : ℕ) → IsCell most xs → (k : ℕ) → k < length xs → k < get_or xs k 0
above_place xs most h zero l = (h.within zero 0 l).0
above_place xs most h (suc k) l =
    let a : k < get_or xs k 0 = above_place xs most h k (omega arith) in
    let b : get_or xs k 0 < get_or xs (k + 1) 0 = h.rises k (omega arith) in
    let e : suc k ≡ k + 1 = omega arith in
    subst (λ (n : ℕ). n < get_or xs n 0) (sym e) (omega (arith, a, b))

pub short : (xs : List ℕ) (most : ℕ) → IsCell most xs → length xs ≤ most
short xs most h =
    let a : length xs - 1 < get_or xs (length xs - 1) 0 = above_place xs most h (length xs - 1) (omega (arith, h.some)) in
    omega (arith, a, (h.within (length xs - 1) 0 (omega (arith, h.some))).1, h.some)
