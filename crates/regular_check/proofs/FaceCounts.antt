-- How many faces of each dimension a closed 3-cell has.
use Rattle.std.proofs.Common.{◌≡◌, ℕ, ◌+◌, ◌≤◌, List, [], ◌∷◌, ◌++◌, Bool, true, false, cond, ◌||◌, eqb, filter, map, length, refl, ap, sym, ◌∙◌, arith}
use Rattle.std.specs.List.{list_any}
use Rattle.std.proofs.lemmas.List.{length-append}
use Rattle.std.proofs.lemmas.List.Elements.{filter-append}
use Rattle.face_poset.specs.declared.cells.Cell.{Cell}
use Rattle.number_lists.specs.Words.{holds}
use Rattle.face_poset.specs.Poset.{IsCell, IsSpace, count, facets_of}
use Rattle.face_poset.specs.Below.{cell_at, facets_of_all}
use Rattle.number_lists.proofs.CallerLemmas.{members_sorted, holds-In, In-at}
use Rattle.regular_check.specs.Rules.{faces_count}
use Rattle.regular_check.proofs.Cells.{facets-cell}

-- whether a face has the dimension
abbrev has : (dim : ℕ) → Cell → Bool
has dim face = eqb face.dim dim

-- of cells of one dimension all have it, or none
kept_at : (dim of : ℕ) (xs : List ℕ) → length (filter (has dim) (map (cell_at of) xs)) ≡ cond (eqb of dim) (length xs) 0
kept_at dim of xs = by_test (eqb of dim) refl xs
  where
    by_test : (b : Bool) → eqb of dim ≡ b → (ys : List ℕ) → length (filter (has dim) (map (cell_at of) ys)) ≡ cond b (length ys) 0
    by_test true e [] = refl
    by_test false e [] = refl
    by_test true e (y ∷ ys) = ap (λ (b : Bool). length (cond b (cell_at of y ∷ filter (has dim) (map (cell_at of) ys)) (filter (has dim) (map (cell_at of) ys)))) e ∙ omega (arith, by_test true e ys)
    by_test false e (y ∷ ys) = ap (λ (b : Bool). length (cond b (cell_at of y ∷ filter (has dim) (map (cell_at of) ys)) (filter (has dim) (map (cell_at of) ys)))) e ∙ by_test false e ys

kept-append : (dim : ℕ) (xs ys : List Cell) → length (filter (has dim) (xs ++ ys)) ≡ length (filter (has dim) xs) + length (filter (has dim) ys)
kept-append dim xs ys = ap length (filter-append (has dim) xs ys) ∙ length-append (filter (has dim) xs) (filter (has dim) ys)

layered : (dim : ℕ) (f0 f1 f2 f3 : List ℕ) → length (filter (has dim) (((map (cell_at 0) f0 ++ map (cell_at 1) f1) ++ map (cell_at 2) f2) ++ map (cell_at 3) f3))
    ≡ ((cond (eqb 0 dim) (length f0) 0 + cond (eqb 1 dim) (length f1) 0) + cond (eqb 2 dim) (length f2) 0) + cond (eqb 3 dim) (length f3) 0
layered dim f0 f1 f2 f3 =
    let a = kept-append dim ((map (cell_at 0) f0 ++ map (cell_at 1) f1) ++ map (cell_at 2) f2) (map (cell_at 3) f3) in
    let b = kept-append dim (map (cell_at 0) f0 ++ map (cell_at 1) f1) (map (cell_at 2) f2) in
    let c = kept-append dim (map (cell_at 0) f0) (map (cell_at 1) f1) in
    omega (arith, a, b, c, kept_at dim 0 f0, kept_at dim 1 f1, kept_at dim 2 f2, kept_at dim 3 f3)

-- the facets of one cell
one_cell : (space : List (List (List ℕ))) (cell : ℕ) → IsSpace space → 1 ≤ cell → cell ≤ count space 3 → facets_of_all space 2 (cell ∷ []) ≡ facets_of space 3 cell
one_cell space cell h low high =
    let is : IsCell (count space 2) (facets_of space 3 cell) = facets-cell space 3 cell (count space 2) h (omega arith) low high (omega arith) in
    sym (members_sorted (facets_of space 3 cell) (λ f. list_any (λ c. holds (facets_of space 3 c) f) (cell ∷ [])) (count space 2) is.rises
    (λ n. sym (or_false (holds (facets_of space 3 cell) n)))
    (λ n e.
    let a = In-at (holds-In (facets_of space 3 cell) (sym (or_false (holds (facets_of space 3 cell) n)) ∙ e)) in
    let w = is.within a.0 0 a.1 in
    (omega (arith, w.0, a.2), omega (arith, w.1, a.2))))
  where
    or_false : (b : Bool) → (b || false) ≡ b
    or_false true = refl
    or_false false = refl

-- the numbers of vertices, edges and 2-cells in the boundary of a 3-cell
pub record HasFaces (space : List (List (List ℕ))) (cell : ℕ) (disks : List ℕ) : Type 0 where
  pub vertices : faces_count space cell 0 ≡ length (facets_of_all space 0 (facets_of_all space 1 disks))
  pub edges : faces_count space cell 1 ≡ length (facets_of_all space 1 disks)
  pub disks_too : faces_count space cell 2 ≡ length disks

pub has_faces : (space : List (List (List ℕ))) (cell : ℕ) → IsSpace space → 1 ≤ cell → cell ≤ count space 3 → HasFaces space cell (facets_of space 3 cell)
has_faces space cell h low high =
    let e : facets_of_all space 2 (cell ∷ []) ≡ facets_of space 3 cell = one_cell space cell h low high in
    let f2 : List ℕ = facets_of_all space 2 (cell ∷ []) in
    let f1 : List ℕ = facets_of_all space 1 (facets_of_all space 2 (cell ∷ [])) in
    let f0 : List ℕ = facets_of_all space 0 (facets_of_all space 1 (facets_of_all space 2 (cell ∷ []))) in
    record {
      vertices = layered 0 f0 f1 f2 (cell ∷ []) ∙ (add_none (length f0) ∙ ap (λ (ds : List ℕ). length (facets_of_all space 0 (facets_of_all space 1 ds))) e);
      edges = layered 1 f0 f1 f2 (cell ∷ []) ∙ (add_around (length f1) ∙ ap (λ (ds : List ℕ). length (facets_of_all space 1 ds)) e);
      disks_too = layered 2 f0 f1 f2 (cell ∷ []) ∙ (add_before (length f2) ∙ ap length e);
    }
  where
    add_none : (n : ℕ) → ((n + 0) + 0) + 0 ≡ n
    add_none n = omega arith

    add_around : (n : ℕ) → ((0 + n) + 0) + 0 ≡ n
    add_around n = omega arith

    add_before : (n : ℕ) → ((0 + 0) + n) + 0 ≡ n
    add_before n = omega arith
