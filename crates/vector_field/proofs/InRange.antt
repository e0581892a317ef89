-- Facets and cofaces are cells that are there.
use Rattle.std.proofs.Common.{◌≡◌, ℕ, ◌+◌, ◌-◌, ◌≤◌, List, [], get_or, ap, subst, arith}
use Rattle.face_poset.specs.Poset.{count, facets_of, IsCell, IsSpace}
use Rattle.number_lists.proofs.CallerLemmas.{In-Contains}
use Rattle.vector_field.specs.Pairs.{counts_of}
use Rattle.vector_field.specs.Pairings.{HasCell}
use Rattle.number_lists.specs.Members.{In}
use Rattle.vector_field.proofs.Places.{count-at}

pub facets-cell : (space : List (List (List ℕ))) (dim cell : ℕ) → IsSpace space → 1 ≤ dim → 1 ≤ cell → cell ≤ count space dim → IsCell (count space (dim - 1)) (facets_of space dim cell)
facets-cell space dim cell h d a b = h.cells dim d (cell - 1) [] (omega arith)

pub facet-range : (space : List (List (List ℕ))) (dim cell f : ℕ) → IsSpace space → 1 ≤ cell → cell ≤ count space (dim + 1) → In f (facets_of space (dim + 1) cell) → (1 ≤ f) × (f ≤ count space dim)
facet-range space dim cell f h a b m =
    let c = In-Contains m in
    let w = (facets-cell space (dim + 1) cell h (omega arith) a b).within c.0 f c.1 in
    let e : dim + 1 - 1 ≡ dim = omega arith in
    (omega (arith, w.0, c.2), subst (λ (d : ℕ). f ≤ count space d) e (omega (arith, w.1, c.2)))

-- how many cells there are, by the counts
pub has_cell : (space : List (List (List ℕ))) (counts : List ℕ) (dim cell : ℕ) → counts ≡ counts_of space → dim ≤ 3 → 1 ≤ cell → cell ≤ count space dim → HasCell counts dim cell
has_cell space counts dim cell e l a b = (a, omega (arith, b, ap (λ (ns : List ℕ). get_or ns dim 0) e, count-at space dim l))
