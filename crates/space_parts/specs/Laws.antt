-- What the definitions say of one another: the contracts of the laws in src/laws.rt. A regular space is one that keeps the rules of
-- regular_check; all cells and components are numbered from 1.
--   FacetsLieWithin                 in a regular space the facets of a cell have the component of the cell
--   IsWhole space                   the lists are a space, which is regular and has one component
--   PartsAreRegular                 the part of a component of a regular space is such a space
--   IsInOnePart space dim cell      the component of the cell is one of the components, and the cell is among the cells of this
--                                   component and of no other
--   EachCellIsInOnePart             so it is with each cell of a space
--   OnePartIsTheSpace               a space with one component is its part
--   OnePartKeepsNumbers             and each cell of that part has the number that it has in the space
--   PartsHaveTheFacets              the facets of a cell of a part are those of its cell in the whole space
use Rattle.std.specs.Prelude.{◌≡◌, ◌↔◌, ℕ, ◌+◌, ◌≤◌, Contains, map}
use Rattle.face_poset.specs.Poset.{Layers, IsSpace, count, facets_of}
use Rattle.regular_check.specs.Rules.{IsRegular}
use Rattle.regular_check.specs.Components.{component_count}
use Rattle.space_parts.specs.Parts.{component_at, cells_in, part_of, piece_of, whole_of}

abbrev pub FacetsLieWithin : Type 0
FacetsLieWithin =
    (space : Layers) (dim cell facet : ℕ)
    → IsSpace space
    → IsRegular space
    → 1 ≤ cell
    → cell ≤ count space (dim + 1)
    → Contains (facets_of space (dim + 1) cell) facet
    → component_at space dim facet ≡ component_at space (dim + 1) cell

pub record IsWhole (space : Layers) : Type 0 where
  pub valid : IsSpace space
  pub regular : IsRegular space
  pub one : component_count space ≡ 1

abbrev pub PartsAreRegular : Type 0
PartsAreRegular = (space : Layers) (number : ℕ) → IsSpace space → IsRegular space → 1 ≤ number → number ≤ component_count space → IsWhole (part_of space number)

pub record IsInOnePart (space : Layers) (dim cell : ℕ) : Type 0 where
  pub first : 1 ≤ component_at space dim cell
  pub last : component_at space dim cell ≤ component_count space
  pub only : (number : ℕ) → Contains (cells_in space number dim) cell ↔ (number ≡ component_at space dim cell)

abbrev pub EachCellIsInOnePart : Type 0
EachCellIsInOnePart = (space : Layers) (dim cell : ℕ) → IsSpace space → 1 ≤ cell → cell ≤ count space dim → IsInOnePart space dim cell

abbrev pub OnePartIsTheSpace : Type 0
OnePartIsTheSpace = (space : Layers) → IsSpace space → component_count space ≡ 1 → part_of space 1 ≡ space

abbrev pub OnePartKeepsNumbers : Type 0
OnePartKeepsNumbers =
    (space : Layers) (dim cell : ℕ)
    → IsSpace space
    → component_count space ≡ 1
    → 1 ≤ cell
    → cell ≤ count space dim
    → whole_of (piece_of space 1) dim cell ≡ cell

abbrev pub PartsHaveTheFacets : Type 0
PartsHaveTheFacets =
    (space : Layers) (number dim cell : ℕ)
    → IsSpace space
    → IsRegular space
    → 1 ≤ cell
    → cell ≤ count (part_of space number) (dim + 1)
    → map (whole_of (piece_of space number) dim) (facets_of (part_of space number) (dim + 1) cell)
    ≡ facets_of space (dim + 1) (whole_of (piece_of space number) (dim + 1) cell)
