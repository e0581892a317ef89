-- What the definitions say of one another: the contracts of the laws in src/laws.rt.
--   ReadsAs text space           the text has a value, and the space of that value is this one
--   TextReadsBack                the boundary text of a space reads as the space
--   CofacesAre space dim cell    the cofaces of the cell are exactly the cells that have it as a facet, in increasing order
--   CofacesAreCellsAbove         so are those of each cell
--   ComesBefore a b              cell a comes before cell b: by dimension, then by number
--   ClosedCellIsOrdered          a closed cell is in this order
--   ClosedCellIsLeast            a closed cell is the least set that holds the cell and the facets of all its members
use Rattle.std.specs.Prelude.{◌≡◌, ◌↔◌, ◌⊎◌, ℕ, ◌+◌, ◌<◌, ◌≤◌, List, Contains, AllPairs, Ok}
use Rattle.std.specs.List.Sorted.{IsStrictlyIncreasing}
use Rattle.gap_text.specs.Value.{Value}
use Rattle.gap_text.specs.Reading.{value_of}
use Rattle.face_poset.specs.declared.cells.Cell.{Cell}
use Rattle.face_poset.specs.Poset.{Layers, count, facets_of, cofaces_of, IsSpace, IsLimited}
use Rattle.face_poset.specs.Below.{cell_at, closed_cell, IsBelow}
use Rattle.face_poset.specs.Reader.{space_of}
use Rattle.face_poset.specs.Text.{boundary_text}

abbrev pub ReadsAs : List ℕ → Layers → Type 0
ReadsAs text space = (v : Value) × (value_of text ≡ Ok v) × (space_of v ≡ Ok space)

abbrev pub TextReadsBack : Type 0
TextReadsBack = (space : Layers) → IsSpace space → IsLimited space → ReadsAs (boundary_text space) space

pub record CofacesAre (space : Layers) (dim cell : ℕ) : Type 0 where
  pub rise : IsStrictlyIncreasing (cofaces_of space dim cell)
  pub all : (n : ℕ) → Contains (cofaces_of space dim cell) n ↔ ((1 ≤ n) × (n ≤ count space (dim + 1)) × Contains (facets_of space (dim + 1) n) cell)

abbrev pub CofacesAreCellsAbove : Type 0
CofacesAreCellsAbove = (space : Layers) (dim cell : ℕ) → CofacesAre space dim cell

abbrev pub ComesBefore : Cell → Cell → Type 0
ComesBefore a b = (a.dim < b.dim) ⊎ ((a.dim ≡ b.dim) × (a.number < b.number))

abbrev pub ClosedCellIsOrdered : Type 0
ClosedCellIsOrdered = (space : Layers) (dim cell : ℕ) → AllPairs ComesBefore (closed_cell space dim cell)

abbrev pub ClosedCellIsLeast : Type 0
ClosedCellIsLeast =
    (space : Layers) (dim cell : ℕ)
    → IsSpace space
    → 1 ≤ cell
    → cell ≤ count space dim
    → (d n : ℕ)
    → Contains (closed_cell space dim cell) (cell_at d n) ↔ IsBelow space dim cell d n
