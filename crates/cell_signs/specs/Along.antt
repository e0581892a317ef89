-- Signs of edges, of 2-cells by the directions of their cycles, and of 3-cells along a collapse of their boundary.
-- space is the lists of a space, negative dim cell facet tells whether the sign of a facet of a cell is -1; disks are
-- the 2-cells of a 3-cell, signs tells which of them have the sign -1 so far. Cells are numbered from 1.
--   is_first space edge vertex         the vertex is the first of the edge, where it has -1
--   goes_back steps edge               some step goes along the edge from its second vertex to its first
--   low_negative space                 the signs of edges and 2-cells
--   HasLowSigns space negative         these are the signs of the edges and the 2-cells
--   across space disks edge disk       the first of the disks at the edge that is not this one
--   unlike a b                         exactly one of two tests holds
--   cancelling space disks signs edge disk    the sign of the disk that cancels, over the edge, with the disk across it
--   signed_by space disks signs p      the signs after a pair: one of an edge and a disk gives the disk the sign that
--                                      cancels
--   signed_along space disks pairs signs      those after pair after pair
--   solid_negative space cell pairs    the signs along the pairs, where no disk of the 3-cell has -1 at first
--   HasHighSigns space negative cell   along a collapse of its boundary less one disk the disks of the 3-cell have
--                                      these signs
--   HaveHighSigns space negative       so has each 3-cell
--   PairsFit space cell pairs          each pair of an edge and a 2-cell is one of a disk of the 3-cell and an edge
--                                      of it
use Rattle.std.specs.Prelude.{◌≡◌, ℕ, ◌≤◌, ◌==◌, ◌&&◌, List, [], ◌∷◌, Bool, true, false, not, if◌then◌else◌, filter, slice_index, All}
use Rattle.std.specs.List.{list_any}
use Rattle.number_lists.specs.Words.{holds}
use Rattle.face_poset.specs.declared.cells.Pair.{Pair}
use Rattle.face_poset.specs.Poset.{Layers, count, facets_of}
use Rattle.regular_check.specs.declared.cycles.Step.{Step}
use Rattle.regular_check.specs.Cycle.{cycle}
use Rattle.regular_check.specs.Rules.{sharing}
use Rattle.sphere_collapses.specs.Collapses.{collapses, boundary_less}

abbrev pub is_first : Layers → (edge vertex : ℕ) → Bool
is_first space edge vertex = slice_index (facets_of space 1 edge) 0 == vertex

abbrev pub goes_back : List Step → (edge : ℕ) → Bool
goes_back steps edge = list_any (λ (step : Step). (step.edge == edge) && not step.forward) steps

abbrev pub low_negative : Layers → (dim cell facet : ℕ) → Bool
low_negative space dim cell facet = if dim == 1 then is_first space cell facet else goes_back (cycle space cell) facet

pub record HasLowSigns (space : Layers) (negative : ℕ → ℕ → ℕ → Bool) : Type 0 where
  pub edges :
      (edge vertex : ℕ)
      → 1 ≤ edge
      → edge ≤ count space 1
      → holds (facets_of space 1 edge) vertex ≡ true
      → negative 1 edge vertex ≡ is_first space edge vertex
  pub disks :
      (cell edge : ℕ)
      → 1 ≤ cell
      → cell ≤ count space 2
      → holds (facets_of space 2 cell) edge ≡ true
      → negative 2 cell edge ≡ goes_back (cycle space cell) edge

abbrev pub across : Layers → (disks : List ℕ) → (edge disk : ℕ) → ℕ
across space disks edge disk = slice_index (filter (λ c. not (c == disk)) (sharing space 2 disks edge)) 0

abbrev pub unlike : Bool → Bool → Bool
unlike a b = if a then not b else b

abbrev pub cancelling : Layers → (disks : List ℕ) → (signs : ℕ → Bool) → (edge disk : ℕ) → Bool
cancelling space disks signs edge disk =
    not
    (unlike
    (unlike (signs (across space disks edge disk)) (low_negative space 2 (across space disks edge disk) edge))
    (low_negative space 2 disk edge))

abbrev pub signed_by : Layers → (disks : List ℕ) → (signs : ℕ → Bool) → Pair → ℕ → Bool
signed_by space disks signs p c =
    if (p.dim == 1) && (c == p.upper) then cancelling space disks signs p.lower c else signs c

abbrev pub signed_along : Layers → (disks : List ℕ) → List Pair → (signs : ℕ → Bool) → ℕ → Bool
signed_along space disks [] signs = signs
signed_along space disks (p ∷ pairs) signs = signed_along space disks pairs (signed_by space disks signs p)

abbrev pub solid_negative : Layers → (cell : ℕ) → List Pair → ℕ → Bool
solid_negative space cell pairs = signed_along space (facets_of space 3 cell) pairs (λ _. false)

pub record HasHighSigns (space : Layers) (negative : ℕ → ℕ → ℕ → Bool) (cell : ℕ) : Type 0 where
  pub face : ℕ
  pub pairs : List Pair
  pub collapse : collapses space (boundary_less space cell face) pairs ≡ true
  pub signs :
      (disk : ℕ)
      → holds (facets_of space 3 cell) disk ≡ true
      → negative 3 cell disk ≡ solid_negative space cell pairs disk

abbrev pub HaveHighSigns : Layers → (ℕ → ℕ → ℕ → Bool) → Type 0
HaveHighSigns space negative = (cell : ℕ) → 1 ≤ cell → cell ≤ count space 3 → HasHighSigns space negative cell

abbrev pub PairsFit : Layers → (cell : ℕ) → List Pair → Type 0
PairsFit space cell pairs =
    All
    (λ (p : Pair).
    p.dim ≡ 1
    → (holds (facets_of space 3 cell) p.upper ≡ true) × (holds (facets_of space 2 p.upper) p.lower ≡ true))
    pairs
