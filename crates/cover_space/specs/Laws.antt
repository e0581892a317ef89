-- What is proved of total spaces, for any regular space, any labelling u of it by m sheets, any cell and any sheet s.
--   IsChoice space m u dim cell s over  `over` gives each vertex a sheet, s over the least vertex of the closed cell;
--                                       each edge of the closed cell leads from the sheet over its first end to that
--                                       over its last
--   HasOneChoice space m u dim cell s   there is one such choice over the vertices of the closed cell, and each edge
--                                       path inside ends where it says
--   ClosedCellsAreCoveredByCopies       so it is
--   IsSheet space m u dim cell s w      `sheet` is the one y of Along
--   SheetsAreAlong                      so it is over each vertex of a closed cell
--   FacetsAgree                         over the vertices of a facet the sheets of a cell are those of the facet, from
--                                       the sheet over its own least vertex on
--   TotalIsASpace                       the total space is a space, where it has at most 60,000 cells
--   TotalIsRegular                      it is regular
--   TotalHasComponents                  it has one component, where the space has one and the labelling is connected
--   LiesOver space m u dim n            cell n of the total space is that over one cell at one sheet, and over no other
--   AreOver space m u                   over each cell stand those at the sheets 1 to m, and no others
--   EachCellLiesOverOne                 so it is
use Rattle.std.specs.Prelude.{◌≡◌, ℕ, ◌+◌, ◌*◌, ◌≤◌, List, Contains, true, slice_index}
use Rattle.face_poset.specs.Poset.{Layers, IsSpace, count, cell_count, facets_of}
use Rattle.face_poset.specs.Below.{cell_at, closed_cell}
use Rattle.regular_check.specs.Rules.{IsRegular}
use Rattle.regular_check.specs.Components.{component_count}
use Rattle.sheet_laws.specs.Permutations.{InRange, at}
use Rattle.sheet_laws.specs.Labellings.{label, is_labelling, IsConnected}
use Rattle.cover_space.specs.Total.{least_vertex, sheeted, Along, sheet, cell_over, total_of}

pub record IsChoice (space : Layers) (m : ℕ) (u : List (List ℕ)) (dim cell s : ℕ) (over : ℕ → ℕ) : Type 0 where
  pub least : over (least_vertex space dim cell) ≡ s
  pub sheets : (w : ℕ) → InRange m (over w)
  pub edges :
      (e : ℕ)
      → Contains (closed_cell space dim cell) (cell_at 1 e)
      → at (label u e) (over (slice_index (facets_of space 1 e) 0)) ≡ over (slice_index (facets_of space 1 e) 1)

pub record HasOneChoice (space : Layers) (m : ℕ) (u : List (List ℕ)) (dim cell s : ℕ) : Type 0 where
  pub over : ℕ → ℕ
  pub is : IsChoice space m u dim cell s over
  pub only :
      (f : ℕ → ℕ)
      → IsChoice space m u dim cell s f
      → (w : ℕ)
      → Contains (closed_cell space dim cell) (cell_at 0 w)
      → f w ≡ over w
  pub ends : (w y : ℕ) → Along space u dim cell s w y → y ≡ over w

abbrev pub ClosedCellsAreCoveredByCopies : Type 0
ClosedCellsAreCoveredByCopies =
    (space : Layers) (m : ℕ) (u : List (List ℕ)) (dim cell s : ℕ)
    → IsSpace space
    → IsRegular space
    → is_labelling space m u ≡ true
    → InRange (count space dim) cell
    → InRange m s
    → HasOneChoice space m u dim cell s

pub record IsSheet (space : Layers) (m : ℕ) (u : List (List ℕ)) (dim cell s w : ℕ) : Type 0 where
  pub is : Along space u dim cell s w (sheet space m u dim cell s w)
  pub only : (y : ℕ) → Along space u dim cell s w y → y ≡ sheet space m u dim cell s w
  pub range : InRange m (sheet space m u dim cell s w)

abbrev pub SheetsAreAlong : Type 0
SheetsAreAlong =
    (space : Layers) (m : ℕ) (u : List (List ℕ)) (dim cell s w : ℕ)
    → IsSpace space
    → IsRegular space
    → is_labelling space m u ≡ true
    → InRange (count space dim) cell
    → InRange m s
    → Contains (closed_cell space dim cell) (cell_at 0 w)
    → IsSheet space m u dim cell s w

abbrev pub FacetsAgree : Type 0
FacetsAgree =
    (space : Layers) (m : ℕ) (u : List (List ℕ)) (dim cell s facet w : ℕ)
    → IsSpace space
    → IsRegular space
    → is_labelling space m u ≡ true
    → InRange (count space (dim + 1)) cell
    → InRange m s
    → Contains (facets_of space (dim + 1) cell) facet
    → Contains (closed_cell space dim facet) (cell_at 0 w)
    → sheet space m u dim facet (sheet space m u (dim + 1) cell s (least_vertex space dim facet)) w
    ≡ sheet space m u (dim + 1) cell s w

abbrev pub TotalIsASpace : Type 0
TotalIsASpace =
    (space : Layers) (m : ℕ) (u : List (List ℕ))
    → IsSpace space
    → IsRegular space
    → is_labelling space m u ≡ true
    → m * cell_count space ≤ 60000
    → IsSpace (total_of space m u)

abbrev pub TotalIsRegular : Type 0
TotalIsRegular =
    (space : Layers) (m : ℕ) (u : List (List ℕ))
    → IsSpace space
    → IsRegular space
    → is_labelling space m u ≡ true
    → m * cell_count space ≤ 60000
    → IsRegular (total_of space m u)

abbrev pub TotalHasComponents : Type 0
TotalHasComponents =
    (space : Layers) (m : ℕ) (u : List (List ℕ))
    → IsSpace space
    → IsRegular space
    → is_labelling space m u ≡ true
    → m * cell_count space ≤ 60000
    → component_count space ≡ 1
    → IsConnected space m u
    → component_count (total_of space m u) ≡ 1

pub record LiesOver (space : Layers) (m : ℕ) (u : List (List ℕ)) (dim n : ℕ) : Type 0 where
  pub cell : ℕ
  pub at_sheet : ℕ
  pub cell_range : InRange (count space dim) cell
  pub sheet_range : InRange m at_sheet
  pub number : sheeted m cell at_sheet ≡ n
  pub only :
      (c s : ℕ)
      → InRange (count space dim) c
      → InRange m s
      → sheeted m c s ≡ n
      → (c ≡ cell) × (s ≡ at_sheet)
  pub facets : facets_of (total_of space m u) dim n ≡ cell_over space m u dim cell at_sheet

pub record AreOver (space : Layers) (m : ℕ) (u : List (List ℕ)) : Type 0 where
  pub counts : (dim : ℕ) → count (total_of space m u) dim ≡ m * count space dim
  pub there :
      (dim cell s : ℕ)
      → InRange (count space dim) cell
      → InRange m s
      → InRange (count (total_of space m u) dim) (sheeted m cell s)
  pub each : (dim n : ℕ) → InRange (count (total_of space m u) dim) n → LiesOver space m u dim n

abbrev pub EachCellLiesOverOne : Type 0
EachCellLiesOverOne = (space : Layers) (m : ℕ) (u : List (List ℕ)) → IsSpace space → 1 ≤ m → AreOver space m u
