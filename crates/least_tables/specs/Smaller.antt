-- What the code knows of a table and its renumberings. cells are the cells of a table of m sheets and c columns, row by row.
--   RowsAppear c cells              each row has appeared in the cells before it
--   IsGrown c m cells               they do, there is a sheet, and a cell for each sheet and column, each a sheet
--   HasSmaller c m cells            some renumbering precedes it
--   HasNoSmaller c m b cells        none that makes the sheet b, counted from 0, the first one
use Rattle.std.specs.Prelude.{◌≡◌, ℕ, suc, ◌*◌, ◌/◌, ◌<◌, ◌≤◌, List, length, take, true, false, slice_index}
use Rattle.sheet_laws.specs.Permutations.{InRange, is_permutation, at}
use Rattle.sheet_laws.specs.Tables.{precedes, renumbered}
use Rattle.live_laws.specs.Live.{appeared}

abbrev pub RowsAppear : (c : ℕ) → List ℕ → Type 0
RowsAppear c cells = (i : ℕ) → i < length cells → suc (i / c) ≤ appeared 1 (take i cells)

pub record IsGrown (c m : ℕ) (cells : List ℕ) : Type 0 where
  pub some : 1 ≤ m
  pub long : length cells ≡ m * c
  pub ranged : (i : ℕ) → i < length cells → InRange m (slice_index cells i)
  pub rows : RowsAppear c cells

pub record HasSmaller (c m : ℕ) (cells : List ℕ) : Type 0 where
  pub by : List ℕ
  pub permutes : is_permutation m by ≡ true
  pub smaller : precedes (renumbered c m by cells) cells ≡ true

abbrev pub HasNoSmaller : (c m b : ℕ) → List ℕ → Type 0
HasNoSmaller c m b cells =
    (f : List ℕ)
    → is_permutation m f ≡ true
    → at f (suc b) ≡ 1
    → precedes (renumbered c m f cells) cells ≡ false
