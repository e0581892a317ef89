-- A complex that is reduced to critical cells, degree by degree: five levels, the last without cells. Degrees and places count from 0.
-- F is the arithmetic of a field.
--   Level                                    the rows of the coboundary of a degree, the kinds of its cells, and its units
--   empty_level                              a degree without cells
--   level_at levels degree                   what is seen of a degree
--   kinds_at, cells_at, rows_at, units_at    its kinds, its number of cells, the rows of its coboundary, its units
--   level_before levels degree               the degree before, which before the first one has no cells
--   IsExtensionAt F levels degree w x        x is the extension of the values w at the critical cells of a degree
--   IsReducedAt F levels degree rows         the rows are the coboundaries of the extensions, at the critical cells
--   IsFlowAt F levels degree c z             z is the flow of the values c at the critical cells of a degree
--   IsClearedAt F levels degree x w y        w is left of x at the critical cells less the coboundary of y
--   IsFilledAt F levels degree places        the places are those of the reduced rows that are not zero
--   AreFilledAt F levels degree rows         the rows are the reduced rows that are not zero, in their order
use Rattle.std.specs.Prelude.{◌≡◌, ℕ, zero, suc, ◌+◌, List, [], length, slice_index_or}
use Rattle.small_field.specs.Field.{Ops}
use Rattle.linear_laws.specs.ZeroRows.{nonzero_rows, nonzero_places}
use Rattle.split_laws.specs.declared.kind.Kind.{Kind}
use Rattle.split_laws.specs.Solutions.{IsCleared, IsExtension, IsFlow, IsReducedBy}
use Rattle.pair_stages.specs.declared.unit.Unit.{Unit}

pub record Level : Type 0 where
  pub rows : List (List ℕ)
  pub kinds : List Kind
  pub units : List Unit

abbrev pub empty_level : Level
empty_level = record { rows = []; kinds = []; units = [] }

abbrev pub level_at : List Level → (degree : ℕ) → Level
level_at levels degree = slice_index_or levels degree empty_level

abbrev pub kinds_at : List Level → (degree : ℕ) → List Kind
kinds_at levels degree = (level_at levels degree).kinds

abbrev pub cells_at : List Level → (degree : ℕ) → ℕ
cells_at levels degree = length (kinds_at levels degree)

abbrev pub rows_at : List Level → (degree : ℕ) → List (List ℕ)
rows_at levels degree = (level_at levels degree).rows

abbrev pub units_at : List Level → (degree : ℕ) → List Unit
units_at levels degree = (level_at levels degree).units

abbrev pub level_before : List Level → (degree : ℕ) → Level
level_before levels zero = empty_level
level_before levels (suc degree) = level_at levels degree

abbrev pub IsExtensionAt : Ops → List Level → (degree : ℕ) → (w x : List ℕ) → Type 0
IsExtensionAt F levels degree w x =
    IsExtension F (cells_at levels degree) (cells_at levels (degree + 1)) (rows_at levels degree) (kinds_at levels degree) (kinds_at levels (degree + 1)) w x

abbrev pub IsReducedAt : Ops → List Level → (degree : ℕ) → List (List ℕ) → Type 0
IsReducedAt F levels degree rows =
    IsReducedBy F (cells_at levels degree) (cells_at levels (degree + 1)) (rows_at levels degree) (kinds_at levels degree) (kinds_at levels (degree + 1)) rows

abbrev pub IsFlowAt : Ops → List Level → (degree : ℕ) → (c z : List ℕ) → Type 0
IsFlowAt F levels degree c z =
    let last : Level = level_before levels degree in
    IsFlow F (length last.kinds) (cells_at levels degree) last.rows last.kinds (kinds_at levels degree) c z

abbrev pub IsClearedAt : Ops → List Level → (degree : ℕ) → (x w y : List ℕ) → Type 0
IsClearedAt F levels degree x w y =
    let last : Level = level_before levels degree in
    IsCleared F (length last.kinds) (cells_at levels degree) last.rows last.kinds (kinds_at levels degree) x w y

-- ---- the reduced rows that are not zero

abbrev pub IsFilledAt : Ops → List Level → (degree : ℕ) → (places : List ℕ) → Type 0
IsFilledAt F levels degree places = (all : List (List ℕ)) → IsReducedAt F levels degree all → places ≡ nonzero_places all

pub record AreFilledAt (F : Ops) (levels : List Level) (degree : ℕ) (rows : List (List ℕ)) : Type 0 where
  pub all : List (List ℕ)
  pub reduced : IsReducedAt F levels degree all
  pub are : rows ≡ nonzero_rows all
