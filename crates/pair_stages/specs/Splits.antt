-- A signed set with a field of pairs, degree by degree; the last of the five degrees has no cells. stages are the degrees.
--   stage_at stages degree                  what is kept of a degree
--   kinds_at, cells_at, rows_at             its kinds, its number of cells, the rows of its coboundary
--   stage_before stages degree              the degree before, which before the first one has no cells
--   IsReductionOf F space negative pairs stages   the degrees are those of the signed set with these pairs
--   AreStagesOf F space negative stages     the degrees have the cells and the coboundaries of the signed set
--   IsSplitting F stages                    the pairs are those of a field between each two degrees
--   IsStagesComplex F stages                the degrees are a complex with a split, with a degree without cells before it, and from
--                                           degree 4 on there are no cells
--   IsExtensionAt F stages degree w x       x is the extension of the values w at the critical cells of a degree
--   IsReducedAt F stages degree rows        the rows are the coboundaries of the extensions, at the critical cells
--   IsFlowAt F stages degree c z            z is the flow of the values c at the critical cells of a degree
--   IsClearedAt F stages degree x w y       w is left of x at the critical cells less the coboundary of y
use Rattle.std.specs.Prelude.{◌≡◌, ℕ, zero, suc, ◌+◌, ◌<◌, ◌≤◌, List, [], Bool, length, slice_index_or}
use Rattle.face_poset.specs.Poset.{Layers}
use Rattle.small_field.specs.Field.{Ops}
use Rattle.face_poset.specs.declared.cells.Pair.{Pair}
use Rattle.split_laws.specs.declared.kind.Kind.{Kind}
use Rattle.split_laws.specs.Kinds.{HasNoUpper}
use Rattle.split_laws.specs.Complex.{before, IsSplitComplex}
use Rattle.split_laws.specs.Solutions.{IsCleared, IsExtension, IsFlow, IsReducedBy}
use Rattle.pair_stages.specs.Stages.{Stage, empty_stage, IsPaired}
use Rattle.pair_stages.specs.Signed.{AreDegrees, IsStageOf}

abbrev pub stage_at : List Stage → (degree : ℕ) → Stage
stage_at stages degree = slice_index_or stages degree empty_stage

-- the kinds of the cells of a degree, and how many cells there are
abbrev pub kinds_at : List Stage → (degree : ℕ) → List Kind
kinds_at stages degree = (stage_at stages degree).kinds

abbrev pub cells_at : List Stage → (degree : ℕ) → ℕ
cells_at stages degree = length (kinds_at stages degree)

-- the rows of the coboundary of a degree
abbrev pub rows_at : List Stage → (degree : ℕ) → List (List ℕ)
rows_at stages degree = (stage_at stages degree).rows

-- the degrees are those of the signed set with these pairs
pub record IsReductionOf (F : Ops) (space : Layers) (negative : ℕ → ℕ → ℕ → Bool) (pairs : List Pair) (stages : List Stage) : Type 0 where
  pub long : length stages ≡ 5
  pub each : (degree : ℕ) → degree < 5 → IsStageOf F space negative pairs degree (stage_at stages degree)

-- the degrees have the cells and the coboundaries of the signed set
abbrev pub AreStagesOf : Ops → Layers → (ℕ → ℕ → ℕ → Bool) → List Stage → Type 0
AreStagesOf F space negative stages = (degree : ℕ) → degree < 4 → AreDegrees F space negative degree (stage_at stages degree) (stage_at stages (suc degree))

-- the pairs are those of a field between each two degrees
pub record IsSplitting (F : Ops) (stages : List Stage) : Type 0 where
  pub long : length stages ≡ 5
  pub paired : (degree : ℕ) → degree < 4 → IsPaired F (stage_at stages degree) (stage_at stages (suc degree))
  pub bottom : HasNoUpper (kinds_at stages 0)

-- the degrees are a complex with a split, with a degree without cells before it
pub record IsStagesComplex (F : Ops) (stages : List Stage) : Type 0 where
  pub complex : IsSplitComplex F (before 0 (cells_at stages)) (before [] (rows_at stages)) (before [] (kinds_at stages))
  pub none : (degree : ℕ) → 4 ≤ degree → kinds_at stages degree ≡ []

-- the degree before, which before the first one has no cells
abbrev pub stage_before : List Stage → (degree : ℕ) → Stage
stage_before stages zero = empty_stage
stage_before stages (suc degree) = stage_at stages degree

abbrev pub IsExtensionAt : Ops → List Stage → (degree : ℕ) → (w x : List ℕ) → Type 0
IsExtensionAt F stages degree w x =
    IsExtension F (cells_at stages degree) (cells_at stages (degree + 1)) (rows_at stages degree) (kinds_at stages degree) (kinds_at stages (degree + 1)) w x

abbrev pub IsReducedAt : Ops → List Stage → (degree : ℕ) → List (List ℕ) → Type 0
IsReducedAt F stages degree rows =
    IsReducedBy F (cells_at stages degree) (cells_at stages (degree + 1)) (rows_at stages degree) (kinds_at stages degree) (kinds_at stages (degree + 1)) rows

abbrev pub IsFlowAt : Ops → List Stage → (degree : ℕ) → (c z : List ℕ) → Type 0
IsFlowAt F stages degree c z =
    let last : Stage = stage_before stages degree in
    IsFlow F (length last.kinds) (cells_at stages degree) last.rows last.kinds (kinds_at stages degree) c z

abbrev pub IsClearedAt : Ops → List Stage → (degree : ℕ) → (x w y : List ℕ) → Type 0
IsClearedAt F stages degree x w y =
    let last : Stage = stage_before stages degree in
    IsCleared F (length last.kinds) (cells_at stages degree) last.rows last.kinds (kinds_at stages degree) x w y
