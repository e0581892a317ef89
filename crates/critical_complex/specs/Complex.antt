-- What a reduction to critical cells is. A unit is a cochain of a degree, its left side, and a chain of the next, its right side, each by
-- its entries that are not 0, at the numbers of cells, which count from 1. l and next are two degrees, F is the arithmetic of a field.
-- (Discrete Morse theory; R. Forman.)
--   unit_at units index                      the unit of an index, which counts from 0
--   IsLeft F l u                             the left side has elements at the numbers of cells, and is zero but on lowers
--   IsRight u place                          the right side is the cell at a place, with the value 1
--   IsRightOf units place index              the index is the one whose unit has the right side at a place
--   MatchUppers units us                     each right side is an upper, and each upper is the right side of exactly one unit
--   IsUnits F l next                         the coboundary of each left side is zero on the right sides of the units before, and not zero on
--                                            its own
--   IsReducedComplex F levels                the rows and the kinds are a complex with a split, with a degree without cells before it, and
--                                            each degree has its units
--   IsLevelOf F space negative pairs dim l   l is what is seen of a dimension of a signed set with a field of pairs
--   IsReductionOf F space negative pairs levels   so for each degree
use Rattle.std.specs.Prelude.{◌≡◌, ℕ, ◌+◌, ◌<◌, ◌≤◌, List, [], ◌∷◌, Bool, length, map, slice_index_or, All}
use Rattle.std.specs.List.{AllByRecursion}
use Rattle.small_field.specs.Field.{Ops}
use Rattle.small_field.specs.Sparse.{IsSparse}
use Rattle.linear_laws.specs.Vectors.{combination, IsVector}
use Rattle.linear_laws.specs.Triangle.{Triangle}
use Rattle.face_poset.specs.declared.cells.Pair.{Pair}
use Rattle.face_poset.specs.Poset.{Layers, count}
use Rattle.split_laws.specs.declared.kind.Kind.{Kind}
use Rattle.split_laws.specs.declared.kind.Kind.TheVariants.{Upper}
use Rattle.split_laws.specs.Kinds.{ZeroOffLowers}
use Rattle.split_laws.specs.Pairs.{kind_at}
use Rattle.split_laws.specs.Complex.{before, IsSplitComplex}
use Rattle.pair_stages.specs.declared.unit.Unit.{Unit}
use Rattle.pair_stages.specs.Signed.{signed_rows, matches_of, AreKinds}
use Rattle.pair_stages.specs.Units.{filled, unit_of}
use Rattle.critical_complex.specs.Levels.{Level, level_at, kinds_at, cells_at, rows_at}

abbrev pub no_unit : Unit
no_unit = record { left = []; right = [] }

abbrev pub unit_at : List Unit → ℕ → Unit
unit_at units index = slice_index_or units index no_unit

pub record IsLeft (F : Ops) (l : Level) (u : Unit) : Type 0 where
  pub sparse : IsSparse u.left
  pub numbers : All (λ e. (1 ≤ e.0) × (e.0 ≤ length l.kinds)) u.left
  pub elements : All (λ e. e.1 < F.size) u.left
  pub vector : IsVector F (length l.kinds) (filled (length l.kinds) u.left)
  pub lowers : ZeroOffLowers l.kinds (filled (length l.kinds) u.left)

abbrev pub IsRight : Unit → (place : ℕ) → Type 0
IsRight u place = u.right ≡ (place + 1, 1) ∷ []

pub record IsRightOf (units : List Unit) (place index : ℕ) : Type 0 where
  pub within : index < length units
  pub right : IsRight (unit_at units index) place
  pub one : (i : ℕ) → i < length units → IsRight (unit_at units i) place → i ≡ index

pub record MatchUppers (units : List Unit) (us : List Kind) : Type 0 where
  pub upper : (index : ℕ) → index < length units → (place : ℕ) × (place < length us) × (kind_at us place ≡ Upper) × IsRight (unit_at units index) place
  pub index : (place : ℕ) → place < length us → kind_at us place ≡ Upper → (i : ℕ) × IsRightOf units place i

pub record IsUnits (F : Ops) (l next : Level) : Type 0 where
  pub lefts : AllByRecursion (IsLeft F l) l.units
  pub rights : MatchUppers l.units next.kinds
  pub triangle : Triangle F (map (λ u. combination F (length next.kinds) (filled (length l.kinds) u.left) l.rows) l.units) (map (λ u. filled (length next.kinds) u.right) l.units)

pub record IsReducedComplex (F : Ops) (levels : List Level) : Type 0 where
  pub long : length levels ≡ 5
  pub complex : IsSplitComplex F (before 0 (cells_at levels)) (before [] (rows_at levels)) (before [] (kinds_at levels))
  pub none : (degree : ℕ) → 4 ≤ degree → kinds_at levels degree ≡ []
  pub units : (degree : ℕ) → degree < 4 → IsUnits F (level_at levels degree) (level_at levels (degree + 1))

-- ---- of a signed set with a field of pairs

pub record IsLevelOf (F : Ops) (space : Layers) (negative : ℕ → ℕ → ℕ → Bool) (pairs : List Pair) (dim : ℕ) (l : Level) : Type 0 where
  pub rows : l.rows ≡ signed_rows F space negative dim
  pub kinds : AreKinds pairs dim (count space dim) l.kinds
  pub units : l.units ≡ map unit_of (matches_of pairs dim)

pub record IsReductionOf (F : Ops) (space : Layers) (negative : ℕ → ℕ → ℕ → Bool) (pairs : List Pair) (levels : List Level) : Type 0 where
  pub long : length levels ≡ 5
  pub each : (degree : ℕ) → degree < 5 → IsLevelOf F space negative pairs degree (level_at levels degree)
