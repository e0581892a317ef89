-- Rank lines of a reduced complex, degree by degree. `levels` are its degrees, F is the arithmetic of a field, `e` an echelon form of the
-- reduced rows of a degree that are not zero, with its history.
--   unit_line u                               the line of a unit
--   unit_lines levels degree                  the lines of the units of a degree, in their order
--   HaveRows F levels degree count            so many reduced rows of a degree are not zero
--   IsSpread F levels degree values w         w has the values at the places of the reduced rows that are not zero, so that its combination
--                                             of all reduced rows is that of the rows that are not zero by the values
--   IsReducedLine F levels degree e index line
--                                             the left side is an extension with the reduced coboundary that stands in the row of an index
--                                             of the echelon form, the right side the critical cell of one degree more at the pivot
--   HaveRankLines F levels degree e upto lines
--                                             the lines of the units, as many as uppers of one degree more, and then those of the first
--                                             rows of the echelon form
--   AreRankLines F levels degree e lines      so for all of its rows with pivots
--   AreAllRanks F levels e lines              so for the degrees 0, 1 and 2
use Rattle.std.specs.Prelude.{◌≡◌, ℕ, ◌+◌, ◌<◌, List, [], ◌∷◌, ◌++◌, length, map, slice_index, slice_index_or}
use Rattle.small_field.specs.Field.{Ops}
use Rattle.linear_laws.specs.Vectors.{combination, row_at}
use Rattle.linear_laws.specs.ZeroRows.{nonzero_rows}
use Rattle.split_laws.specs.Kinds.{criticals, uppers}
use Rattle.field_matrix.specs.declared.history.Elimination.{Elimination}
use Rattle.pair_stages.specs.Stages.{critical_from}
use Rattle.pair_stages.specs.declared.unit.Unit.{Unit}
use Rattle.critical_complex.specs.Levels.{Level, cells_at, kinds_at, units_at, AreFilledAt, IsExtensionAt, IsReducedAt}
use Rattle.chain_laws.specs.Lines.{cochain_of, AreEntries}
use Rattle.chain_laws.specs.AllLines.{Line}
use Rattle.cohomology.specs.declared.echelons.Echelons.{Echelons}
use Rattle.cohomology.specs.declared.lists.RankLines.{RankLines}
use Rattle.cohomology.specs.Bases.{no_line}
use Rattle.cohomology.specs.Echelons.{rank_in}
use Rattle.cohomology.specs.Swept.{ArePivots}

abbrev pub unit_line : Unit → Line
unit_line u = record { left = u.left; right = u.right }

abbrev pub unit_lines : List Level → (degree : ℕ) → List Line
unit_lines levels degree = map unit_line (units_at levels degree)

pub record HaveRows (F : Ops) (levels : List Level) (degree count : ℕ) : Type 0 where
  pub rows : List (List ℕ)
  pub filled : AreFilledAt F levels degree rows
  pub many : length rows ≡ count

pub record IsSpread (F : Ops) (levels : List Level) (degree : ℕ) (values w : List ℕ) : Type 0 where
  pub long : length w ≡ criticals (kinds_at levels degree)
  pub same : (all : List (List ℕ)) → IsReducedAt F levels degree all
      → combination F (criticals (kinds_at levels (degree + 1))) w all ≡ combination F (criticals (kinds_at levels (degree + 1))) values (nonzero_rows all)

pub record IsReducedLine {G : Type 0} (F : Ops) (levels : List Level) (degree : ℕ) (e : Elimination G) (index : ℕ) (line : Line) : Type 0 where
  pub values : List ℕ
  pub extension : IsExtensionAt F levels degree values (cochain_of (cells_at levels degree) line.left)
  pub left : AreEntries F (cells_at levels degree) line.left
  pub row : (all : List (List ℕ)) → IsReducedAt F levels degree all → combination F (criticals (kinds_at levels (degree + 1))) values all ≡ row_at e.reduced.rows index
  pub right : (pivots : List ℕ) → ArePivots e.reduced.cols e.reduced.rows pivots → line.right ≡ (slice_index (critical_from 1 (kinds_at levels (degree + 1))) (slice_index pivots index), 1) ∷ []

pub record HaveRankLines {G : Type 0} (F : Ops) (levels : List Level) (degree : ℕ) (e : Elimination G) (upto : ℕ) (lines : List Line) : Type 0 where
  pub rest : List Line
  pub are : lines ≡ unit_lines levels degree ++ rest
  pub many : length (unit_lines levels degree) ≡ uppers (kinds_at levels (degree + 1))
  pub long : length rest ≡ upto
  pub each : (index : ℕ) → index < upto → IsReducedLine F levels degree e index (slice_index_or rest index no_line)

abbrev pub AreRankLines : {G : Type 0} → Ops → List Level → (degree : ℕ) → Elimination G → List Line → Type 0
AreRankLines F levels degree e lines = HaveRankLines F levels degree e (rank_in e) lines

pub record AreAllRanks {G : Type 0} (F : Ops) (levels : List Level) (e : Echelons G) (lines : RankLines) : Type 0 where
  pub zero : AreRankLines F levels 0 e.first lines.zero.items
  pub one : AreRankLines F levels 1 e.second lines.one.items
  pub two : AreRankLines F levels 2 e.third lines.two.items
