-- Bases of cocycles with dual cycles, by class lines, of a reduced complex. `levels` are its degrees, F is the arithmetic of a field,
-- `classes` are class lines by degree, from degree 0 on. A degree without cells is put before the first, so that degree k has the index
-- k + 1, and what leads into it the index k.
--   cells_with, rows_with, kinds_with levels index   the number of cells, the rows and the kinds at an index
--   IsReducedFrom F levels index rows        the reduced rows from an index to the next
--   lefts_at, rights_at levels degree classes   the left sides of a degree as cochains, the right sides as chains
--   parts_at levels degree xs                the values of some of these at the critical cells
--   AreCocycleBases F space classes          in each degree the left sides are a basis of the cocycles modulo coboundaries
--   HaveDualCycles F space classes           the right sides are cycles; each left side is 1 on its own and 0 on the others
--   HomologyLines                            rank lines and class lines, by degree
--   rank_lists, class_lists, lists_in lines  what contracts see of the lines of all degrees
--   HaveSidesInRange F space lines           the sides of all lines have entries at the chains of their degrees
--   AreExtended F levels classes             the left sides are the extensions of their values at the critical cells
--   AreFlowed F levels classes               the right sides are the flows of their values there
--   AreOfCritical F levels classes           the values of the left sides there are a basis of the cohomology of the reduced rows
--   line_at classes degree index             the line of a degree at an index, which counts from 0
-- What the code keeps for itself:
--   IsFormInto F levels degree m             m is a reduced form of the reduced rows into a degree that are not zero
--   HaveSides F count line                   both sides have entries at so many cells
--   IsClassFor F levels degree z v line      the left side is the extension of z, the right side the flow of v
--   AreLinesFor F levels degree zs vs lines  so is each line for one of the zs and one of the vs, in their order
--   HaveDuals F levels degree n form others upto lines
--                                            the lines for the first rows of `others` and vectors that are dual to them
--   AreClasses F levels degree lines         lines for a basis of the cohomology of the reduced rows, and for cycles of these that are
--                                            dual to the basis
use Rattle.std.specs.Prelude.{◌≡◌, ◌≢◌, ℕ, suc, ◌<◌, ◌≤◌, List, [], ◌∷◌, length, map, replicate, slice_index_or, take}
use Rattle.std.specs.List.{AllByRecursion}
use Rattle.face_poset.specs.Poset.{Layers}
use Rattle.small_field.specs.Field.{Ops}
use Rattle.linear_laws.specs.Betti.{IsCohomologyBasis}
use Rattle.linear_laws.specs.Echelon.{IsReducedTo, rank_of}
use Rattle.linear_laws.specs.Vectors.{boundary, dot, row_at}
use Rattle.linear_laws.specs.ZeroRows.{nonzero_rows}
use Rattle.field_matrix.specs.Rows.{Rows}
use Rattle.split_laws.specs.declared.kind.Kind.{Kind}
use Rattle.split_laws.specs.Complex.{before}
use Rattle.split_laws.specs.Kinds.{criticals, part}
use Rattle.split_laws.specs.Solutions.{AreExtensions, AreFlows, IsExtension, IsFlow, IsReducedBy}
use Rattle.critical_complex.specs.Levels.{Level, cells_at, kinds_at, rows_at}
use Rattle.order_complex.specs.Homology.{IsBasis}
use Rattle.order_complex.specs.Ranks.{rows_into}
use Rattle.chain_laws.specs.Lines.{AreEntries, cochain_in, cochain_of}
use Rattle.chain_laws.specs.AllLines.{Line, left_sides, right_sides, lines_of, ArePaired, HaveEntries}
use Rattle.cohomology.specs.declared.lists.ClassLines.{ClassLines}
use Rattle.cohomology.specs.declared.lists.Lines.{Lines}
use Rattle.cohomology.specs.declared.lists.RankLines.{RankLines}
use Rattle.cohomology.specs.Swept.{ArePivots, IsDual}

abbrev pub cells_with : List Level → (index : ℕ) → ℕ
cells_with levels = before 0 (cells_at levels)

abbrev pub rows_with : List Level → (index : ℕ) → List (List ℕ)
rows_with levels = before [] (rows_at levels)

abbrev pub kinds_with : List Level → (index : ℕ) → List Kind
kinds_with levels = before [] (kinds_at levels)

abbrev pub IsReducedFrom : Ops → List Level → (index : ℕ) → List (List ℕ) → Type 0
IsReducedFrom F levels index reduced =
    IsReducedBy F (cells_with levels index) (cells_with levels (suc index)) (rows_with levels index) (kinds_with levels index) (kinds_with levels (suc index)) reduced

pub record IsFormInto (F : Ops) (levels : List Level) (degree : ℕ) (m : Rows) : Type 0 where
  pub all : List (List ℕ)
  pub reduced : IsReducedFrom F levels degree all
  pub cols : m.cols ≡ criticals (kinds_at levels degree)
  pub form : IsReducedTo F m.cols (rank_of m.rows) m.cols (nonzero_rows all) m.rows

-- ---- class lines

pub record HaveSides (F : Ops) (count : ℕ) (line : Line) : Type 0 where
  pub left : AreEntries F count line.left
  pub right : AreEntries F count line.right

pub record IsClassFor (F : Ops) (levels : List Level) (degree : ℕ) (z v : List ℕ) (line : Line) : Type 0 where
  pub extension : IsExtension F (cells_at levels degree) (cells_at levels (suc degree)) (rows_at levels degree) (kinds_at levels degree) (kinds_at levels (suc degree)) z (cochain_of (cells_at levels degree) line.left)
  pub flow : IsFlow F (cells_with levels degree) (cells_at levels degree) (rows_with levels degree) (kinds_with levels degree) (kinds_at levels degree) v (cochain_of (cells_at levels degree) line.right)
  pub sides : HaveSides F (cells_at levels degree) line

pub record AreLinesFor (F : Ops) (levels : List Level) (degree : ℕ) (zs vs : List (List ℕ)) (lines : List Line) : Type 0 where
  pub extensions : AreExtensions F (cells_at levels degree) (cells_at levels (suc degree)) (rows_at levels degree) (kinds_at levels degree) (kinds_at levels (suc degree)) zs (map (cochain_of (cells_at levels degree)) (left_sides lines))
  pub flows : AreFlows F (cells_with levels degree) (cells_at levels degree) (rows_with levels degree) (kinds_with levels degree) (kinds_at levels degree) vs (map (cochain_of (cells_at levels degree)) (right_sides lines))
  pub sides : AllByRecursion (HaveSides F (cells_at levels degree)) lines

pub record HaveDuals (F : Ops) (levels : List Level) (degree n : ℕ) (form others : List (List ℕ)) (upto : ℕ) (lines : List Line) : Type 0 where
  pub vs : List (List ℕ)
  pub are : AreLinesFor F levels degree (take upto others) vs lines
  pub long : length vs ≡ upto
  pub duals : (pivots places : List ℕ) → ArePivots n form pivots → ArePivots n others places → (place : ℕ) → place < upto → IsDual F n form pivots others places (length pivots) place (row_at vs place)

pub record AreClasses (F : Ops) (levels : List Level) (degree : ℕ) (lines : List Line) : Type 0 where
  pub zs : List (List ℕ)
  pub vs : List (List ℕ)
  pub are : AreLinesFor F levels degree zs vs lines
  pub basis : (last next : List (List ℕ)) → IsReducedFrom F levels degree last → IsReducedFrom F levels (suc degree) next → IsCohomologyBasis F (criticals (kinds_at levels (suc degree))) last next zs
  pub cycles : (last : List (List ℕ)) → IsReducedFrom F levels degree last → AllByRecursion (λ v. boundary F last v ≡ replicate (length last) 0) vs
  pub long : length vs ≡ length zs
  pub own : (place : ℕ) → place < length zs → dot F (row_at zs place) (row_at vs place) ≡ 1
  pub apart : (place other : ℕ) → place < length zs → other < length zs → other ≢ place → dot F (row_at zs other) (row_at vs place) ≡ 0

-- ---- the lines of all degrees

pub record HomologyLines : Type 0 where
  pub ranks : List (List Line)
  pub classes : List (List Line)

abbrev pub rank_lists : RankLines → List (List Line)
rank_lists lines = lines.zero.items ∷ lines.one.items ∷ lines.two.items ∷ []

abbrev pub class_lists : ClassLines → List (List Line)
class_lists lines = lines.zero.items ∷ lines.one.items ∷ lines.two.items ∷ lines.three.items ∷ []

abbrev pub lists_in : Lines → HomologyLines
lists_in lines = record { ranks = rank_lists lines.ranks; classes = class_lists lines.classes }

-- ---- what is said of the class lines of the degrees from 0 to 3

abbrev pub lefts_at : List Level → (degree : ℕ) → List (List Line) → List (List ℕ)
lefts_at levels degree classes = map (cochain_of (cells_at levels degree)) (left_sides (lines_of classes degree))

abbrev pub rights_at : List Level → (degree : ℕ) → List (List Line) → List (List ℕ)
rights_at levels degree classes = map (cochain_of (cells_at levels degree)) (right_sides (lines_of classes degree))

-- the values at the critical cells
abbrev pub parts_at : List Level → (degree : ℕ) → List (List ℕ) → List (List ℕ)
parts_at levels degree xs = map (part (kinds_at levels degree)) xs

abbrev pub AreCocycleBases : Ops → Layers → List (List Line) → Type 0
AreCocycleBases F space classes = (degree : ℕ) → degree ≤ 3 → IsBasis F space degree (map (cochain_in space degree) (left_sides (lines_of classes degree)))

pub record AreDualCycles (F : Ops) (space : Layers) (degree : ℕ) (lines : List Line) : Type 0 where
  pub cycles : AllByRecursion (λ right. boundary F (rows_into F space degree) (cochain_in space degree right) ≡ replicate (length (rows_into F space degree)) 0) (right_sides lines)
  pub pairing : ArePaired F space degree (right_sides lines) 0 (left_sides lines)

abbrev pub HaveDualCycles : Ops → Layers → List (List Line) → Type 0
HaveDualCycles F space classes = (degree : ℕ) → degree ≤ 3 → AreDualCycles F space degree (lines_of classes degree)

abbrev pub HaveSidesInRange : Ops → Layers → HomologyLines → Type 0
HaveSidesInRange F space lines = HaveEntries F space lines.ranks lines.classes

abbrev pub AreExtended : Ops → List Level → List (List Line) → Type 0
AreExtended F levels classes =
    (degree : ℕ) → degree ≤ 3
    → AreExtensions F (cells_at levels degree) (cells_at levels (suc degree)) (rows_at levels degree) (kinds_at levels degree) (kinds_at levels (suc degree)) (parts_at levels degree (lefts_at levels degree classes)) (lefts_at levels degree classes)

abbrev pub AreFlowed : Ops → List Level → List (List Line) → Type 0
AreFlowed F levels classes =
    (degree : ℕ) → degree ≤ 3
    → AreFlows F (cells_with levels degree) (cells_at levels degree) (rows_with levels degree) (kinds_with levels degree) (kinds_at levels degree) (parts_at levels degree (rights_at levels degree classes)) (rights_at levels degree classes)

abbrev pub AreOfCritical : Ops → List Level → List (List Line) → Type 0
AreOfCritical F levels classes =
    (degree : ℕ) → degree ≤ 3 → (last next : List (List ℕ)) → IsReducedFrom F levels degree last → IsReducedFrom F levels (suc degree) next
    → IsCohomologyBasis F (criticals (kinds_at levels (suc degree))) last next (parts_at levels degree (lefts_at levels degree classes))

abbrev pub no_line : Line
no_line = record { left = []; right = [] }

abbrev pub line_at : List (List Line) → (degree index : ℕ) → Line
line_at classes degree index = slice_index_or (lines_of classes degree) index no_line

abbrev pub AreAllClasses : Ops → List Level → ClassLines → Type 0
AreAllClasses F levels lines = (degree : ℕ) → degree ≤ 3 → AreClasses F levels degree (lines_of (class_lists lines) degree)
