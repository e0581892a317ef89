-- The lines of a certificate of homology in all degrees. F is the arithmetic of a field. `ranks` and `classes` are lists of lines by
-- degree, from degree 0 on. A rank line has on its left side a cochain of its degree and on its right side a chain of one degree more,
-- a class line a cochain and a chain of its degree.
--   Line                                            its left side and its right side, each by its entries
--   left_sides lines, right_sides lines             the sides of some lines
--   lines_of lists degree                           the lines of a degree; none where there is no list of them
--   lines_before lists degree                       the lines of one degree less; none below degree 0
--   ranks_hold F chains next before lines           the rank lines of a degree, after those with the right sides `before`
--   classes_hold F below chains next rights place lines
--                                                   the class lines of a degree from a place on, counted from 0, where `rights` are the
--                                                   right sides of all class lines of the degree
--   degree_holds F space degree ranks classes       all that is asked of a degree: its number of lines, and each of its lines
--   homology_holds F space ranks classes            so for the degrees from 0 to 3
--   coboundary_in F space degree left               the coboundary of a left side, by the rows of the coboundary
--   IsRankLine, IsClassLine F space degree line     its sides have entries at chains of their degrees
--   HaveEntries F space ranks classes               so for all lines of the degrees from 0 to 3
--   ArePaired F space degree rights place lefts     the left sides, from a place on, are 1 on their own right sides and 0 on the others
--   HaveEquations F space degree last ranks classes what the tests say of a degree, where `last` are the rank lines of one degree less
--   AreHomology F space ranks classes               so for the degrees from 0 to 3
use Rattle.std.specs.Prelude.{◌≡◌, ⊤, ℕ, zero, suc, ◌+◌, ◌≤◌, ◌&&◌, List, [], ◌∷◌, ◌++◌, Bool, true, map, length, replicate, slice_index_or}
use Rattle.std.specs.List.{AllByRecursion, list_all}
use Rattle.face_poset.specs.Poset.{Layers}
use Rattle.small_field.specs.Field.{Ops}
use Rattle.linear_laws.specs.Marks.{mark}
use Rattle.linear_laws.specs.Triangle.{Triangle}
use Rattle.linear_laws.specs.Vectors.{boundary, combination, dot}
use Rattle.order_complex.specs.Chains.{chains_of}
use Rattle.order_complex.specs.Ranks.{rows_of, rows_into}
use Rattle.chain_laws.specs.Lines.{AreEntries, chains_below, cochain_in, rank_holds, cocycle_holds, cycle_holds, pairing_holds, count_holds}

pub record Line : Type 0 where
  pub left : List (ℕ × ℕ)
  pub right : List (ℕ × ℕ)

abbrev pub left_sides : List Line → List (List (ℕ × ℕ))
left_sides lines = map (λ line. line.left) lines

abbrev pub right_sides : List Line → List (List (ℕ × ℕ))
right_sides lines = map (λ line. line.right) lines

abbrev pub lines_of : List (List Line) → (degree : ℕ) → List Line
lines_of lists degree = slice_index_or lists degree []

abbrev pub lines_before : List (List Line) → (degree : ℕ) → List Line
lines_before lists zero = []
lines_before lists (suc degree) = lines_of lists degree

-- ---- the tests

-- each rank line, with the right sides of all lines before it
abbrev pub ranks_hold : Ops → (chains next : List (List ℕ)) → (before : List (List (ℕ × ℕ))) → List Line → Bool
ranks_hold F chains next before [] = true
ranks_hold F chains next before (line ∷ lines) = rank_holds F chains next before line.left line.right && ranks_hold F chains next (before ++ line.right ∷ []) lines

-- each class line, with its place among those of its degree
abbrev pub classes_hold : Ops → (below chains next : List (List ℕ)) → (rights : List (List (ℕ × ℕ))) → (place : ℕ) → List Line → Bool
classes_hold F below chains next rights place [] = true
classes_hold F below chains next rights place (line ∷ lines) =
    cocycle_holds F chains next line.left && (cycle_holds F below chains line.right && (pairing_holds F chains rights place line.left && classes_hold F below chains next rights (suc place) lines))

abbrev pub degree_holds : Ops → Layers → (degree : ℕ) → (ranks classes : List (List Line)) → Bool
degree_holds F space degree ranks classes =
    count_holds (chains_of space degree) (length (lines_before ranks degree)) (length (lines_of ranks degree)) (length (lines_of classes degree))
    && (ranks_hold F (chains_of space degree) (chains_of space (suc degree)) [] (lines_of ranks degree)
    && classes_hold F (chains_below space degree) (chains_of space degree) (chains_of space (suc degree)) (right_sides (lines_of classes degree)) 0 (lines_of classes degree))

abbrev pub homology_holds : Ops → Layers → (ranks classes : List (List Line)) → Bool
homology_holds F space ranks classes = list_all (λ degree. degree_holds F space degree ranks classes) (0 ∷ 1 ∷ 2 ∷ 3 ∷ [])

-- ---- what they say, by the rows of the coboundaries

abbrev pub coboundary_in : Ops → Layers → (degree : ℕ) → (left : List (ℕ × ℕ)) → List ℕ
coboundary_in F space degree left = combination F (length (chains_of space (suc degree))) (cochain_in space degree left) (rows_of F space degree)

pub record IsRankLine (F : Ops) (space : Layers) (degree : ℕ) (line : Line) : Type 0 where
  pub left : AreEntries F (length (chains_of space degree)) line.left
  pub right : AreEntries F (length (chains_of space (suc degree))) line.right

pub record IsClassLine (F : Ops) (space : Layers) (degree : ℕ) (line : Line) : Type 0 where
  pub left : AreEntries F (length (chains_of space degree)) line.left
  pub right : AreEntries F (length (chains_of space degree)) line.right

pub record HaveEntries (F : Ops) (space : Layers) (ranks classes : List (List Line)) : Type 0 where
  pub rank_lines : (degree : ℕ) → degree ≤ 3 → AllByRecursion (IsRankLine F space degree) (lines_of ranks degree)
  pub class_lines : (degree : ℕ) → degree ≤ 3 → AllByRecursion (IsClassLine F space degree) (lines_of classes degree)

abbrev pub ArePaired : Ops → Layers → (degree : ℕ) → (rights : List (List (ℕ × ℕ))) → (place : ℕ) → (lefts : List (List (ℕ × ℕ))) → Type 0
ArePaired F space degree rights place [] = ⊤
ArePaired F space degree rights place (left ∷ lefts) =
    (map (λ right. dot F (cochain_in space degree left) (cochain_in space degree right)) rights ≡ mark (length rights) place) × ArePaired F space degree rights (suc place) lefts

pub record HaveEquations (F : Ops) (space : Layers) (degree : ℕ) (last ranks classes : List Line) : Type 0 where
  -- the chains are as many as these lines
  pub count : length (chains_of space degree) ≡ length last + length ranks + length classes
  -- the coboundary of each left side is not zero on its own right side, and zero on those of the lines before
  pub triangle : Triangle F (map (coboundary_in F space degree) (left_sides ranks)) (map (cochain_in space (suc degree)) (right_sides ranks))
  -- the left sides of the class lines are cocycles, and their right sides cycles
  pub cocycles : AllByRecursion (λ left. coboundary_in F space degree left ≡ replicate (length (chains_of space (suc degree))) 0) (left_sides classes)
  pub cycles : AllByRecursion (λ right. boundary F (rows_into F space degree) (cochain_in space degree right) ≡ replicate (length (rows_into F space degree)) 0) (right_sides classes)
  pub pairing : ArePaired F space degree (right_sides classes) 0 (left_sides classes)

abbrev pub AreHomology : Ops → Layers → (ranks classes : List (List Line)) → Type 0
AreHomology F space ranks classes = (degree : ℕ) → degree ≤ 3 → HaveEquations F space degree (lines_before ranks degree) (lines_of ranks degree) (lines_of classes degree)
