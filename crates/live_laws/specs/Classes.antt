-- The tables that are renumberings of one another, and first appearance. cells are the cells of a table of m sheets and c columns, row by
-- row.
--   IsOnlyLeast c m cells t       t is a renumbering of the table, and least, and the only one
-- Laws:
--   ClassHasOneLeast              each table has exactly one renumbering that is least
--   LeastAppearsInOrder           a least table that is transitive meets the rules of first appearance
--   AppearingIsTransitive         a whole table that meets them is transitive
use Rattle.std.specs.Prelude.{◌≡◌, ℕ, ◌*◌, ◌≤◌, List, [], length, true}
use Rattle.sheet_laws.specs.Permutations.{is_permutation}
use Rattle.sheet_laws.specs.Tables.{is_table, renumbered, is_least, IsTransitive}
use Rattle.live_laws.specs.Live.{follows}

pub record IsOnlyLeast (c m : ℕ) (cells t : List ℕ) : Type 0 where
  pub by : List ℕ
  pub permutes : is_permutation m by ≡ true
  pub is : t ≡ renumbered c m by cells
  pub least : is_least c m t ≡ true
  pub only :
      (f : List ℕ)
      → is_permutation m f ≡ true
      → is_least c m (renumbered c m f cells) ≡ true
      → renumbered c m f cells ≡ t

abbrev pub ClassHasOneLeast : Type 0
ClassHasOneLeast = (c m : ℕ) (cells : List ℕ) → is_table c m cells ≡ true → (t : List ℕ) × IsOnlyLeast c m cells t

abbrev pub LeastAppearsInOrder : Type 0
LeastAppearsInOrder =
    (c m : ℕ) (cells : List ℕ)
    → 1 ≤ c
    → is_table c m cells ≡ true
    → is_least c m cells ≡ true
    → IsTransitive c m cells
    → follows c m [] cells ≡ true

abbrev pub AppearingIsTransitive : Type 0
AppearingIsTransitive =
    (c m : ℕ) (cells : List ℕ)
    → 1 ≤ c
    → length cells ≡ m * c
    → follows c m [] cells ≡ true
    → IsTransitive c m cells
