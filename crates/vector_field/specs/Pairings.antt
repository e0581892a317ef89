-- Pairs with a note at each cell of the one that it is paired with. pairs is a list of pairs, p a pair, counts the numbers of cells by
-- dimension.
--   has_upper dim cell p             whether the cell is the upper of the pair, whose lower has this dimension
--   HasCell counts dim cell          there is such a cell
--   lengths cells                    how many cells the rows are for
--   IsNoted pairs uppers lowers      at each lower of a pair its upper is noted, and at each upper its lower, and nothing else
--   IsPairing space field            pairs of a graded set, no upper in two of them
--   is_late dim numbers p            whether the pair has this dimension and its lower is in the list
--   inserted pairs p numbers         the pair is put after those that are not late and before those that are
--   HasCells counts p                the cells of a pair are there
use Rattle.std.specs.Prelude.{◌≡◌, ℕ, ◌+◌, ◌≤◌, ◌<◌, ◌&&◌, ◌==◌, List, ◌∷◌, ◌++◌, length, map, filter, not, Bool, slice_index, true, Option, Some, None}
use Rattle.number_lists.specs.Members.{In}
use Rattle.face_poset.specs.Poset.{Layers}
use Rattle.face_poset.specs.declared.cells.Pair.{Pair}
use Rattle.number_lists.specs.Words.{holds}
use Rattle.vector_field.specs.CellMaps.{at}
use Rattle.vector_field.specs.Pairs.{pair, Field, counts_of, is_incident}

abbrev pub has_upper : (dim cell : ℕ) → Pair → Bool
has_upper dim cell p = (p.dim == dim) && (p.upper == cell)

abbrev pub HasCell : (counts : List ℕ) → (dim cell : ℕ) → Type 0
HasCell counts dim cell = (1 ≤ cell) × (cell ≤ slice_index counts dim)

abbrev pub lengths : List (List (Option ℕ)) → List ℕ
lengths cells = map (λ r. length r) cells

pub record IsNoted (pairs : List Pair) (uppers lowers : List (List (Option ℕ))) : Type 0 where
  pub few : length pairs ≤ 4294967295
  pub same : lengths lowers ≡ lengths uppers
  pub first : (p : Pair) → In p pairs → (1 ≤ p.lower) × (1 ≤ p.upper)
  pub upper_in : (d n u : ℕ) → 1 ≤ n → at uppers d n ≡ Some u → In (pair d n u) pairs
  pub upper_all : (p : Pair) → In p pairs → at uppers p.dim p.lower ≡ None → ⊥
  pub lower_in : (d n l : ℕ) → 1 ≤ n → at lowers (d + 1) n ≡ Some l → In (pair d l n) pairs
  pub lower_all : (p : Pair) → In p pairs → at lowers (p.dim + 1) p.upper ≡ None → ⊥
  pub bottom : (n : ℕ) → 1 ≤ n → at lowers 0 n ≡ None

pub record IsPairing (space : Layers) (field : Field) : Type 0 where
  pub counts : field.counts ≡ counts_of space
  pub incident : (p : Pair) → In p field.pairs → is_incident space p ≡ true
  pub one_lower : (p q : Pair) → In p field.pairs → In q field.pairs → p.dim ≡ q.dim → p.upper ≡ q.upper → p ≡ q

abbrev pub is_late : (dim : ℕ) → (numbers : List ℕ) → Pair → Bool
is_late dim numbers p = (p.dim == dim) && holds numbers p.lower

abbrev pub inserted : List Pair → Pair → (numbers : List ℕ) → List Pair
inserted pairs p numbers = filter (λ q. not (is_late p.dim numbers q)) pairs ++ p ∷ filter (is_late p.dim numbers) pairs

pub record HasCells (counts : List ℕ) (p : Pair) : Type 0 where
  pub low : p.dim < 3
  pub lower : HasCell counts p.dim p.lower
  pub upper : HasCell counts (p.dim + 1) p.upper
