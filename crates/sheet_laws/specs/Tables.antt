-- Tables of sheets: in each column a permutation of the sheets, which are numbered from 1 to m, as columns from 1 to c. cells are the cells
-- of a table row by row, a row for each sheet. (Permutation representations; textbook.)
--   cell c cells s g          the cell in row s and column g
--   column c m cells g        a column
--   is_table c m cells        whether they are the cells of a table
--   precedes xs ys            whether the list is a proper beginning of the other, or has the lesser number where they first differ
--   renumbered c m f cells    the table after sheet s is called f s
--   renumberings m            all permutations of the sheets, in order
--   is_least c m cells        whether no renumbered table precedes it
--   IsLeast c m cells         none does, for any permutation
--   LeastIsExact              the law: the test is exact
--   Reached c m cells s       columns lead from sheet 1 to sheet s, each taken either way
--   IsTransitive c m cells    they lead to each sheet
use Rattle.std.specs.Prelude.{◌≡◌, ◌↔◌, ℕ, suc, ◌+◌, ◌-◌, ◌*◌, ◌/◌, ◌%◌, List, [], ◌∷◌, map, length, filter, Bool, true, false, not, ◌&&◌, ◌||◌, ◌==◌, nat_lt, slice_index}
use Rattle.std.specs.List.{list_all, range_with_len}
use Rattle.number_lists.specs.Words.{upto}
use Rattle.sheet_laws.specs.Permutations.{InRange, is_permutation, at, back, lists}

abbrev pub cell : (c : ℕ) → List ℕ → (s g : ℕ) → ℕ
cell c cells s g = slice_index cells (c * (s - 1) + (g - 1))

abbrev pub column : (c m : ℕ) → List ℕ → (g : ℕ) → List ℕ
column c m cells g = map (λ s. cell c cells s g) (upto m)

abbrev pub is_table : (c m : ℕ) → List ℕ → Bool
is_table c m cells = (length cells == m * c) && list_all (λ g. is_permutation m (column c m cells g)) (upto c)

abbrev pub precedes : List ℕ → List ℕ → Bool
precedes [] [] = false
precedes [] (y ∷ ys) = true
precedes (x ∷ xs) [] = false
precedes (x ∷ xs) (y ∷ ys) = nat_lt x y || ((x == y) && precedes xs ys)

abbrev pub renumbered : (c m : ℕ) → (f : List ℕ) → List ℕ → List ℕ
renumbered c m f cells = map (λ i. at f (cell c cells (back f (suc (i / c))) (suc (i % c)))) (range_with_len 0 (m * c))

abbrev pub renumberings : (m : ℕ) → List (List ℕ)
renumberings m = filter (is_permutation m) (lists m m)

abbrev pub is_least : (c m : ℕ) → List ℕ → Bool
is_least c m cells = list_all (λ f. not (precedes (renumbered c m f cells) cells)) (renumberings m)

abbrev pub IsLeast : (c m : ℕ) → List ℕ → Type 0
IsLeast c m cells = (f : List ℕ) → is_permutation m f ≡ true → precedes (renumbered c m f cells) cells ≡ false

abbrev pub LeastIsExact : Type 0
LeastIsExact = (c m : ℕ) (cells : List ℕ) → (is_least c m cells ≡ true) ↔ IsLeast c m cells

pub data Reached (c m : ℕ) (cells : List ℕ) : ℕ → Type 0 where
  first : Reached c m cells 1
  along : {s g : ℕ} → Reached c m cells s → InRange c g → Reached c m cells (at (column c m cells g) s)
  against : {s g : ℕ} → Reached c m cells s → InRange c g → Reached c m cells (back (column c m cells g) s)

abbrev pub IsTransitive : (c m : ℕ) → List ℕ → Type 0
IsTransitive c m cells = (s : ℕ) → InRange m s → Reached c m cells s
