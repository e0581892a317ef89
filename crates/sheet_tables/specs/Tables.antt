-- Sheet tables: for each sheet and each column the sheet that is reached. Sheets and columns are numbered from 1.
--   Rows                          what contracts see of a table: its sheets, its columns, its cells row by row, its room
--   IsTable sheets columns cells  1 to 8 sheets, and a cell from 1 to the sheets for each sheet and column
--   entry_of columns cells s e    the cell in row s and column e
use Rattle.std.specs.Prelude.{◌≡◌, ℕ, ◌+◌, ◌-◌, ◌*◌, ◌≤◌, List, length, All, slice_index_or}

-- the number of sheets, the number of columns, the cells row by row, and how many sheets there is room for; the room
-- is no part of what the table is
pub record Rows : Type 0 where
  pub sheets : ℕ
  pub columns : ℕ
  pub cells : List ℕ
  pub room : ℕ

-- 1 to 8 sheets, and for each sheet and column a cell from 1 to the sheets
pub record IsTable (sheets columns : ℕ) (cells : List ℕ) : Type 0 where
  pub some_sheet : 1 ≤ sheets
  pub most_sheets : sheets ≤ 8
  pub full : length cells ≡ sheets * columns
  pub within : All (λ c. (1 ≤ c) × (c ≤ sheets)) cells

-- the cell in a row and a column
abbrev pub entry_of : (columns : ℕ) → List ℕ → (sheet column : ℕ) → ℕ
entry_of columns cells sheet column = slice_index_or cells ((sheet - 1) * columns + (column - 1)) 0
