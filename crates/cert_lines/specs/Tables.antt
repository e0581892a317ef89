-- The spot and the table of a line, by its words.
--   word_in line place            the word so many words behind the first
--   spot_in line place            the spot there, None for the start, if the word is the text of one
--   table_in line place           the rows of the table there, if the word is the text of one
--   row_fits columns sheets row   so many entries, each a sheet
--   rows_fit columns sheets rows  so many rows as sheets, each of them fits; none where there is no column
--   if_row, if_rows columns sheets rows   the entries of a row, and the cells of rows, if they are there and fit
--   content table                 the sheets, the columns and the cells of a table
--   content_of sheets columns cells   these
-- and as steps of these
--   first_word words
--   row_after, rows_after columns sheets count rest   what is left of a row or of rows behind so many, if all of it fits
use Rattle.std.specs.Prelude.{ℕ, ◌+◌, ◌==◌, List, [], ◌∷◌, length, drop, Bool, ◌&&◌, not, Option, Some, None, option_and_then, if◌then◌else◌}
use Rattle.std.specs.List.{list_all, concat}
use Rattle.sheet_tables.specs.Tables.{Rows}
use Rattle.certificates.specs.Placed.{SearchSpot, SheetRows, spot_or_start_of, table_of}
use Rattle.certificates.specs.WellFormed.{is_between}
use Rattle.cert_lines.specs.Listed.{words_behind}

abbrev pub first_word : List (List ℕ) → Option (List ℕ)
first_word [] = None
first_word (w ∷ ws) = Some w

abbrev pub word_in : (line : List ℕ) → (place : ℕ) → Option (List ℕ)
word_in line place = first_word (drop place (words_behind line))

abbrev pub spot_in : (line : List ℕ) → (place : ℕ) → Option SearchSpot
spot_in line place = option_and_then spot_or_start_of (word_in line place)

abbrev pub table_in : (line : List ℕ) → (place : ℕ) → Option SheetRows
table_in line place = option_and_then table_of (word_in line place)

abbrev pub row_fits : (columns sheets : ℕ) → List ℕ → Bool
row_fits columns sheets row = (length row == columns) && list_all (is_between 1 sheets) row

abbrev pub rows_fit : (columns sheets : ℕ) → SheetRows → Bool
rows_fit columns sheets [] = columns == 0
rows_fit columns sheets (row ∷ rows) =
    not (columns == 0) && (length (row ∷ rows) == sheets) && list_all (row_fits columns sheets) (row ∷ rows)

abbrev pub if_row : (columns sheets : ℕ) → Option (List ℕ) → Option (List ℕ)
if_row columns sheets None = None
if_row columns sheets (Some row) = if row_fits columns sheets row then Some row else None

abbrev pub if_rows : (columns sheets : ℕ) → Option SheetRows → Option (List ℕ)
if_rows columns sheets None = None
if_rows columns sheets (Some rows) = if rows_fit columns sheets rows then Some (concat rows) else None

abbrev pub content : Rows → ℕ × ℕ × List ℕ
content table = (table.sheets, table.columns, table.cells)

abbrev pub content_of : (sheets columns : ℕ) → List ℕ → ℕ × ℕ × List ℕ
content_of sheets columns cells = (sheets, columns, cells)

abbrev pub row_after : (columns sheets count : ℕ) → Option (List ℕ) → Option (List ℕ)
row_after columns sheets count None = None
row_after columns sheets count (Some row) =
    if (count + length row == columns) && list_all (is_between 1 sheets) row then Some row else None

abbrev pub rows_after : (columns sheets count : ℕ) → Option SheetRows → Option (List ℕ)
rows_after columns sheets count None = None
rows_after columns sheets count (Some rows) =
    if (count + length rows == sheets) && list_all (row_fits columns sheets) rows then Some (concat rows) else None
