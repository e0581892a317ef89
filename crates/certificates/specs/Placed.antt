-- Lines with a spot in the search for covers or with a sheet table.
--   SearchSpot           where a search begins or ends: None for the start, or a component, sheets and cells
--   spot_or_start_text   its text, `-` for the start
--   SheetRows            the rows of a table; none where it has no column
--   table_text rows      `-`, or the rows with `/` between them, the entries of a row with `,` between them
--   AreRows rows         rows of equally many entries, at least one; each entry has at most ten digits
--   Placed               what one such line says
--   placed_text placed   its text
--   IsPlaced placed      its parts are spots, rows, and numbers of at most ten digits
--   placed_of line       what a line says, if it has such a form
-- and as steps of these
--   row_text row, rows_text rows, are_even rows, IsSpotOrStart spot, placed_words placed
--   spot_or_start_of, entries_from, row_of, rows_from, even_rows, table_of, sheets_of, cover_of, placed_from   the words read
use Rattle.std.specs.Prelude.{◌≡◌, ℕ, ◌≤◌, ◌==◌, List, [], ◌∷◌, map, length, Bool, true, All, Option, Some, None, option_and_then, if◌then◌else◌, decimal, bytes_eq, codes}
use Rattle.std.specs.List.{join_with_byte, slice_split, list_all}
use Rattle.sheet_tables.specs.Positions.{IsProper}
use Rattle.sheet_tables.specs.Spots.{spot_text, spot_from}
use Rattle.certificates.specs.Numbers.{number_of, HasTenDigits}
use Rattle.certificates.specs.Tokens.{words_of}

abbrev pub SearchSpot : Type 0
SearchSpot = Option (ℕ × ℕ × List ℕ)

abbrev pub spot_or_start_text : SearchSpot → List ℕ
spot_or_start_text None = 45 ∷ []
spot_or_start_text (Some s) = spot_text s.0 s.1 s.2

-- a component that there can be, and the first cells of a table
abbrev pub IsSpotOrStart : SearchSpot → Type 0
IsSpotOrStart None = Unit {0}
IsSpotOrStart (Some s) = (1 ≤ s.0) × (s.0 ≤ 60000) × IsProper s.1 s.2

abbrev pub SheetRows : Type 0
SheetRows = List (List ℕ)

abbrev pub row_text : List ℕ → List ℕ
row_text row = join_with_byte 44 (map decimal row)

abbrev pub rows_text : SheetRows → List ℕ
rows_text rows = join_with_byte 47 (map row_text rows)

abbrev pub table_text : SheetRows → List ℕ
table_text [] = 45 ∷ []
table_text (row ∷ rows) = rows_text (row ∷ rows)

-- each row has as many entries as the first
abbrev pub are_even : SheetRows → Bool
are_even [] = true
are_even (row ∷ rows) = list_all (λ r. length r == length row) rows

pub record AreRows (rows : SheetRows) : Type 0 where
  pub even : are_even rows ≡ true
  pub entries : All (λ row. (1 ≤ length row) × All HasTenDigits row) rows

pub data Placed : Type 0 where
  Sheets : (n : ℕ) (from : SearchSpot) → Placed
  Cover : (m : ℕ) (rows : SheetRows) → Placed
  Spent : (at : SearchSpot) → Placed

abbrev pub placed_words : Placed → List (List ℕ)
placed_words (Sheets n s) = codes "sheets" ∷ decimal n ∷ codes "from" ∷ spot_or_start_text s ∷ []
placed_words (Cover m rows) = codes "cover" ∷ decimal m ∷ table_text rows ∷ []
placed_words (Spent s) = codes "spent" ∷ spot_or_start_text s ∷ []

abbrev pub placed_text : Placed → List ℕ
placed_text f = join_with_byte 32 (placed_words f)

abbrev pub IsPlaced : Placed → Type 0
IsPlaced (Sheets n s) = HasTenDigits n × IsSpotOrStart s
IsPlaced (Cover m rows) = HasTenDigits m × AreRows rows
IsPlaced (Spent s) = IsSpotOrStart s

-- ---- the reading

abbrev pub spot_or_start_of : List ℕ → Option SearchSpot
spot_or_start_of word = if bytes_eq word (45 ∷ []) then Some None else option_and_then (λ s. Some (Some s)) (spot_from word)

abbrev pub entries_from : List (List ℕ) → Option (List ℕ)
entries_from [] = Some []
entries_from (word ∷ words) = option_and_then (λ n. option_and_then (λ ns. Some (n ∷ ns)) (entries_from words)) (number_of word)

abbrev pub row_of : List ℕ → Option (List ℕ)
row_of word = entries_from (slice_split (λ b. b == 44) word)

abbrev pub rows_from : List (List ℕ) → Option SheetRows
rows_from [] = Some []
rows_from (word ∷ words) = option_and_then (λ row. option_and_then (λ rows. Some (row ∷ rows)) (rows_from words)) (row_of word)

abbrev pub even_rows : SheetRows → Option SheetRows
even_rows rows = if are_even rows then Some rows else None

abbrev pub table_of : List ℕ → Option SheetRows
table_of word = if bytes_eq word (45 ∷ []) then Some [] else option_and_then even_rows (rows_from (slice_split (λ b. b == 47) word))

abbrev pub sheets_of : (number spot : List ℕ) → Option Placed
sheets_of n s = option_and_then (λ m. option_and_then (λ x. Some (Sheets m x)) (spot_or_start_of s)) (number_of n)

abbrev pub cover_of : (number table : List ℕ) → Option Placed
cover_of n t = option_and_then (λ m. option_and_then (λ rows. Some (Cover m rows)) (table_of t)) (number_of n)

abbrev pub placed_from : List (List ℕ) → Option Placed
placed_from (w ∷ s ∷ []) = if bytes_eq w (codes "spent") then option_and_then (λ x. Some (Spent x)) (spot_or_start_of s) else None
placed_from (w ∷ n ∷ t ∷ []) = if bytes_eq w (codes "cover") then cover_of n t else None
placed_from (w ∷ n ∷ v ∷ s ∷ []) = if bytes_eq w (codes "sheets") then (if bytes_eq v (codes "from") then sheets_of n s else None) else None
placed_from words = None

abbrev pub placed_of : List ℕ → Option Placed
placed_of line = placed_from (words_of line)
