-- An arc presentation: k rows, each of two different columns, which are numbered from 1 to k, and each column in exactly two rows.
-- Or its first fault: a number at the top, no row, the first row that is none, the first column that is not in exactly two rows.
-- (Arc presentations, or grid diagrams, of knots and links: textbook.)
-- v is a value, p the two columns of a row, rows the list of these.
--   number_of v               the number that a value is
--   both m n                  two answers as one
--   pair_of vs                the two numbers that two values are
--   pair_in v                 the two numbers that a list is
--   is_column k n             whether there is a column n of k
--   is_row k p                whether these are two different columns of k
--   checked k n pair          the row that was found as row n, or the fault
--   row_of k n v              row n of k rows
--   has_column c p            whether a row has a column
--   is_twice rows c           whether a column is in exactly two rows
--   unless_column c rows      the rows, where no column is wrong
--   counted rows              rows whose columns are each in exactly two of them, or the first column that is not
--   rows_of vs                the rows that these values are
--   arcs_of v                 the presentation that a value is
--   IsPresentation rows       what is true of the rows of a presentation
use Rattle.std.specs.Prelude.{◌≡◌, ℕ, List, [], ◌∷◌, length, Bool, true, if◌then◌else◌, not, ◌||◌, ◌&&◌, ◌==◌, nat_le, nat_lt, count_by, Option, Some, None, Result, Ok, Err}
use Rattle.std.specs.List.{find, list_all, range_with_len}
use Rattle.gap_text.specs.Value.{Value, number, list, items}
use Rattle.array_values.specs.declared.fault.ArrayFault.{ArrayFault}
use Rattle.array_values.specs.declared.fault.ArrayFault.TheVariants.{BadDimension, Empty, BadPair, ColumnCount}
use Rattle.array_values.specs.Answers.{and_then, gather_from}

abbrev pub number_of : Value → Option ℕ
number_of (number p n) = Some n
number_of (list p vs) = None

abbrev pub both : Option ℕ → Option ℕ → Option (ℕ × ℕ)
both None n = None
both (Some m) None = None
both (Some m) (Some n) = Some (m, n)

abbrev pub pair_of : List Value → Option (ℕ × ℕ)
pair_of (v ∷ w ∷ []) = both (number_of v) (number_of w)
pair_of _ = None

abbrev pub pair_in : Value → Option (ℕ × ℕ)
pair_in (number p n) = None
pair_in (list p vs) = pair_of (items vs)

abbrev pub is_column : (k n : ℕ) → Bool
is_column k n = nat_lt 0 n && nat_le n k

abbrev pub is_row : (k : ℕ) → ℕ × ℕ → Bool
is_row k p = is_column k p.0 && (is_column k p.1 && not (p.0 == p.1))

abbrev pub checked : (k n : ℕ) → Option (ℕ × ℕ) → Result (List (ℕ × ℕ)) ArrayFault
checked k n None = Err (BadPair n)
checked k n (Some p) = if is_row k p then Ok (p ∷ []) else Err (BadPair n)

abbrev pub row_of : (k n : ℕ) → Value → Result (List (ℕ × ℕ)) ArrayFault
row_of k n v = checked k n (pair_in v)

abbrev pub has_column : (c : ℕ) → ℕ × ℕ → Bool
has_column c p = (p.0 == c) || (p.1 == c)

abbrev pub is_twice : List (ℕ × ℕ) → (c : ℕ) → Bool
is_twice rows c = count_by (has_column c) rows == 2

abbrev pub unless_column : Option ℕ → List (ℕ × ℕ) → Result (List (ℕ × ℕ)) ArrayFault
unless_column None rows = Ok rows
unless_column (Some c) rows = Err (ColumnCount c)

abbrev pub counted : List (ℕ × ℕ) → Result (List (ℕ × ℕ)) ArrayFault
counted rows = unless_column (find (λ c. not (is_twice rows c)) (range_with_len 1 (length rows))) rows

abbrev pub rows_of : List Value → Result (List (ℕ × ℕ)) ArrayFault
rows_of [] = Err Empty
rows_of (v ∷ vs) = and_then (gather_from 1 (row_of (length (v ∷ vs))) (v ∷ vs)) counted

abbrev pub arcs_of : Value → Result (List (ℕ × ℕ)) ArrayFault
arcs_of (number p n) = Err BadDimension
arcs_of (list p vs) = rows_of (items vs)

pub record IsPresentation (rows : List (ℕ × ℕ)) : Type 0 where
  pub pairs : list_all (is_row (length rows)) rows ≡ true
  pub columns : list_all (is_twice rows) (range_with_len 1 (length rows)) ≡ true
