-- New numbers of sheets, of which the first are settled, and places in a table; the code's own. All is counted from 0. numbers are the new
-- numbers of the sheets, sheets the sheets of the new numbers, m is how many sheets there are, k how many numbers are settled.
--   IsNumbering m numbers sheets      they undo each other
--   IsBegun m b numbers sheets        they do, and the sheet b has the number 0
--   CanGive s numbers sheets          they do, for some number of sheets above s
--   HasNumber, HasNone                the number of a sheet is settled and nothing changes; it is not, and becomes k
--   IsGiven k s numbers sheets ..     what stands after the sheet s was given the next number, if it had none
--   IsNextPlace c r g row column      in a table of c columns, what comes after row r and column g
use Rattle.std.specs.Prelude.{◌≡◌, ◌⊎◌, ℕ, suc, ◌+◌, ◌*◌, ◌<◌, ◌≤◌, List, length, slice_index}

pub record IsNumbering (m : ℕ) (numbers sheets : List ℕ) : Type 0 where
  pub long_numbers : length numbers ≡ 8
  pub long_sheets : length sheets ≡ 8
  pub number : (s : ℕ) → s < m → slice_index numbers s < m
  pub sheet : (n : ℕ) → n < m → slice_index sheets n < m
  pub left : (s : ℕ) → s < m → slice_index sheets (slice_index numbers s) ≡ s
  pub right : (n : ℕ) → n < m → slice_index numbers (slice_index sheets n) ≡ n

pub record IsBegun (m b : ℕ) (numbers sheets : List ℕ) : Type 0 where
  pub numbering : IsNumbering m numbers sheets
  pub first : slice_index sheets 0 ≡ b

pub record CanGive (s : ℕ) (numbers sheets : List ℕ) : Type 0 where
  pub count : ℕ
  pub most : count ≤ 8
  pub numbering : IsNumbering count numbers sheets
  pub below : s < count

pub record HasNumber (k s : ℕ) (numbers sheets numbers_then sheets_then : List ℕ) (k_then : ℕ) : Type 0 where
  pub settled : slice_index numbers s < k
  pub numbers_same : numbers_then ≡ numbers
  pub sheets_same : sheets_then ≡ sheets
  pub known : k_then ≡ k

pub record HasNone (k s : ℕ) (numbers numbers_then sheets_then : List ℕ) (k_then : ℕ) : Type 0 where
  pub free : k ≤ slice_index numbers s
  pub number : slice_index numbers_then s ≡ k
  pub sheet : slice_index sheets_then k ≡ s
  pub known : k_then ≡ suc k

pub record IsGiven (k s : ℕ) (numbers sheets numbers_then sheets_then : List ℕ) (k_then : ℕ) : Type 0 where
  pub numbering : (m : ℕ) → m ≤ 8 → IsNumbering m numbers sheets → s < m → IsNumbering m numbers_then sheets_then
  pub sheets_stay : (n : ℕ) → n < k → slice_index sheets_then n ≡ slice_index sheets n
  pub numbers_stay : (t : ℕ) → slice_index numbers t < k → slice_index numbers_then t ≡ slice_index numbers t
  pub either : HasNumber k s numbers sheets numbers_then sheets_then k_then ⊎ HasNone k s numbers numbers_then sheets_then k_then

pub record IsNextPlace (c r g row column : ℕ) : Type 0 where
  pub place : c * row + column ≡ suc (c * r + g)
  pub within : column < c
