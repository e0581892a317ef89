-- Positions in a list of sheet tables, and their text. A position is the first cells of a table of so many sheets.
--   Place                        what contracts see of a position: its sheets, its cells, its room
--   IsProper sheets cells        1 to 8 sheets, and at least one cell, each from 1 to 8
--   IsPosition sheets cells      proper, or the start, which has no sheet and no cell
--   position_text sheets cells   its text: the sheets, a colon, and the cells with commas between them
--   position_from text           the sheets and cells of a text, if it is that of a position
--   PositionIsSpelled            a text has a position exactly where it is the text of that position
use Rattle.std.specs.Prelude.{◌≡◌, ◌↔◌, ◌⊎◌, ℕ, ◌+◌, ◌-◌, ◌≤◌, List, [], ◌∷◌, map, length, All, ◌&&◌, ◌==◌, nat_le, if◌then◌else◌, Option, Some, None, option_and_then}
use Rattle.std.specs.List.{join_with_byte}

-- the number of sheets, the cells, and how many cells there is room for; the room is no part of what the position is
pub record Place : Type 0 where
  pub sheets : ℕ
  pub cells : List ℕ
  pub room : ℕ

-- so many sheets, and at least one cell
pub record IsProper (sheets : ℕ) (cells : List ℕ) : Type 0 where
  pub some_sheet : 1 ≤ sheets
  pub most_sheets : sheets ≤ 8
  pub some_cell : 1 ≤ length cells
  pub within : All (λ c. (1 ≤ c) × (c ≤ 8)) cells

-- the start has no sheet and no cell
abbrev pub IsPosition : ℕ → List ℕ → Type 0
IsPosition sheets cells = ((sheets ≡ 0) × (cells ≡ [])) ⊎ IsProper sheets cells

-- cells with commas between them, each one digit
abbrev pub cells_text : List ℕ → List ℕ
cells_text cells = join_with_byte 44 (map (λ c. (48 + c) ∷ []) cells)

-- the sheets, a colon, and the cells
abbrev pub position_text : (sheets : ℕ) → List ℕ → List ℕ
position_text sheets cells = (48 + sheets) ∷ 58 ∷ cells_text cells

-- ---- reading such a text

-- a digit from 1 to 8
abbrev pub digit_from : ℕ → Option ℕ
digit_from b = if nat_le 49 b && nat_le b 56 then Some (b - 48) else None

-- cells with commas between them, at least one
abbrev pub cells_from : List ℕ → Option (List ℕ)
cells_from [] = None
cells_from (b ∷ []) = option_and_then (λ c. Some (c ∷ [])) (digit_from b)
cells_from (b ∷ d ∷ bs) = if d == 44 then option_and_then (λ c. option_and_then (λ cs. Some (c ∷ cs)) (cells_from bs)) (digit_from b) else None

-- the sheets and the cells of a text, if it is that of a position
abbrev pub position_from : List ℕ → Option (ℕ × List ℕ)
position_from [] = None
position_from (b ∷ []) = None
position_from (b ∷ d ∷ bs) = if d == 58 then option_and_then (λ sheets. option_and_then (λ cells. Some (sheets, cells)) (cells_from bs)) (digit_from b) else None

-- a text has a position exactly where it is the text of that position
abbrev pub PositionIsSpelled : Type 0
PositionIsSpelled = (text : List ℕ) (sheets : ℕ) (cells : List ℕ) → (position_from text ≡ Some (sheets, cells)) ↔ (IsProper sheets cells × (text ≡ position_text sheets cells))
