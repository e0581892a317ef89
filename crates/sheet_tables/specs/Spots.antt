-- Spots: a position in the list of sheet tables of one component of a space. Components are numbered from 1.
--   Mark                              what contracts see of a spot: its component, and the sheets, cells and room of its position
--   most_components                   the greatest number of a component
--   IsSpot component sheets cells     the component is 1 to 60,000, and the position is proper or, in component 1, the start
--   spot_text component sheets cells  its text: that of the position, in front of it the component and a slash from component 2 on
--   spot_from text                    the component, sheets and cells of a text, if it is that of a spot
--   SpotIsSpelled                     a text has a spot exactly where it is the text of that spot
use Rattle.std.specs.Prelude.{◌≡◌, ◌↔◌, ℕ, ◌+◌, ◌-◌, ◌*◌, ◌≤◌, List, [], ◌∷◌, ◌++◌, Bool, not, ◌&&◌, ◌==◌, nat_le, if◌then◌else◌, Option, Some, None, option_map, option_and_then, decimal}
use Rattle.std.specs.List.{list_all}
use Rattle.sheet_tables.specs.Positions.{IsProper, IsPosition, position_text, position_from}

pub record Mark : Type 0 where
  pub component : ℕ
  pub sheets : ℕ
  pub cells : List ℕ
  pub room : ℕ

-- as many as a space has cells at most
abbrev pub most_components : ℕ
most_components = 60000

-- a position in a component; the start stands in component 1
pub record IsSpot (component sheets : ℕ) (cells : List ℕ) : Type 0 where
  pub first : 1 ≤ component
  pub last : component ≤ 60000
  pub position : IsPosition sheets cells
  pub start : sheets ≡ 0 → component ≡ 1

-- the position alone in component 1, and behind the component and a slash in the others
abbrev pub spot_text : (component sheets : ℕ) → List ℕ → List ℕ
spot_text component sheets cells =
    if component == 1 then position_text sheets cells else decimal component ++ 47 ∷ position_text sheets cells

-- ---- reading such a text

abbrev pub is_digit : ℕ → Bool
is_digit b = nat_le 48 b && nat_le b 57

-- the number that these digits add to what stands before them
abbrev pub digits_after : ℕ → List ℕ → ℕ
digits_after n [] = n
digits_after n (b ∷ bs) = digits_after (n * 10 + (b - 48)) bs

-- a component from 2 on, without leading zeros
abbrev pub component_from : List ℕ → Option ℕ
component_from [] = None
component_from (b ∷ bs) =
    if not (b == 48) && list_all is_digit (b ∷ bs) && (nat_le 2 (digits_after 0 (b ∷ bs)) && nat_le (digits_after 0 (b ∷ bs)) 60000)
    then Some (digits_after 0 (b ∷ bs)) else None

-- the bytes before the first slash, and those behind it
abbrev pub at_slash : List ℕ → Option (List ℕ × List ℕ)
at_slash [] = None
at_slash (b ∷ bs) = if b == 47 then Some ([], bs) else option_map (λ parts. (b ∷ parts.0, parts.1)) (at_slash bs)

abbrev pub in_component : ℕ → Option (ℕ × List ℕ) → Option (ℕ × ℕ × List ℕ)
in_component component = option_map (λ place. (component, place.0, place.1))

abbrev pub parts_from : (text : List ℕ) → Option (List ℕ × List ℕ) → Option (ℕ × ℕ × List ℕ)
parts_from text None = in_component 1 (position_from text)
parts_from text (Some parts) = option_and_then (λ component. in_component component (position_from parts.1)) (component_from parts.0)

-- the component, the sheets and the cells of a text, if it is that of a spot
abbrev pub spot_from : List ℕ → Option (ℕ × ℕ × List ℕ)
spot_from text = parts_from text (at_slash text)

-- a text has a spot exactly where it is the text of that spot
abbrev pub SpotIsSpelled : Type 0
SpotIsSpelled = (text : List ℕ) (component sheets : ℕ) (cells : List ℕ) →
    (spot_from text ≡ Some (component, sheets, cells)) ↔ ((1 ≤ component) × (component ≤ 60000) × IsProper sheets cells × (text ≡ spot_text component sheets cells))
