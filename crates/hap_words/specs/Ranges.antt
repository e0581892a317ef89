-- The values that the options of a command may have.
--   lies_between least most n   the number lies between two bounds, both taken
--   is_modulus_if o             there is a field of so many elements (is_modulus), where a number is given
--   is_sheets, is_budget, is_index, is_component, is_size   1 to 8 sheets, 1 to 10^15 steps, a cover from 1 to 10^9, a
--                               component from 1 to 60,000, a 3-torus of 2 to 19 cubes in each direction
--   is_start spot               the start: component 1, no sheet, no cell
--   is_placed spot              a component, 1 to 8 sheets, and at least one cell, each from 1 to 8
--   is_spot spot                one of the two
--   is_in_range asked           each value of the command is such a one
use Rattle.std.specs.Prelude.{ℕ, List, [], ◌∷◌, Bool, true, false, ◌&&◌, ◌||◌, ◌==◌, nat_le}
use Rattle.std.specs.declared.option.Option.{Option}
use Rattle.std.specs.declared.option.Option.TheVariants.{Some, None}
use Rattle.std.specs.List.{list_all}
use Rattle.small_field.specs.Modulus.{is_modulus}
use Rattle.hap_words.specs.Asked.{SearchSpot}
use Rattle.hap_words.specs.Asked.{Asked, cells, check, betti, cup, verify, migrate, group, covers, cover, report, make}

abbrev pub lies_between : (least most n : ℕ) → Bool
lies_between least most n = nat_le least n && nat_le n most

abbrev pub is_modulus_if : Option ℕ → Bool
is_modulus_if None = true
is_modulus_if (Some n) = is_modulus n

abbrev pub is_sheets : ℕ → Bool
is_sheets n = lies_between 1 8 n

abbrev pub is_budget : ℕ → Bool
is_budget n = lies_between 1 1000000000000000 n

abbrev pub is_index : ℕ → Bool
is_index n = lies_between 1 1000000000 n

abbrev pub is_component : ℕ → Bool
is_component n = lies_between 1 60000 n

abbrev pub is_size : ℕ → Bool
is_size n = lies_between 2 19 n

-- ---- spots

abbrev pub is_empty : List ℕ → Bool
is_empty [] = true
is_empty (n ∷ ns) = false

abbrev pub is_start : SearchSpot → Bool
is_start spot = (spot.0 == 1) && ((spot.1 == 0) && is_empty spot.2)

abbrev pub has_cells : List ℕ → Bool
has_cells [] = false
has_cells (n ∷ ns) = list_all (lies_between 1 8) (n ∷ ns)

abbrev pub is_placed : SearchSpot → Bool
is_placed spot = is_component spot.0 && (is_sheets spot.1 && has_cells spot.2)

abbrev pub is_spot : SearchSpot → Bool
is_spot spot = is_start spot || is_placed spot

-- ---- commands

abbrev pub is_in_range : Asked → Bool
is_in_range (cells a) = true
is_in_range (check a) = true
is_in_range (betti a) = is_modulus a.modulus
is_in_range (cup a) = is_modulus a.modulus
is_in_range (verify a) = true
is_in_range (migrate a) = true
is_in_range (group a) = true
is_in_range (covers a) = is_sheets a.sheets && (is_budget a.budget && is_spot a.from)
is_in_range (cover a) =
    is_sheets a.sheets
    && (is_index a.index && (is_component a.component && (is_budget a.budget && is_modulus_if a.modulus)))
is_in_range (report a) = is_modulus a.modulus && (is_sheets a.sheets && (is_budget a.budget && is_spot a.from))
is_in_range (make a) = is_size a.size && is_modulus_if a.modulus
