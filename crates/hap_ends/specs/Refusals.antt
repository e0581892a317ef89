-- Why a command refuses its input, with the status and the line of each cause.
--   refusal_status cause     2 for a position, 3 for the text, 4 for the space, the array or the facets, 5 for a limit, 6 for a budget that is spent
--   refusal_line cause       the line on standard error, which begins with `hap: ` and ends with a line feed
--   bare cause               the cause without the room that its spot has, which is no part of what a spot is
--   text_line, space_line, array_fault_line, facet_line, regular_line, word_line, spent_line, count_line   the line of each kind of cause
--   space_status, array_status, facet_status, text_words, text_place, cell_line, array_line, facet_place_line, rule_line, sphere_line,
--                            spot_words: steps
-- and for the code as it writes
--   spent_front component    what stands before the position of a spot that is spent
--   later_cells cells        the cells of a position behind the first, each with a comma before it
use Rattle.std.specs.Prelude.{ℕ, ℤ, ◌+◌, ◌++◌, ◌∷◌, ◌==◌, [], List, codes, decimal, if◌then◌else◌}
use Rattle.std.specs.Fmt.{signed_decimal}
use Rattle.std.specs.List.{flat_map}
use Rattle.gap_text.specs.declared.fault.TextFault.{TextFault}
use Rattle.gap_text.specs.declared.fault.TextFault.TheVariants as in_text
use Rattle.face_poset.specs.declared.cells.Cell.{Cell}
use Rattle.face_poset.specs.declared.fault.SpaceFault.{SpaceFault}
use Rattle.face_poset.specs.declared.fault.SpaceFault.TheVariants as in_space
use Rattle.array_values.specs.declared.fault.ArrayFault.{ArrayFault}
use Rattle.array_values.specs.declared.fault.ArrayFault.TheVariants as in_array
use Rattle.facet_reader.specs.declared.fault.FacetFault.{FacetFault}
use Rattle.facet_reader.specs.declared.fault.FacetFault.TheVariants as in_facet
use Rattle.regular_check.specs.declared.fault.RegularFault.{RegularFault}
use Rattle.regular_check.specs.declared.fault.RegularFault.TheVariants as rule
use Rattle.sheet_tables.specs.Spots.{Mark, spot_text}
use Rattle.hap_ends.specs.declared.refusal.Refusal.{Refusal}
use Rattle.hap_ends.specs.declared.refusal.Refusal.TheVariants.{TooLong, Text, Space, Array, Facet, Irregular, Components, Chains, Classes, Word, Position, Spent, Index, TotalCells}

abbrev pub space_status : SpaceFault → ℕ
space_status in_space.TooManyCells = 5
space_status other = 4

abbrev pub array_status : ArrayFault → ℕ
array_status in_array.TooManyCells = 5
array_status other = 4

abbrev pub facet_status : FacetFault → ℕ
facet_status in_facet.TooManyCells = 5
facet_status other = 4

abbrev pub refusal_status : Refusal → ℕ
refusal_status (Text fault) = 3
refusal_status (Space fault) = space_status fault
refusal_status (Array fault) = array_status fault
refusal_status (Facet fault) = facet_status fault
refusal_status (Irregular fault) = 4
refusal_status Position = 2
refusal_status (Spent spot) = 6
refusal_status other = 5

abbrev pub bare : Refusal → Refusal
bare (Spent spot) = Spent (record spot { room = 0 })
bare other = other

-- ---- the lines

-- what is wrong with the text. Want of memory refuses no text, so that its words are never written
abbrev pub text_words : TextFault → List ℕ
text_words (in_text.BadByte place) = codes "bad byte"
text_words (in_text.Unclosed place) = codes "input ends"
text_words (in_text.Stray place) = codes "stray token"
text_words (in_text.Stepped place) = codes "stepped range"
text_words (in_text.BadRange place) = codes "bad range"
text_words (in_text.NumberTooBig place) = codes "number too big"
text_words (in_text.TooDeep place) = codes "too deep"
text_words in_text.Memory = codes "want of memory"

abbrev pub text_place : TextFault → ℕ
text_place (in_text.BadByte place) = place
text_place (in_text.Unclosed place) = place
text_place (in_text.Stray place) = place
text_place (in_text.Stepped place) = place
text_place (in_text.BadRange place) = place
text_place (in_text.NumberTooBig place) = place
text_place (in_text.TooDeep place) = place
text_place in_text.Memory = 0

abbrev pub text_line : TextFault → List ℕ
text_line fault =
    codes "hap: text: " ++ (text_words fault ++ (codes " at byte " ++ (decimal (text_place fault) ++ codes "\n")))

-- a number between two texts
abbrev pub count_line : List ℕ → ℕ → List ℕ → List ℕ
count_line before count after = before ++ (decimal count ++ after)

abbrev pub cell_line : List ℕ → Cell → List ℕ
cell_line words cell =
    words ++ (codes " in dimension " ++ (decimal cell.dim ++ (codes " cell " ++ (decimal cell.number ++ codes "\n"))))

abbrev pub space_line : SpaceFault → List ℕ
space_line (in_space.Shape place) = count_line (codes "hap: space: shape at byte ") place (codes "\n")
space_line in_space.Empty = codes "hap: space: empty\n"
space_line in_space.TooHigh = codes "hap: space: dimension over 3\n"
space_line (in_space.BadCount cell) = cell_line (codes "hap: space: bad count") cell
space_line (in_space.FaceOutOfRange cell) = cell_line (codes "hap: space: face out of range") cell
space_line (in_space.RepeatedFace cell) = cell_line (codes "hap: space: repeated face") cell
space_line in_space.TooManyCells = codes "hap: limit: cells over 60000\n"
space_line in_space.Memory = codes "hap: want of memory\n"

-- what is wrong with an array, and where
abbrev pub array_line : List ℕ → ℕ → List ℕ
array_line words place = codes "hap: array: " ++ (words ++ (decimal place ++ codes "\n"))

abbrev pub array_fault_line : ArrayFault → List ℕ
array_fault_line (in_array.Ragged place) = array_line (codes "ragged at byte ") place
array_fault_line (in_array.NotBit place) = array_line (codes "not a bit at byte ") place
array_fault_line in_array.BadDimension = codes "hap: array: bad dimension\n"
array_fault_line in_array.Empty = codes "hap: array: empty\n"
array_fault_line (in_array.BadPair row) = array_line (codes "bad pair in row ") row
array_fault_line (in_array.ColumnCount column) = array_line (codes "column ") column
array_fault_line in_array.TooManyCells = codes "hap: limit: cells over 60000\n"
array_fault_line in_array.Memory = codes "hap: want of memory\n"

-- what is wrong with simplices or with a partial order, and where
abbrev pub facet_place_line : List ℕ → ℕ → List ℕ
facet_place_line words place = codes "hap: facet: " ++ (words ++ (codes " at byte " ++ (decimal place ++ codes "\n")))

abbrev pub facet_line : FacetFault → List ℕ
facet_line (in_facet.Shape place) = facet_place_line (codes "shape") place
facet_line in_facet.Empty = codes "hap: facet: empty\n"
facet_line (in_facet.BadLabel place) = facet_place_line (codes "bad label") place
facet_line (in_facet.Repeated place) = facet_place_line (codes "repeated label") place
facet_line in_facet.TooManyCells = codes "hap: limit: cells over 60000\n"
facet_line in_facet.Memory = codes "hap: want of memory\n"

-- the rule that a cell breaks
abbrev pub rule_line : List ℕ → ℕ → List ℕ
rule_line words cell = codes "hap: space: " ++ (words ++ (codes ", cell " ++ (decimal cell ++ codes "\n")))

abbrev pub sphere_line : ℕ → ℤ → List ℕ
sphere_line cell value = codes "hap: space: not a sphere, cell " ++ (decimal cell ++ (codes ", value " ++ (signed_decimal value ++ codes "\n")))

abbrev pub regular_line : RegularFault → List ℕ
regular_line (rule.EdgeEnds cell) = rule_line (codes "edge ends") cell
regular_line (rule.NotCycle cell) = rule_line (codes "not a cycle") cell
regular_line (rule.EdgeNotTwice cell) = rule_line (codes "edge not twice") cell
regular_line (rule.Apart cell) = rule_line (codes "apart") cell
regular_line (rule.NotSphere cell value) = sphere_line cell value
regular_line rule.Memory = codes "hap: want of memory\n"

abbrev pub word_line : Cell → List ℕ
word_line cell = cell_line (codes "hap: limit: word") cell

abbrev pub spot_words : Mark → List ℕ
spot_words spot = spot_text spot.component spot.sheets spot.cells

abbrev pub spent_line : Mark → List ℕ
spent_line spot = codes "hap: spent " ++ (spot_words spot ++ codes "\n")

abbrev pub refusal_line : Refusal → List ℕ
refusal_line (TooLong limit) = count_line (codes "hap: limit: input over ") limit (codes " bytes\n")
refusal_line (Text fault) = text_line fault
refusal_line (Space fault) = space_line fault
refusal_line (Array fault) = array_fault_line fault
refusal_line (Facet fault) = facet_line fault
refusal_line (Irregular fault) = regular_line fault
refusal_line (Components count) = count_line (codes "hap: limit: only ") count (codes " components\n")
refusal_line (Chains count) = count_line (codes "hap: limit: ") count (codes " chains\n")
refusal_line (Classes count) = count_line (codes "hap: limit: ") count (codes " classes\n")
refusal_line (Word cell) = word_line cell
refusal_line Position = codes "hap: bad position\n"
refusal_line (Spent spot) = spent_line spot
refusal_line (Index count) = count_line (codes "hap: limit: only ") count (codes " covers\n")
refusal_line TotalCells = codes "hap: limit: cells over 60000\n"

-- ---- as the code writes

abbrev pub spent_front : (component : ℕ) → List ℕ
spent_front component = codes "hap: spent " ++ (if component == 1 then [] else decimal component ++ 47 ∷ [])

abbrev pub later_cells : List ℕ → List ℕ
later_cells cells = flat_map (λ c. 44 ∷ (48 + c) ∷ []) cells
