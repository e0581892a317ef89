-- Worked examples of the definitions. The places are those of the bytes of the text beside each.
use Rattle.std.proofs.Common.{◌≡◌, refl, ◌∷◌, [], List, ℕ, Ok, Err, true, false}
use Rattle.gap_text.specs.Value.{Value, number, list, values}
use Rattle.array_values.specs.declared.fault.ArrayFault.TheVariants.{Ragged, NotBit, BadDimension, Empty, BadPair, ColumnCount}
use Rattle.array_values.specs.Bits.{array_of}
use Rattle.array_values.specs.Arcs.{arcs_of}

abbrev at : ℕ → List Value → Value
at p vs = list p (values vs)

-- [[0,1],[1,1]]
square : array_of 1 3 (at 0 (at 1 (number 2 0 ∷ number 4 1 ∷ []) ∷ at 7 (number 8 1 ∷ number 10 1 ∷ []) ∷ [])) ≡ Ok (record { sizes = 2 ∷ 2 ∷ []; bits = false ∷ true ∷ true ∷ true ∷ [] })
square = refl

-- [[1,1],[1]]
short_row : array_of 1 3 (at 0 (at 1 (number 2 1 ∷ number 4 1 ∷ []) ∷ at 7 (number 8 1 ∷ []) ∷ [])) ≡ Err (Ragged 7)
short_row = refl

-- [2]
a_two : array_of 1 3 (at 0 (number 1 2 ∷ [])) ≡ Err (NotBit 1)
a_two = refl

-- [0]
no_one : array_of 1 3 (at 0 (number 1 0 ∷ [])) ≡ Err Empty
no_one = refl

-- 7
a_number : array_of 1 3 (number 0 7) ≡ Err BadDimension
a_number = refl

-- [1,1], where an array of one level is not allowed
one_level : array_of 2 3 (at 0 (number 1 1 ∷ number 3 1 ∷ [])) ≡ Err BadDimension
one_level = refl

-- [[[[1]]]]
four_levels : array_of 1 3 (at 0 (at 1 (at 2 (at 3 (number 4 1 ∷ []) ∷ []) ∷ []) ∷ [])) ≡ Err BadDimension
four_levels = refl

-- [[[[]]]]: an empty list on the way comes before the depth
empty_below : array_of 1 3 (at 0 (at 1 (at 2 (at 3 [] ∷ []) ∷ []) ∷ [])) ≡ Err (Ragged 3)
empty_below = refl

-- [[2],[1,1]]: the bit comes first in reading order
bit_first : array_of 1 3 (at 0 (at 1 (number 2 2 ∷ []) ∷ at 5 (number 6 1 ∷ number 8 1 ∷ []) ∷ [])) ≡ Err (NotBit 2)
bit_first = refl

-- [[1],[2,1]]: a list comes before its items
list_first : array_of 1 3 (at 0 (at 1 (number 2 1 ∷ []) ∷ at 5 (number 6 2 ∷ number 8 1 ∷ []) ∷ [])) ≡ Err (Ragged 5)
list_first = refl

-- [[0],5]: a number above the lowest level
number_above : array_of 1 3 (at 0 (at 1 (number 2 0 ∷ []) ∷ number 5 5 ∷ [])) ≡ Err (Ragged 5)
number_above = refl

-- [1,[1]]: a list at the lowest level
list_below : array_of 1 3 (at 0 (number 1 1 ∷ at 3 (number 4 1 ∷ []) ∷ [])) ≡ Err (Ragged 3)
list_below = refl

-- [[1,2],[2,1]]
unknot : arcs_of (at 0 (at 1 (number 2 1 ∷ number 4 2 ∷ []) ∷ at 7 (number 8 2 ∷ number 10 1 ∷ []) ∷ [])) ≡ Ok ((1, 2) ∷ (2, 1) ∷ [])
unknot = refl

-- [[1,2],[1,1]]
twice_in_a_row : arcs_of (at 0 (at 1 (number 2 1 ∷ number 4 2 ∷ []) ∷ at 7 (number 8 1 ∷ number 10 1 ∷ []) ∷ [])) ≡ Err (BadPair 2)
twice_in_a_row = refl

-- [[1,2],[1,3],[1,3]]
in_three_rows : arcs_of (at 0 (at 1 (number 2 1 ∷ number 4 2 ∷ []) ∷ at 7 (number 8 1 ∷ number 10 3 ∷ []) ∷ at 13 (number 14 1 ∷ number 16 3 ∷ []) ∷ [])) ≡ Err (ColumnCount 1)
in_three_rows = refl

-- [[1,2],[0,1]] and [[1,3],[1,2]]: columns are 1 to 2
below_one : arcs_of (at 0 (at 1 (number 2 1 ∷ number 4 2 ∷ []) ∷ at 7 (number 8 0 ∷ number 10 1 ∷ []) ∷ [])) ≡ Err (BadPair 2)
below_one = refl

above_two : arcs_of (at 0 (at 1 (number 2 1 ∷ number 4 3 ∷ []) ∷ at 7 (number 8 1 ∷ number 10 2 ∷ []) ∷ [])) ≡ Err (BadPair 1)
above_two = refl

-- [1,[1,2]], [] and 3
no_list : arcs_of (at 0 (number 1 1 ∷ at 3 (number 4 1 ∷ number 6 2 ∷ []) ∷ [])) ≡ Err (BadPair 1)
no_list = refl

no_row : arcs_of (at 0 []) ≡ Err Empty
no_row = refl

no_rows : arcs_of (number 0 3) ≡ Err BadDimension
no_rows = refl
