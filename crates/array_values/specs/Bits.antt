-- An array of bits: a list of bits, or a list of such lists, or a list of lists of these, where all lists of one level have the same
-- length. Or its first fault.
--
-- The faults are looked for in this order. On the way by first items to a number: an empty list. Then a depth that is not allowed, and a
-- number at the top. Then item by item in reading order, each list before its items: a number above the lowest level, a list at the
-- lowest level, a list of another length than the first of its level, a number that is not 0 or 1. Last, no 1 at all.
-- v is a value, sizes the length of the lists of each level, the outermost first.
--   Bits                         sizes, and the bits in reading order
--   sizes_of v                   the length of the first list of each level: on the way by first items to a number
--   sizes_from p vs              those of a list at byte p
--   items_of size v              the items of a list of this length
--   bit_of v                     a bit by itself
--   bits_of sizes v              the bits of an array of these sizes
--   is_allowed least most depth  whether an array may have so many levels
--   array_of least most v        the array of a value, where arrays of least to most levels are allowed
--   volume sizes                 how many bits an array of these sizes has
--   IsArray least most a         what is true of the array of a value
--   IsAppended read old new      the bits were read, and stand last
use Rattle.std.specs.Prelude.{◌≡◌, ◌≤◌, ℕ, ◌*◌, ◌++◌, List, [], ◌∷◌, length, Bool, true, false, if◌then◌else◌, ◌==◌, nat_le, Result, Ok, Err}
use Rattle.std.specs.List.{list_any}
use Rattle.gap_text.specs.Value.{Value, Values, number, list, none, more, items}
use Rattle.array_values.specs.declared.fault.ArrayFault.{ArrayFault}
use Rattle.array_values.specs.declared.fault.ArrayFault.TheVariants.{Ragged, NotBit, BadDimension, Empty}
use Rattle.array_values.specs.Answers.{and_then, gather_from}

pub record Bits : Type 0 where
  pub sizes : List ℕ
  pub bits : List Bool

abbrev mutual
  pub sizes_of : Value → Result (List ℕ) ArrayFault
  sizes_of (number p n) = Ok []
  sizes_of (list p vs) = sizes_from p vs

  pub sizes_from : ℕ → Values → Result (List ℕ) ArrayFault
  sizes_from p none = Err (Ragged p)
  sizes_from p (more v vs) = and_then (sizes_of v) (λ sizes. Ok (length (items (more v vs)) ∷ sizes))

abbrev pub items_of : (size : ℕ) → Value → Result (List Value) ArrayFault
items_of size (number p n) = Err (Ragged p)
items_of size (list p vs) = if length (items vs) == size then Ok (items vs) else Err (Ragged p)

abbrev pub bit_of : Value → Result (List Bool) ArrayFault
bit_of (number p n) = if nat_le n 1 then Ok ((n == 1) ∷ []) else Err (NotBit p)
bit_of (list p vs) = Err (Ragged p)

abbrev pub bits_of : (sizes : List ℕ) → Value → Result (List Bool) ArrayFault
bits_of [] v = bit_of v
bits_of (size ∷ sizes) v = and_then (items_of size v) (gather_from 0 (λ _ w. bits_of sizes w))

abbrev pub is_allowed : (least most depth : ℕ) → Bool
is_allowed least most depth = if nat_le least depth then nat_le depth most else false

abbrev pub array_of : (least most : ℕ) → Value → Result Bits ArrayFault
array_of least most v =
    and_then (sizes_of v) (λ sizes.
    if is_allowed least most (length sizes)
    then and_then (bits_of sizes v) (λ bits. if list_any (λ b. b) bits then Ok (record { sizes = sizes; bits = bits }) else Err Empty)
    else Err BadDimension)

abbrev pub volume : (sizes : List ℕ) → ℕ
volume [] = 1
volume (size ∷ sizes) = size * volume sizes

pub record IsArray (least most : ℕ) (a : Bits) : Type 0 where
  pub shallow : length a.sizes ≤ most
  pub deep : least ≤ length a.sizes
  pub full : length a.bits ≡ volume a.sizes
  pub has_one : list_any (λ b. b) a.bits ≡ true

abbrev pub IsAppended : Result (List Bool) ArrayFault → (old new : List Bool) → Type 0
IsAppended read old new = (bits : List Bool) × (read ≡ Ok bits) × (new ≡ old ++ bits)
