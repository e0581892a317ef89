-- The numbers of a line: 1 to 10 decimal digits without a leading zero.
--   number_from n bytes   the number whose decimal digits are those of n and then these
--   leads_well bytes      a zero stands first only where it stands alone
--   is_decimal_digit b    an ASCII digit
--   is_numeral word       1 to 10 digits that lead well
--   number_of word        the number that the word is
--   HasTenDigits n        at most ten digits
use Rattle.std.specs.Prelude.{ℕ, ◌+◌, ◌-◌, ◌*◌, ◌<◌, ◌==◌, List, [], ◌∷◌, Bool, true, ◌&&◌, not, nat_le, length, if◌then◌else◌, Option, Some, None}
use Rattle.std.specs.List.{list_all}

abbrev pub number_from : ℕ → List ℕ → ℕ
number_from n [] = n
number_from n (b ∷ bs) = number_from (10 * n + (b - 48)) bs

abbrev pub leads_well : List ℕ → Bool
leads_well [] = true
leads_well (b ∷ []) = true
leads_well (b ∷ c ∷ bs) = not (b == 48)

abbrev pub is_decimal_digit : ℕ → Bool
is_decimal_digit b = nat_le 48 b && nat_le b 57

abbrev pub is_numeral : List ℕ → Bool
is_numeral word = nat_le 1 (length word) && nat_le (length word) 10 && leads_well word && list_all is_decimal_digit word

abbrev pub number_of : List ℕ → Option ℕ
number_of word = if is_numeral word then Some (number_from 0 word) else None

abbrev pub HasTenDigits : ℕ → Type 0
HasTenDigits n = n < 10000000000
