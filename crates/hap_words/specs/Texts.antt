-- What the texts of options stand for.
--   named table word                the value that stands under the word in a table
--   is_decimal_digit byte           an ASCII digit
--   number_from n digits            the number whose decimal digits are those of n and then these
--   number_of text                  the number of 1 to 18 digits; leading zeros are taken
--   if_between least most number    the number, where it lies between two bounds
--   number_between least most text  the number of a text, where it lies between two bounds
use Rattle.std.specs.Prelude.{ℕ, ◌+◌, ◌-◌, ◌*◌, List, [], ◌∷◌, Bool, ◌&&◌, nat_le, length, if◌then◌else◌}
use Rattle.std.specs.declared.option.Option.{Option}
use Rattle.std.specs.declared.option.Option.TheVariants.{Some, None}
use Rattle.std.specs.List.{list_all}
use Rattle.std.specs.Str.{bytes_eq}

abbrev pub named : {A : Type 0} → List (List ℕ × A) → List ℕ → Option A
named [] word = None
named (entry ∷ table) word = if bytes_eq entry.0 word then Some entry.1 else named table word

abbrev pub is_decimal_digit : ℕ → Bool
is_decimal_digit b = nat_le 48 b && nat_le b 57

abbrev pub number_from : ℕ → List ℕ → ℕ
number_from n [] = n
number_from n (b ∷ bs) = number_from (10 * n + (b - 48)) bs

abbrev pub number_of : List ℕ → Option ℕ
number_of text = if nat_le 1 (length text) && nat_le (length text) 18 && list_all is_decimal_digit text then Some (number_from 0 text) else None

abbrev pub if_between : ℕ → ℕ → Option ℕ → Option ℕ
if_between least most None = None
if_between least most (Some n) = if nat_le least n && nat_le n most then Some n else None

abbrev pub number_between : ℕ → ℕ → List ℕ → Option ℕ
number_between least most text = if_between least most (number_of text)
