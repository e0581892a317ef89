-- The fields that there are, by their number of elements. For a prime p the elements are the integers modulo p; 4 and 9
-- elements are sums a + b x (Quadratic).
--   moduli         2, 3, 4, 5, 7, 9, 11 and 13
--   is_modulus n   n is one of them
--   field_of p     the arithmetic of the field with p elements
use Rattle.std.specs.Prelude.{ℕ, Bool, ◌==◌, if◌then◌else◌, List, [], ◌∷◌}
use Rattle.std.specs.List.{list_any}
use Rattle.small_field.specs.Field.{Ops}
use Rattle.small_field.specs.Prime.{mod_ops}
use Rattle.small_field.specs.Quadratic.{four, nine}

abbrev pub moduli : List ℕ
moduli = 2 ∷ 3 ∷ 4 ∷ 5 ∷ 7 ∷ 9 ∷ 11 ∷ 13 ∷ []

abbrev pub is_modulus : ℕ → Bool
is_modulus n = list_any (λ p. n == p) moduli

abbrev pub field_of : ℕ → Ops
field_of p = if p == 4 then four else (if p == 9 then nine else mod_ops p)
