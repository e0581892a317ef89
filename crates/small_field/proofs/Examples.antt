-- Worked by hand.
use Rattle.std.proofs.Common.{◌≡◌, true, false, refl}
use Rattle.small_field.specs.Quadratic.{four, nine}
use Rattle.small_field.specs.Modulus.{is_modulus, field_of}

-- x x is 1 + x among the four, and 2 among the nine
squares : (four.mul 2 2 ≡ 3) × (nine.mul 3 3 ≡ 2)
squares = (refl, refl)

-- (1 + 2 x) (2 + x) is 6 + 5 x, which is 2 x; (1 + 2 x) + (2 + x) is 0
nines : (nine.mul 7 5 ≡ 6) × (nine.add 7 5 ≡ 0)
nines = (refl, refl)

-- 1 + 1 is 0 among the four, where 1 + 3 is x
fours : (four.add 1 1 ≡ 0) × (four.add 1 3 ≡ 2)
fours = (refl, refl)

moduli_are : (is_modulus 8 ≡ false) × ((is_modulus 9 ≡ true) × (is_modulus 1 ≡ false))
moduli_are = (refl, (refl, refl))

fields_are : ((field_of 9).mul 3 3 ≡ 2) × (((field_of 11).mul 3 4 ≡ 1) × ((field_of 4).size ≡ 4))
fields_are = (refl, (refl, refl))
