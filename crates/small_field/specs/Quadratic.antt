-- Fields of p * p elements, p a prime: the sums a + b x, with a and b modulo p, where x x = c + d x. (Quadratic
-- extensions of the integers modulo p; textbook.) The number n stands for the sum a + b x with n = a + p b. An operation
-- reads any number as an element: only a = n % p and b = (n / p) % p count.
--   constant_of p n            a
--   linear_of p n              b
--   number_of_sum p a b        the number of a + b x, with a and b read modulo p
--   quadratic p c d inverses   sum, product and negative of such sums; the inverse of the element n is entry n of the list
--   four_inverses, nine_inverses   the inverses in these two fields, and 0 for 0
--   four                       the field of 4 elements: modulo 2, x x = 1 + x
--   nine                       the field of 9 elements: modulo 3, x x = 2
use Rattle.std.specs.Prelude.{ℕ, ◌+◌, ◌*◌, ◌-◌, ◌/◌, ◌%◌, List, [], ◌∷◌, slice_index}
use Rattle.small_field.specs.Field.{Ops}

abbrev pub constant_of : ℕ → ℕ → ℕ
constant_of p n = n % p

abbrev pub linear_of : ℕ → ℕ → ℕ
linear_of p n = (n / p) % p

abbrev pub number_of_sum : ℕ → ℕ → ℕ → ℕ
number_of_sum p a b = a % p + p * (b % p)

abbrev pub add_sums : ℕ → ℕ → ℕ → ℕ
add_sums p m n = number_of_sum p (constant_of p m + constant_of p n) (linear_of p m + linear_of p n)

abbrev pub mul_sums : ℕ → ℕ → ℕ → ℕ → ℕ → ℕ
mul_sums p c d m n =
    number_of_sum p
    (constant_of p m * constant_of p n + c * (linear_of p m * linear_of p n))
    (constant_of p m * linear_of p n + linear_of p m * constant_of p n + d * (linear_of p m * linear_of p n))

abbrev pub neg_sum : ℕ → ℕ → ℕ
neg_sum p n = number_of_sum p (p - constant_of p n) (p - linear_of p n)

abbrev pub quadratic : ℕ → ℕ → ℕ → List ℕ → Ops
quadratic p c d inverses = record {
  size = p * p;
  add = add_sums p;
  mul = mul_sums p c d;
  neg = neg_sum p;
  inv = λ n. slice_index inverses n % (p * p);
}

abbrev pub four_inverses : List ℕ
four_inverses = 0 ∷ 1 ∷ 3 ∷ 2 ∷ []

abbrev pub four : Ops
four = quadratic 2 1 1 four_inverses

abbrev pub nine_inverses : List ℕ
nine_inverses = 0 ∷ 1 ∷ 2 ∷ 6 ∷ 5 ∷ 4 ∷ 3 ∷ 8 ∷ 7 ∷ []

abbrev pub nine : Ops
nine = quadratic 3 2 0 nine_inverses
