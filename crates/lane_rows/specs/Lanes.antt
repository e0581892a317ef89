-- Rows of numbers, place by place, modulo p. xs and ys are rows of one length.
--   zip2 g xs ys            g of the two numbers at each place
--   chunk at n xs           the n numbers from the place at on
--   added p factor xs ys    the row xs and factor times the row ys, modulo p
--   multiples_of p factor   factor times the numbers below 16, modulo p
--   scaled p factor xs      factor times the row xs, modulo p
--   dot_product p xs ys     the sum of the products of the entries, modulo p
--   replaced table xs       the entries of a table at the numbers of xs
--   first_place xs          the first place, from 0, with another number than 0; None where there is none
--   IsFirstFrom xs begin end place   the first place from begin on, before end, with another number than 0; end where there is none
--   composed first second   first one map of the numbers below 8, then the other
--   pair_sum p x y          the sum of two numbers with two digits to base p, digit by digit, modulo p
--   added_pairs p products xs ys   the row xs and the row of the products of ys by a table, digit by digit
use Rattle.std.specs.Prelude.{◌≡◌, ◌≢◌, ◌<◌, ◌≤◌, ℕ, ◌+◌, ◌*◌, ◌/◌, ◌%◌, ◌==◌, not, List, Option, map, sum, position, slice_index}
use Rattle.std.specs.List.{range_with_len}
pub use lib.Lanes.{zip2, chunk}

abbrev pub added : ℕ → ℕ → List ℕ → List ℕ → List ℕ
added p factor xs ys = zip2 (λ x y. (x + factor * y) % p) xs ys

abbrev pub multiples_of : ℕ → ℕ → List ℕ
multiples_of p factor = map (λ i. (factor * i) % p) (range_with_len 0 16)

abbrev pub scaled : ℕ → ℕ → List ℕ → List ℕ
scaled p factor xs = map (λ x. (factor * x) % p) xs

abbrev pub dot_product : ℕ → List ℕ → List ℕ → ℕ
dot_product p xs ys = sum (zip2 (λ x y. x * y) xs ys) % p

abbrev pub replaced : List ℕ → List ℕ → List ℕ
replaced table xs = map (λ x. slice_index table x) xs

abbrev pub first_place : List ℕ → Option ℕ
first_place xs = position (λ x. not (x == 0)) xs

pub record IsFirstFrom (xs : List ℕ) (begin end place : ℕ) : Type 0 where
  pub low : begin ≤ place
  pub high : place ≤ end
  pub zeros : (k : ℕ) → begin ≤ k → k < place → slice_index xs k ≡ 0
  pub other : place < end → slice_index xs place ≢ 0

abbrev pub composed : List ℕ → List ℕ → List ℕ
composed first second = map (λ s. slice_index second s) first

abbrev pub pair_sum : ℕ → ℕ → ℕ → ℕ
pair_sum p x y = (x % p + y % p) % p + p * (((x / p) % p + (y / p) % p) % p)

abbrev pub added_pairs : ℕ → List ℕ → List ℕ → List ℕ → List ℕ
added_pairs p products xs ys = zip2 (λ x y. pair_sum p x (slice_index products y)) xs ys
