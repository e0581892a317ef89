-- Sums over lists, and what follows from the laws of a field with the arithmetic k.
--   total k xs      the sum of the elements xs
--   FurtherLaws k   zero, negatives, cancellation, no zero divisors; sums of lists that are joined, put in another order,
--                   added place by place, or multiplied
--   power k n x     the product of n times the element x
--   characteristic p   2 for the field of 4 elements, 3 for that of 9, and p for the integers modulo a prime p
--   IsSmallField p     field_of p has p elements and the laws of a field; the p-th power of an element is the element
--                      itself, and the sum of it so many times as the characteristic says is 0
use Rattle.std.specs.Prelude.{◌≡◌, ◌≢◌, ℕ, ◌<◌, List, [], ◌∷◌, ◌++◌, ◌==◌, if◌then◌else◌, zero, suc, length, map, replicate}
use Rattle.std.specs.List.Sorted.{IsPermutation}
use Rattle.lane_rows.specs.Lanes.{zip2}
use Rattle.small_field.specs.Field.{Ops, IsField}
use Rattle.small_field.specs.Modulus.{field_of}

abbrev pub total : Ops → List ℕ → ℕ
total k [] = 0
total k (x ∷ xs) = k.add x (total k xs)

pub record FurtherLaws (k : Ops) : Type 0 where
  pub mul_zero : (x : ℕ) → k.mul x 0 ≡ 0
  pub neg_zero : k.neg 0 ≡ 0
  pub neg_neg : (x : ℕ) → x < k.size → k.neg (k.neg x) ≡ x
  pub neg_add : (x y : ℕ) → k.neg (k.add x y) ≡ k.add (k.neg x) (k.neg y)
  pub mul_neg : (x y : ℕ) → k.mul x (k.neg y) ≡ k.neg (k.mul x y)
  pub add_cancel : (x y z : ℕ) → y < k.size → z < k.size → k.add x y ≡ k.add x z → y ≡ z
  pub mul_cancel : (x y z : ℕ) → x < k.size → x ≢ 0 → y < k.size → z < k.size → k.mul x y ≡ k.mul x z → y ≡ z
  pub no_zero_divisor : (x y : ℕ) → x < k.size → x ≢ 0 → y < k.size → k.mul x y ≡ 0 → y ≡ 0
  pub total-append : (xs ys : List ℕ) → total k (xs ++ ys) ≡ k.add (total k xs) (total k ys)
  pub total-rearranged : (xs ys : List ℕ) → IsPermutation xs ys → total k ys ≡ total k xs
  pub total-sums : (xs ys : List ℕ) → length xs ≡ length ys → total k (zip2 k.add xs ys) ≡ k.add (total k xs) (total k ys)
  pub mul_total : (x : ℕ) (ys : List ℕ) → k.mul x (total k ys) ≡ total k (map (k.mul x) ys)
  pub neg_total : (xs : List ℕ) → k.neg (total k xs) ≡ total k (map k.neg xs)

abbrev pub power : Ops → ℕ → ℕ → ℕ
power k zero x = 1
power k (suc n) x = k.mul x (power k n x)

abbrev pub characteristic : ℕ → ℕ
characteristic p = if p == 4 then 2 else (if p == 9 then 3 else p)

pub record IsSmallField (p : ℕ) : Type 0 where
  pub size : (field_of p).size ≡ p
  pub laws : IsField (field_of p)
  pub powers : (x : ℕ) → x < p → power (field_of p) p x ≡ x
  pub multiples : (x : ℕ) → x < p → total (field_of p) (replicate (characteristic p) x) ≡ 0
