-- What is no number, and digits one after another.
use Rattle.std.proofs.Common.{◌≡◌, ◌<◌, ◌≤◌, ◌+◌, ◌*◌, ◌^◌, ◌++◌, ◌∷◌, [], ℕ, Bool, true, false, cond, ◌&&◌, leb, Some, None, List, length, refl, ◌∙◌, ap, arith, lit<, Fits, w64}
use Rattle.std.proofs.Math.Nat.{pow-le-pow_right}
use Rattle.std.specs.List.{list_all}
use Rattle.certificates.specs.Numbers.{is_decimal_digit, number_from, leads_well, number_of}

and_false : (a : Bool) → (a && false) ≡ false
and_false true = refl
and_false false = refl

colon_no_digits : (r s : List ℕ) → list_all is_decimal_digit (r ++ 58 ∷ s) ≡ false
colon_no_digits [] s = refl
colon_no_digits (c ∷ r) s = ap (λ (t : Bool). is_decimal_digit c && t) (colon_no_digits r s) ∙ and_false (is_decimal_digit c)

pub colon-no_number : (r s : List ℕ) → number_of (r ++ 58 ∷ s) ≡ None
colon-no_number r s =
    let w : List ℕ = r ++ 58 ∷ s in
    ap (λ (t : Bool). cond t (Some (number_from 0 w)) None) (ap (λ (t : Bool). (leb 1 (length w) && leb (length w) 10 && leads_well w) && t) (colon_no_digits r s) ∙ and_false (leb 1 (length w) && leb (length w) 10 && leads_well w))

few_digits : (i n : ℕ) → i < 10 → n < 10 ^ i → n < 1000000000
few_digits i n few h =
    let most : 10 ^ i ≤ 10 ^ 9 = let few' : i ≤ 9 = omega arith in pow-le-pow_right (lit< tt) few' in omega arith

pub ten_times_fits : (i n : ℕ) → i < 10 → n < 10 ^ i → Fits w64 (10 * n)
ten_times_fits i n few h = let below : n < 1000000000 = few_digits i n few h in omega arith

pub one_digit_fits : (i n d : ℕ) → i < 10 → n < 10 ^ i → d < 256 → Fits w64 (10 * n + d)
one_digit_fits i n d few h small = let below : n < 1000000000 = few_digits i n few h in omega arith
