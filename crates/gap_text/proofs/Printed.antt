-- Numbers as they are printed in decimal, for a text that is printed and read again.
use Rattle.std.proofs.Common.{◌≡◌, ℕ, suc, ◌+◌, ◌-◌, ◌*◌, ◌/◌, ◌%◌, ◌<◌, ◌≤◌, ◌^◌, List, [], ◌∷◌, ◌++◌, length, Bool, true, false, ◌&&◌, decimal, refl, ◌∙◌, ap, subst, arith}
use Rattle.std.specs.List.{list_all}
use Rattle.std.proofs.lemmas.Bool.Decides.{nat_tests}
use Rattle.std.proofs.lemmas.Fmt.{decimal_by_steps}
use Rattle.gap_text.specs.Tokens.{Token, Number, is_digit, too_big}
use Rattle.gap_text.specs.Grammar.{decimal_from, EndsDigits, Lexes, digits}

-- digits of a number, at least one
record AreDigits (n : ℕ) (ds : List ℕ) : Type 0 where
  first : ℕ
  others : List ℕ
  whole : first ∷ others ≡ ds
  digital : list_all is_digit ds ≡ true
  value : decimal_from 0 ds ≡ n

decimal_from-append : (m : ℕ) (xs ys : List ℕ) → decimal_from m (xs ++ ys) ≡ decimal_from (decimal_from m xs) ys
decimal_from-append m [] ys = refl
decimal_from-append m (x ∷ xs) ys = decimal_from-append (10 * m + (x - 48)) xs ys

both_digital : (t a b : Bool) → (t && a) ≡ true → (a ≡ true → b ≡ true) → (t && b) ≡ true
both_digital true a b e h = h e
both_digital false a b e h = absurd (cc)

digital-append : (xs ys : List ℕ) → list_all is_digit xs ≡ true → list_all is_digit ys ≡ true → list_all is_digit (xs ++ ys) ≡ true
digital-append [] ys e h = h
digital-append (x ∷ xs) ys e h = both_digital (is_digit x) (list_all is_digit xs) (list_all is_digit (xs ++ ys)) e (λ k. digital-append xs ys k h)

is_digit-digit : (k : ℕ) → k < 10 → is_digit (48 + k) ≡ true
is_digit-digit k h = grind (arith, nat_tests)

digital-one : (k : ℕ) → k < 10 → list_all is_digit ((48 + k) ∷ []) ≡ true
digital-one k h = ap (λ (t : Bool). t && true) (is_digit-digit k h)

one_digit : (n : ℕ) → n < 10 → AreDigits n ((48 + n) ∷ [])
one_digit n h = record { first = 48 + n; others = []; whole = refl; digital = digital-one n h; value = omega arith }

one_more : (n : ℕ) (ds : List ℕ) → 10 ≤ n → AreDigits (n / 10) ds → AreDigits n (ds ++ ((48 + n % 10) ∷ []))
one_more n ds h a = record {
  first = a.first;
  others = a.others ++ ((48 + n % 10) ∷ []);
  whole = ap (λ (xs : List ℕ). xs ++ ((48 + n % 10) ∷ [])) a.whole;
  digital = digital-append ds ((48 + n % 10) ∷ []) a.digital (digital-one (n % 10) (omega arith));
  value = decimal_from-append 0 ds ((48 + n % 10) ∷ []) ∙ omega (arith, a.value);
}

are_digits : (n : ℕ) → n < 2 ^ 64 → AreDigits n (decimal n)
are_digits n h = decimal_by_steps AreDigits one_digit one_more n h

-- a printed number is its token
pub lexes-decimal : (n p : ℕ) (bs : List ℕ) (ts : List Token) → n < too_big → EndsDigits bs → Lexes (p + length (decimal n)) bs ts → Lexes p (decimal n ++ bs) (Number p n ∷ ts)
lexes-decimal n p bs ts h ends k =
    let a = are_digits n (omega arith) in
    let place : p + length (decimal n) ≡ suc p + length a.others = omega (arith, ap length a.whole) in
    let digital : list_all is_digit (a.first ∷ a.others) ≡ true = ap (list_all is_digit) a.whole ∙ a.digital in
    let value : decimal_from 0 (a.first ∷ a.others) ≡ n = ap (decimal_from 0) a.whole ∙ a.value in
    let lexes = digits a.first a.others digital ends (subst (λ (q : ℕ). Lexes q bs ts) place k) in
    subst (λ (m : ℕ). Lexes p (decimal n ++ bs) (Number p m ∷ ts)) value (subst (λ (xs : List ℕ). Lexes p (xs ++ bs) (Number p (decimal_from 0 (a.first ∷ a.others)) ∷ ts)) a.whole lexes)
