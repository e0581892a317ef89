-- A word is a number exactly where it is the decimal text of one of at most ten digits.
use Rattle.std.proofs.Common.{◌≡◌, ◌<◌, ◌≤◌, ◌^◌, ◌∷◌, [], ℕ, Bool, true, false, cond, not, ◌&&◌, eqb, leb, Some, None, List, length, get_or, refl, sym, ◌∙◌, ap, arith, rules, decimal, All}
use Rattle.std.specs.List.{list_all}
use Rattle.std.proofs.lemmas.Bool.{eq-eqb, ne_eqb, leb-true, le-leb, false≢true}
use Rattle.std.proofs.lemmas.Option.{same_Some}
use Rattle.std.proofs.lemmas.Str.Parse.{IsNumeralModel, IsDigitsTest, numerals_by_fold, digits_value_short, not_in_digits}
use Rattle.std.proofs.lemmas.Fmt.{digits_decimal, digits_value-decimal, decimal-digits_value, decimal_nonempty, first_decimal, decimal_digit, length-decimal-le}
use Rattle.std.proofs.lemmas.List.Elements.{All-from_get_or}
use Rattle.certificates.specs.Numbers.{is_decimal_digit, number_from, leads_well, is_numeral, number_of, HasTenDigits}
use Rattle.certificates.proofs.Somes.{tested, and_parts}

tells : IsDigitsTest (λ ds. list_all is_decimal_digit ds ≡ true)
tells = record {
  empty = refl;
  parts = λ c cs e. let k = and_parts (is_decimal_digit c) (list_all is_decimal_digit cs) e in let m = and_parts (leb 48 c) (leb c 57) k.0 in ((leb-true 48 c m.0, leb-true c 57 m.1), k.1);
  more = λ c cs k e i. (le-leb 48 c k.0 i && le-leb c 57 k.1 i) && e i;
}

own : IsNumeralModel (λ ds. list_all is_decimal_digit ds ≡ true) (number_from 0)
own = numerals_by_fold _ tells number_from (search rules)

-- ---- a zero at the front

lone_zero : (w : List ℕ) → leads_well w ≡ true → 0 < length w → get_or w 0 0 ≡ 48 → length w ≡ 1
lone_zero [] e l z = absurd (omega arith)
lone_zero (b ∷ []) e l z = refl
lone_zero (b ∷ c ∷ bs) e l z = absurd (false≢true (sym (ap not (eq-eqb b 48 z)) ∙ e))

no_zero : (w : List ℕ) → 48 < get_or w 0 0 → leads_well w ≡ true
no_zero [] l = refl
no_zero (b ∷ []) l = refl
no_zero (b ∷ c ∷ bs) l = ap not (ne_eqb b 48 (λ e. omega arith))

decimal_leads : (n : ℕ) → n < 2 ^ 64 → leads_well (decimal n) ≡ true
decimal_leads n small = at n small (leb 1 n) refl
  where
    at : (n : ℕ) → n < 2 ^ 64 → (t : Bool) → leb 1 n ≡ t → leads_well (decimal n) ≡ true
    at n small true e = no_zero (decimal n) (first_decimal n (leb-true 1 n e) small)
    at n small false e = ap leads_well (decimal_digit n (grind (arith, le-leb)))

-- ---- numbers

pub record IsNumeral (w : List ℕ) : Type 0 where
  pub some : 1 ≤ length w
  pub few : length w ≤ 10
  pub leads : leads_well w ≡ true
  pub digits : list_all is_decimal_digit w ≡ true

pub numeral-is : (w : List ℕ) → is_numeral w ≡ true → IsNumeral w
numeral-is w h =
    let p = and_parts (leb 1 (length w) && leb (length w) 10 && leads_well w) (list_all is_decimal_digit w) h in
    let q = and_parts (leb 1 (length w) && leb (length w) 10) (leads_well w) p.0 in
    let r = and_parts (leb 1 (length w)) (leb (length w) 10) q.0 in
    record { some = leb-true 1 (length w) r.0; few = leb-true (length w) 10 r.1; leads = q.1; digits = p.1 }

all_true : (a b c d : Bool) → a ≡ true → b ≡ true → c ≡ true → d ≡ true → (a && b && c && d) ≡ true
all_true a b c d p q r s = cc

pub numeral-back : (w : List ℕ) → IsNumeral w → is_numeral w ≡ true
numeral-back w n = all_true (leb 1 (length w)) (leb (length w) 10) (leads_well w) (list_all is_decimal_digit w) (le-leb 1 (length w) n.some) (le-leb (length w) 10 n.few) n.leads n.digits

pub number-is : (w : List ℕ) (n : ℕ) → number_of w ≡ Some n → HasTenDigits n × (w ≡ decimal n)
number-is w n h =
    let t : (is_numeral w ≡ true) × (Some (number_from 0 w) ≡ Some n) = tested (is_numeral w) (Some (number_from 0 w)) n h in
    let p : IsNumeral w = numeral-is w t.0 in
    let e : number_from 0 w ≡ n = same_Some (number_from 0 w) n t.1 in
    let below : number_from 0 w < 10000000000 = digits_value_short own w 10 p.digits p.few in
    (omega arith, sym (decimal-digits_value own w p.digits p.some (lone_zero w p.leads p.some) (omega arith)) ∙ ap decimal e)

pub decimal-numeral : (n : ℕ) → HasTenDigits n → IsNumeral (decimal n)
decimal-numeral n h =
    let small : n < 2 ^ 64 = omega arith in
    record { some = decimal_nonempty n small; few = length-decimal-le 10 n (omega arith) h small; leads = decimal_leads n small; digits = digits_decimal own n small }

pub number-back : (n : ℕ) → HasTenDigits n → number_of (decimal n) ≡ Some n
number-back n h =
    ap (λ (t : Bool). cond t (Some (number_from 0 (decimal n))) None) (numeral-back (decimal n) (decimal-numeral n h))
    ∙ ap Some (digits_value-decimal own n (let small : n < 2 ^ 64 = omega arith in small))

-- a number has no other byte than digits
pub decimal-without : (c n : ℕ) → c < 48 → HasTenDigits n → All (λ b. eqb b c ≡ false) (decimal n)
decimal-without c n low h =
    All-from_get_or (λ b. eqb b c ≡ false) (decimal n) 0 (λ i l. ne_eqb _ c (not_in_digits own (decimal n) c (decimal-numeral n h).digits (λ r. omega (arith, r.0)) i l))

pub decimal-without_colon : (n : ℕ) → HasTenDigits n → All (λ b. eqb b 58 ≡ false) (decimal n)
decimal-without_colon n h =
    All-from_get_or (λ b. eqb b 58 ≡ false) (decimal n) 0 (λ i l. ne_eqb _ 58 (not_in_digits own (decimal n) 58 (decimal-numeral n h).digits (λ r. omega (arith, r.1)) i l))
