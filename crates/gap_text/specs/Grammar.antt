-- The grammar of texts, as a relation: which tokens a text has, and which value they spell. p is a place, bs are bytes, ts
-- and us are tokens, v is a value.
--   is_blank b             space, tab, carriage return and line feed
--   is_commented b         a byte within a comment, which a line feed is not
--   decimal_from n ds      the number that these digits add to what stands before them
--   EndsDigits bs          a longest run of digits ends before these bytes
--   EndsComment bs         a comment ends before these bytes
--   Lexes p bs ts          from this place on, these bytes are these tokens
--   Reads ts v left made   the first tokens spell this value and leave the others; its ranges make so many numbers
--   ReadsItems ts vs left made   the same for one or more values with commas between them
--   IsText ts v made       one value, then at most one `;`
--   Spells ts v            the same with at most eight levels, and at most a million numbers made by ranges
--   IsValueOf text v       the text spells the value
--   ValueIsSpelled         a text has a value exactly where the grammar gives it that value
--   FaultIsNoValue         a text has a fault exactly where the grammar gives it no value
use Rattle.std.specs.Prelude.{◌≡◌, ◌↔◌, ℕ, suc, ◌+◌, ◌-◌, ◌*◌, ◌<◌, ◌≤◌, List, [], ◌∷◌, ◌++◌, length, Bool, true, false, ◌||◌, ◌==◌, nat_lt, Ok, Err}
use Rattle.std.specs.List.{list_all}
use Rattle.gap_text.specs.declared.fault.TextFault.{TextFault}
use Rattle.gap_text.specs.Value.{Value, Values, number, list, none, more, values, depth}
use Rattle.gap_text.specs.Tokens.{Token, Open, Close, Comma, Dots, Semicolon, Number, is_digit, too_big}
use Rattle.gap_text.specs.Reading.{span, counted, value_of}

-- ---- from bytes to tokens

abbrev pub is_blank : ℕ → Bool
is_blank b = (b == 32) || ((b == 9) || ((b == 13) || (b == 10)))

abbrev pub is_commented : ℕ → Bool
is_commented b = nat_lt b 10 || nat_lt 10 b

abbrev pub decimal_from : ℕ → List ℕ → ℕ
decimal_from n [] = n
decimal_from n (d ∷ ds) = decimal_from (10 * n + (d - 48)) ds

abbrev pub EndsDigits : List ℕ → Type 0
EndsDigits [] = Unit {0}
EndsDigits (b ∷ bs) = is_digit b ≡ false

abbrev pub EndsComment : List ℕ → Type 0
EndsComment [] = Unit {0}
EndsComment (b ∷ bs) = b ≡ 10

pub data Lexes : (place : ℕ) → List ℕ → List Token → Type 0 where
  nothing : {p : ℕ} → Lexes p [] []
  blank : {p b : ℕ} {bs : List ℕ} {ts : List Token} → is_blank b ≡ true → Lexes (suc p) bs ts → Lexes p (b ∷ bs) ts
  comment : {p : ℕ} (cs : List ℕ) {bs : List ℕ} {ts : List Token} → list_all is_commented cs ≡ true → EndsComment bs → Lexes (suc p + length cs) bs ts → Lexes p (35 ∷ (cs ++ bs)) ts
  open_bracket : {p : ℕ} {bs : List ℕ} {ts : List Token} → Lexes (suc p) bs ts → Lexes p (91 ∷ bs) (Open p ∷ ts)
  close_bracket : {p : ℕ} {bs : List ℕ} {ts : List Token} → Lexes (suc p) bs ts → Lexes p (93 ∷ bs) (Close p ∷ ts)
  a_comma : {p : ℕ} {bs : List ℕ} {ts : List Token} → Lexes (suc p) bs ts → Lexes p (44 ∷ bs) (Comma p ∷ ts)
  a_semicolon : {p : ℕ} {bs : List ℕ} {ts : List Token} → Lexes (suc p) bs ts → Lexes p (59 ∷ bs) (Semicolon p ∷ ts)
  two_dots : {p : ℕ} {bs : List ℕ} {ts : List Token} → Lexes (suc (suc p)) bs ts → Lexes p (46 ∷ 46 ∷ bs) (Dots p ∷ ts)
  digits : {p : ℕ} (d : ℕ) (ds : List ℕ) {bs : List ℕ} {ts : List Token} → list_all is_digit (d ∷ ds) ≡ true → EndsDigits bs → Lexes (suc p + length ds) bs ts
      → Lexes p (d ∷ (ds ++ bs)) (Number p (decimal_from 0 (d ∷ ds)) ∷ ts)

-- ---- from tokens to values

mutual
  pub data Reads : List Token → Value → (left : List Token) → (made : ℕ) → Type 0 where
    a_number : {p n : ℕ} {ts : List Token} → n < too_big → Reads (Number p n ∷ ts) (number p n) ts 0
    an_empty : {p q : ℕ} {ts : List Token} → Reads (Open p ∷ Close q ∷ ts) (list p none) ts 0
    a_range : {p q r s t a b : ℕ} {ts : List Token} → a < too_big → b < too_big
        → Reads (Open p ∷ Number q a ∷ Dots r ∷ Number s b ∷ Close t ∷ ts) (list p (values (counted q a (span a b)))) ts (span a b)
    a_list : {p q n : ℕ} {us ts : List Token} {vs : Values} → ReadsItems us vs (Close q ∷ ts) n → Reads (Open p ∷ us) (list p vs) ts n

  pub data ReadsItems : List Token → Values → (left : List Token) → (made : ℕ) → Type 0 where
    the_last : {us ts : List Token} {v : Value} {n : ℕ} → Reads us v ts n → ReadsItems us (more v none) ts n
    and_more : {p m n : ℕ} {us ws ts : List Token} {v : Value} {vs : Values} → Reads us v (Comma p ∷ ws) m → ReadsItems ws vs ts n → ReadsItems us (more v vs) ts (m + n)

pub data IsText : List Token → Value → (made : ℕ) → Type 0 where
  plain : {ts : List Token} {v : Value} {n : ℕ} → Reads ts v [] n → IsText ts v n
  ended : {ts : List Token} {v : Value} {n p : ℕ} → Reads ts v (Semicolon p ∷ []) n → IsText ts v n

pub record Spells (ts : List Token) (v : Value) : Type 0 where
  pub made : ℕ
  pub reads : IsText ts v made
  pub few : made ≤ 1000000
  pub shallow : depth v ≤ 8

pub record IsValueOf (text : List ℕ) (v : Value) : Type 0 where
  pub tokens : List Token
  pub lexes : Lexes 0 text tokens
  pub spells : Spells tokens v

-- ---- the laws

abbrev pub ValueIsSpelled : Type 0
ValueIsSpelled = (text : List ℕ) (v : Value) → (value_of text ≡ Ok v) ↔ IsValueOf text v

abbrev pub FaultIsNoValue : Type 0
FaultIsNoValue = (text : List ℕ) → ((f : TextFault) × (value_of text ≡ Err f)) ↔ ((v : Value) → IsValueOf text v → ⊥)
