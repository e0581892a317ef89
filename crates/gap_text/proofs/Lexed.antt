-- The tokens that the machine makes of bytes are those that the rules give, but that a number which is too big is held at `too_big`.
use Rattle.std.proofs.Common.{◌≡◌, ℕ, zero, suc, ◌+◌, ◌-◌, ◌*◌, ◌<◌, ◌≤◌, min, List, [], ◌∷◌, ◌++◌, length, map, Bool, true, false, ◌&&◌, inl, inr, Result, Ok, Err, refl, sym, ◌∙◌, ap, subst, arith, nat_lt}
use Rattle.std.specs.List.{list_all}
use Rattle.std.proofs.lemmas.Bool.{and_parts}
use Rattle.std.proofs.lemmas.Bool.Decides.{nat_tests}
use Rattle.gap_text.specs.declared.fault.TextFault.{TextFault}
use Rattle.gap_text.specs.declared.byte.Class.{Class}
use Rattle.gap_text.specs.declared.byte.Class.TheVariants.{LeftBracket, RightBracket, CommaSign, SemicolonSign, Point, Digit, Hash, Blank, LineFeed, Other}
use Rattle.gap_text.specs.Tokens.{Token, Open, Close, Comma, Dots, Semicolon, Number, Bad, Mode, Between, Comment, Dot, Digits, is_digit, too_big, class_of, mode_begun, tokens_begun, mode_after, tokens_at, tokens_from}
use Rattle.gap_text.specs.Reading.{State, step, run}
use Rattle.gap_text.specs.Grammar.{is_blank, is_commented, decimal_from, EndsDigits, EndsComment, Lexes, nothing, blank, comment, open_bracket, close_bracket, a_comma, a_semicolon, two_dots, digits}
use Rattle.gap_text.proofs.Classes.{left_bracket-byte, right_bracket-byte, comma-byte, semicolon-byte, point-byte, hash-byte, line_feed-byte, blank-byte, no_comment-byte, digit-byte, class_of-blank, class_of-commented, class_of-digit, class_of-no_digit}

-- ---- numbers held at `too_big`

abbrev pub held : Token → Token
held (Number p n) = Number p (min n too_big)
held t = t

step-held : (s : State) (t : Token) → step s (held t) ≡ step s t
step-held s (Number p n) = by_test (nat_lt n too_big) refl
  where
    by_test : (b : Bool) → nat_lt n too_big ≡ b → step s (Number p (min n too_big)) ≡ step s (Number p n)
    by_test true e = let h : n < too_big = grind (arith, nat_tests) in let k : min n too_big ≡ n = omega arith in rw k refl
    by_test false e = let h : too_big ≤ n = grind (arith, nat_tests) in let k : min n too_big ≡ too_big = omega arith in rw (k, e) refl
step-held s (Open p) = refl
step-held s (Close p) = refl
step-held s (Comma p) = refl
step-held s (Dots p) = refl
step-held s (Semicolon p) = refl
step-held s (Bad p) = refl

pub run-held : (ts : List Token) (s : State) → run s (map held ts) ≡ run s ts
run-held [] s = refl
run-held (t ∷ ts) s =
    ap (λ q. elim q as (λ x. Result State TextFault) [ Ok next ↦ run next (map held ts) | Err f ↦ Err f ]) (step-held s t)
    ∙ elim (step s t) as (λ q. (elim q as (λ x. Result State TextFault) [ Ok next ↦ run next (map held ts) | Err f ↦ Err f ]) ≡ elim q as (λ x. Result State TextFault) [ Ok next ↦ run next ts | Err f ↦ Err f ])
    [ Ok next ↦ run-held ts next | Err f ↦ refl ]

-- ---- runs of bytes

mode_after-comment : (i : ℕ) (c : Class) → (c ≡ LineFeed → ⊥) → mode_after Comment i c ≡ Comment
mode_after-comment i LineFeed h = absurd (h refl)
mode_after-comment i LeftBracket h = refl
mode_after-comment i RightBracket h = refl
mode_after-comment i CommaSign h = refl
mode_after-comment i SemicolonSign h = refl
mode_after-comment i Point h = refl
mode_after-comment i (Digit d) h = refl
mode_after-comment i Hash h = refl
mode_after-comment i Blank h = refl
mode_after-comment i Other h = refl

tokens_from-comment : (cs bs : List ℕ) (i : ℕ) → list_all is_commented cs ≡ true → EndsComment bs → tokens_from Comment i (cs ++ bs) ≡ tokens_from Between (i + length cs) bs
tokens_from-comment [] [] i e h = refl
tokens_from-comment [] (b ∷ bs) i e h =
    let k : i ≡ i + 0 = omega arith in
    subst (λ (x : ℕ). tokens_from Comment i (x ∷ bs) ≡ tokens_from Between (i + 0) (x ∷ bs)) (sym h) (ap (λ (j : ℕ). tokens_from Between (suc j) bs) k)
tokens_from-comment (c ∷ cs) bs i e h =
    let k : suc i + length cs ≡ i + suc (length cs) = omega arith in
    ap (λ (m : Mode). tokens_from m (suc i) (cs ++ bs)) (mode_after-comment i (class_of c) (class_of-commented c (and_parts (is_commented c) (list_all is_commented cs) e).0))
    ∙ tokens_from-comment cs bs (suc i) (and_parts (is_commented c) (list_all is_commented cs) e).1 h
    ∙ ap (λ (j : ℕ). tokens_from Between j bs) k

-- a byte that is no digit ends the digits, and begins what it begins otherwise
tokens_at-digits : (q n i : ℕ) (c : Class) → ((d : ℕ) → c ≡ Digit d → ⊥) → (tokens_at (Digits q n) i c ≡ Number q n ∷ tokens_begun i c) × (mode_after (Digits q n) i c ≡ mode_begun i c)
tokens_at-digits q n i (Digit d) h = absurd (h d refl)
tokens_at-digits q n i LeftBracket h = (refl, refl)
tokens_at-digits q n i RightBracket h = (refl, refl)
tokens_at-digits q n i CommaSign h = (refl, refl)
tokens_at-digits q n i SemicolonSign h = (refl, refl)
tokens_at-digits q n i Point h = (refl, refl)
tokens_at-digits q n i Hash h = (refl, refl)
tokens_at-digits q n i Blank h = (refl, refl)
tokens_at-digits q n i LineFeed h = (refl, refl)
tokens_at-digits q n i Other h = (refl, refl)

tokens_from-ended : (bs : List ℕ) (q n i : ℕ) → EndsDigits bs → tokens_from (Digits q n) i bs ≡ Number q n ∷ tokens_from Between i bs
tokens_from-ended [] q n i h = refl
tokens_from-ended (b ∷ bs) q n i h =
    let k = tokens_at-digits q n i (class_of b) (λ d. class_of-no_digit b d h) in
    ap (λ (ts : List Token). ts ++ tokens_from (mode_after (Digits q n) i (class_of b)) (suc i) bs) k.0
    ∙ ap (λ (m : Mode). Number q n ∷ (tokens_begun i (class_of b) ++ tokens_from m (suc i) bs)) k.1

tokens_from-digits : (ds bs : List ℕ) (q n i : ℕ) → list_all is_digit ds ≡ true → EndsDigits bs
    → tokens_from (Digits q (min n too_big)) i (ds ++ bs) ≡ Number q (min (decimal_from n ds) too_big) ∷ tokens_from Between (i + length ds) bs
tokens_from-digits [] bs q n i e h =
    let k : i ≡ i + 0 = omega arith in
    tokens_from-ended bs q (min n too_big) i h ∙ ap (λ (j : ℕ). Number q (min n too_big) ∷ tokens_from Between j bs) k
tokens_from-digits (d ∷ ds) bs q n i e h =
    let digit : class_of d ≡ Digit (d - 48) = class_of-digit d (and_parts (is_digit d) (list_all is_digit ds) e).0 in
    let value : min (10 * min n too_big + (d - 48)) too_big ≡ min (10 * n + (d - 48)) too_big = omega arith in
    let k : suc i + length ds ≡ i + suc (length ds) = omega arith in
    ap (λ (c : Class). tokens_at (Digits q (min n too_big)) i c ++ tokens_from (mode_after (Digits q (min n too_big)) i c) (suc i) (ds ++ bs)) digit
    ∙ ap (λ (v : ℕ). tokens_from (Digits q v) (suc i) (ds ++ bs)) value
    ∙ tokens_from-digits ds bs q (10 * n + (d - 48)) (suc i) (and_parts (is_digit d) (list_all is_digit ds) e).1 h
    ∙ ap (λ (j : ℕ). Number q (min (decimal_from (10 * n + (d - 48)) ds) too_big) ∷ tokens_from Between j bs) k

-- ---- from the rules to the machine

digit_fits : (b : ℕ) → is_digit b ≡ true → b - 48 ≤ 9
digit_fits b e = grind (arith, nat_tests)

digits-tokens : (p d : ℕ) (ds bs : List ℕ) → list_all is_digit (d ∷ ds) ≡ true → EndsDigits bs
    → tokens_from Between p (d ∷ (ds ++ bs)) ≡ Number p (min (decimal_from 0 (d ∷ ds)) too_big) ∷ tokens_from Between (suc p + length ds) bs
digits-tokens p d ds bs e h =
    let test : is_digit d ≡ true = (and_parts (is_digit d) (list_all is_digit ds) e).0 in
    let value : d - 48 ≡ min (0 + (d - 48)) too_big = omega (arith, digit_fits d test) in
    ap (λ (c : Class). tokens_begun p c ++ tokens_from (mode_begun p c) (suc p) (ds ++ bs)) (class_of-digit d test)
    ∙ ap (λ (v : ℕ). tokens_from (Digits p v) (suc p) (ds ++ bs)) value
    ∙ tokens_from-digits ds bs p (0 + (d - 48)) (suc p) (and_parts (is_digit d) (list_all is_digit ds) e).1 h

pub tokens_from-lexed : {p : ℕ} {bs : List ℕ} {ts : List Token} → Lexes p bs ts → tokens_from Between p bs ≡ map held ts
tokens_from-lexed nothing = refl
tokens_from-lexed (blank {p = p} {b = b} {bs = bs} e k) =
    elim (class_of-blank b e) [
      | inl h ↦ ap (λ (c : Class). tokens_begun p c ++ tokens_from (mode_begun p c) (suc p) bs) h ∙ tokens_from-lexed k
      | inr h ↦ ap (λ (c : Class). tokens_begun p c ++ tokens_from (mode_begun p c) (suc p) bs) h ∙ tokens_from-lexed k
    ]
tokens_from-lexed (comment {p = p} cs {bs = bs} e h k) = tokens_from-comment cs bs (suc p) e h ∙ tokens_from-lexed k
tokens_from-lexed (open_bracket {p = p} k) = ap (λ (ts : List Token). Open p ∷ ts) (tokens_from-lexed k)
tokens_from-lexed (close_bracket {p = p} k) = ap (λ (ts : List Token). Close p ∷ ts) (tokens_from-lexed k)
tokens_from-lexed (a_comma {p = p} k) = ap (λ (ts : List Token). Comma p ∷ ts) (tokens_from-lexed k)
tokens_from-lexed (a_semicolon {p = p} k) = ap (λ (ts : List Token). Semicolon p ∷ ts) (tokens_from-lexed k)
tokens_from-lexed (two_dots {p = p} k) = ap (λ (ts : List Token). Dots p ∷ ts) (tokens_from-lexed k)
tokens_from-lexed (digits {p = p} d ds {bs = bs} {ts = ts} e h k) =
    digits-tokens p d ds bs e h ∙ ap (λ (us : List Token). Number p (min (decimal_from 0 (d ∷ ds)) too_big) ∷ us) (tokens_from-lexed k)

-- ---- from the machine to the rules

abbrev pub NoBad : List Token → Type 0
NoBad [] = Unit {0}
NoBad (Bad p ∷ ts) = ⊥
NoBad (t ∷ ts) = NoBad ts

pub record Lexed (p : ℕ) (bs : List ℕ) (made : List Token) : Type 0 where
  pub ts : List Token
  pub lexes : Lexes p bs ts
  pub is : map held ts ≡ made

record CommentSplit (bs : List ℕ) : Type 0 where
  cs : List ℕ
  left : List ℕ
  whole : cs ++ left ≡ bs
  commented : list_all is_commented cs ≡ true
  ends : EndsComment left
  shorter : length left ≤ length bs

comment_split : (bs : List ℕ) → CommentSplit bs
comment_split [] = record { cs = []; left = []; whole = refl; commented = refl; ends = tt; shorter = omega arith }
comment_split (b ∷ bs) = by_test (is_commented b) refl (comment_split bs)
  where
    by_test : (t : Bool) → is_commented b ≡ t → CommentSplit bs → CommentSplit (b ∷ bs)
    by_test true e s = record {
      cs = b ∷ s.cs;
      left = s.left;
      whole = ap (λ (xs : List ℕ). b ∷ xs) s.whole;
      commented = ap (λ (t : Bool). t && list_all is_commented s.cs) e ∙ s.commented;
      ends = s.ends;
      shorter = omega (arith, s.shorter);
    }
    by_test false e s = record { cs = []; left = b ∷ bs; whole = refl; commented = refl; ends = no_comment-byte b e; shorter = omega arith }

record DigitsSplit (bs : List ℕ) : Type 0 where
  ds : List ℕ
  left : List ℕ
  whole : ds ++ left ≡ bs
  digital : list_all is_digit ds ≡ true
  ends : EndsDigits left
  shorter : length left ≤ length bs

digits_split : (bs : List ℕ) → DigitsSplit bs
digits_split [] = record { ds = []; left = []; whole = refl; digital = refl; ends = tt; shorter = omega arith }
digits_split (b ∷ bs) = by_test (is_digit b) refl (digits_split bs)
  where
    by_test : (t : Bool) → is_digit b ≡ t → DigitsSplit bs → DigitsSplit (b ∷ bs)
    by_test true e s = record {
      ds = b ∷ s.ds;
      left = s.left;
      whole = ap (λ (xs : List ℕ). b ∷ xs) s.whole;
      digital = ap (λ (t : Bool). t && list_all is_digit s.ds) e ∙ s.digital;
      ends = s.ends;
      shorter = omega (arith, s.shorter);
    }
    by_test false e s = record { ds = []; left = b ∷ bs; whole = refl; digital = refl; ends = e; shorter = omega arith }

abbrev Lexer : ℕ → Type 0
Lexer fuel = (bs : List ℕ) (p : ℕ) → length bs < fuel → NoBad (tokens_from Between p bs) → Lexed p bs (tokens_from Between p bs)

-- a token of one byte
lexed_one : (b k : ℕ) (bs : List ℕ) (p : ℕ) (t : Token) (made : List Token) → b ≡ k → held t ≡ t → ((ts : List Token) → Lexes (suc p) bs ts → Lexes p (k ∷ bs) (t ∷ ts)) → Lexed (suc p) bs made → Lexed p (b ∷ bs) (t ∷ made)
lexed_one b k bs p t made e same rule r = record {
  ts = t ∷ r.ts;
  lexes = subst (λ (x : ℕ). Lexes p (x ∷ bs) (t ∷ r.ts)) (sym e) (rule r.ts r.lexes);
  is = ap (λ (u : Token). u ∷ map held r.ts) same ∙ ap (λ (ts : List Token). t ∷ ts) r.is;
}

lexed_dot : (fuel : ℕ) → Lexer fuel → (d : ℕ) (bs : List ℕ) (p : ℕ) (c : Class) → class_of d ≡ c → length bs < fuel → NoBad (tokens_at (Dot p) (suc p) c ++ tokens_from (mode_after (Dot p) (suc p) c) (suc (suc p)) bs)
    → Lexed p (46 ∷ d ∷ bs) (tokens_at (Dot p) (suc p) c ++ tokens_from (mode_after (Dot p) (suc p) c) (suc (suc p)) bs)
lexed_dot fuel lexer d bs p Point e short n =
    let r = lexer bs (suc (suc p)) short n in
    record { ts = Dots p ∷ r.ts; lexes = subst (λ (x : ℕ). Lexes p (46 ∷ x ∷ bs) (Dots p ∷ r.ts)) (sym (point-byte d e)) (two_dots r.lexes); is = ap (λ (ts : List Token). Dots p ∷ ts) r.is }
lexed_dot fuel lexer d bs p c e short n = absurd n

lexed_class : (fuel : ℕ) → Lexer fuel → (b : ℕ) (bs : List ℕ) (p : ℕ) (c : Class) → class_of b ≡ c → length bs < fuel → NoBad (tokens_begun p c ++ tokens_from (mode_begun p c) (suc p) bs)
    → Lexed p (b ∷ bs) (tokens_begun p c ++ tokens_from (mode_begun p c) (suc p) bs)
lexed_class fuel lexer b bs p LeftBracket e short n = lexed_one b 91 bs p (Open p) _ (left_bracket-byte b e) refl (λ ts k. open_bracket k) (lexer bs (suc p) short n)
lexed_class fuel lexer b bs p RightBracket e short n = lexed_one b 93 bs p (Close p) _ (right_bracket-byte b e) refl (λ ts k. close_bracket k) (lexer bs (suc p) short n)
lexed_class fuel lexer b bs p CommaSign e short n = lexed_one b 44 bs p (Comma p) _ (comma-byte b e) refl (λ ts k. a_comma k) (lexer bs (suc p) short n)
lexed_class fuel lexer b bs p SemicolonSign e short n = lexed_one b 59 bs p (Semicolon p) _ (semicolon-byte b e) refl (λ ts k. a_semicolon k) (lexer bs (suc p) short n)
lexed_class fuel lexer b bs p Blank e short n =
    let r = lexer bs (suc p) short n in record { ts = r.ts; lexes = blank (blank-byte b e) r.lexes; is = r.is }
lexed_class fuel lexer b bs p LineFeed e short n =
    let r = lexer bs (suc p) short n in record { ts = r.ts; lexes = blank (ap is_blank (line_feed-byte b e)) r.lexes; is = r.is }
lexed_class fuel lexer b bs p Other e short n = absurd n
lexed_class fuel lexer b [] p Point e short n = absurd n
lexed_class fuel lexer b (d ∷ bs) p Point e short n =
    subst (λ (x : ℕ). Lexed p (x ∷ d ∷ bs) (tokens_from (Dot p) (suc p) (d ∷ bs))) (sym (point-byte b e)) (lexed_dot fuel lexer d bs p (class_of d) refl (omega arith) n)
lexed_class fuel lexer b bs p Hash e short n =
    let s = comment_split bs in
    let made : tokens_from Comment (suc p) bs ≡ tokens_from Between (suc p + length s.cs) s.left = ap (tokens_from Comment (suc p)) (sym s.whole) ∙ tokens_from-comment s.cs s.left (suc p) s.commented s.ends in
    let r = lexer s.left (suc p + length s.cs) (omega (arith, s.shorter)) (subst NoBad made n) in
    let whole : 35 ∷ (s.cs ++ s.left) ≡ b ∷ bs = ap (λ (xs : List ℕ). 35 ∷ xs) s.whole ∙ ap (λ (x : ℕ). x ∷ bs) (sym (hash-byte b e)) in
    record { ts = r.ts; lexes = subst (λ (xs : List ℕ). Lexes p xs r.ts) whole (comment s.cs s.commented s.ends r.lexes); is = r.is ∙ sym made }
lexed_class fuel lexer b bs p (Digit x) e short n =
    let s = digits_split bs in
    let test : is_digit b ≡ true = (digit-byte b x e).0 in
    let digital : list_all is_digit (b ∷ s.ds) ≡ true = ap (λ (t : Bool). t && list_all is_digit s.ds) test ∙ s.digital in
    let token = Number p (min (decimal_from 0 (b ∷ s.ds)) too_big) in
    let made : tokens_from (Digits p x) (suc p) bs ≡ token ∷ tokens_from Between (suc p + length s.ds) s.left =
    ap (λ (c : Class). tokens_begun p c ++ tokens_from (mode_begun p c) (suc p) bs) (sym e)
    ∙ ap (λ (xs : List ℕ). tokens_from Between p (b ∷ xs)) (sym s.whole)
    ∙ digits-tokens p b s.ds s.left digital s.ends in
    let r = lexer s.left (suc p + length s.ds) (omega (arith, s.shorter)) (subst NoBad made n) in
    let ts = Number p (decimal_from 0 (b ∷ s.ds)) ∷ r.ts in
    record {
      ts = ts;
      lexes = subst (λ (xs : List ℕ). Lexes p (b ∷ xs) ts) s.whole (digits b s.ds digital s.ends r.lexes);
      is = ap (λ (us : List Token). token ∷ us) r.is ∙ sym made;
    }

lexed_within : (fuel : ℕ) → Lexer fuel
lexed_within zero bs p short n = absurd (omega arith)
lexed_within (suc fuel) [] p short n = record { ts = []; lexes = nothing; is = refl }
lexed_within (suc fuel) (b ∷ bs) p short n = lexed_class fuel (lexed_within fuel) b bs p (class_of b) refl (omega arith) n

pub lexed : (bs : List ℕ) (p : ℕ) → NoBad (tokens_from Between p bs) → Lexed p bs (tokens_from Between p bs)
lexed bs p n = lexed_within (suc (length bs)) bs p (omega arith) n
