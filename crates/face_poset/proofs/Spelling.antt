-- The boundary text in the grammar of texts: which tokens it has, and which value they spell.
use Rattle.std.proofs.Common.{◌≡◌, ◌<◌, ◌≤◌, ◌+◌, ◌++◌, ◌∷◌, [], ℕ, suc, List, length, map, refl, sym, arith, subst, append_assoc, decimal, Ok}
use Rattle.std.specs.List.{AllZip, AllByRecursion}
use Rattle.std.proofs.lemmas.List.{length-append}
use Rattle.gap_text.specs.Value.{Value, number, list, none, values, depth, deepest}
use Rattle.gap_text.specs.Tokens.{Token, Open, Close, Comma, Number}
use Rattle.gap_text.specs.Grammar.{EndsDigits, Lexes, open_bracket, close_bracket, a_comma, Reads, ReadsItems, a_number, an_empty, a_list, the_last, and_more}
use Rattle.gap_text.proofs.CallerLemmas.{lexes-decimal}
use Rattle.face_poset.specs.Text.{commas, brackets}
use Rattle.face_poset.specs.Reader.{as_number}

-- from this place on, the text before these tokens spells a value with a property, of so many levels
pub record SpelledAt (k p : ℕ) (text : List ℕ) (rest : List Token) (P : Value → Type 0) : Type 0 where
  pub tokens : List Token
  pub lexes : Lexes p text tokens
  pub value : Value
  pub has : P value
  pub reads : Reads tokens value rest 0
  pub shallow : depth value ≤ k

-- the same wherever the text stands before bytes that are no digits
abbrev pub Spelled : ℕ → List ℕ → (Value → Type 0) → Type 0
Spelled k text P = (p : ℕ) (bs : List ℕ) (rest : List Token) → EndsDigits bs → Lexes (p + length text) bs rest → SpelledAt k p (text ++ bs) rest P

-- numbers

pub number-spelled : (n : ℕ) → n < 4294967296 → Spelled 0 (decimal n) (λ v. as_number v ≡ Ok n)
number-spelled n small p bs rest ends lex =
    record {
      tokens = Number p n ∷ rest;
      lexes = lexes-decimal n p bs rest small ends lex;
      value = number p n;
      has = refl;
      reads = a_number small;
      shallow = omega arith;
    }

-- lists

record ItemsAt {X : Type 0} (k p : ℕ) (text : List ℕ) (rest : List Token) (P : X → Value → Type 0) (xs : List X) : Type 0 where
  tokens : List Token
  lexes : Lexes p text tokens
  items : List Value
  has : AllZip P xs items
  reads : ReadsItems tokens (values items) rest 0
  shallow : deepest (values items) ≤ k

items-spelled : {X : Type 0} (T : X → List ℕ) (P : X → Value → Type 0) (k : ℕ) (x : X) (xs : List X) → Spelled k (T x) (P x) → AllByRecursion (λ y. Spelled k (T y) (P y)) xs
    → (p : ℕ) (bs : List ℕ) (rest : List Token) → EndsDigits bs → Lexes (p + length (commas (map T (x ∷ xs)))) bs rest → ItemsAt k p (commas (map T (x ∷ xs)) ++ bs) rest P (x ∷ xs)
items-spelled T P k x [] first others p bs rest ends lex =
    let s : SpelledAt k p (T x ++ bs) rest (P x) = first p bs rest ends lex in
    record {
      tokens = s.tokens;
      lexes = s.lexes;
      items = s.value ∷ [];
      has = (s.has, tt);
      reads = the_last s.reads;
      shallow = omega (arith, s.shallow);
    }
items-spelled T P k x (y ∷ ys) first others p bs rest ends lex =
    let C : List ℕ = commas (map T (y ∷ ys)) in
    let at : p + length (T x ++ (44 ∷ C)) ≡ suc (p + length (T x)) + length C = omega (arith, length-append (T x) (44 ∷ C)) in
    let r : ItemsAt k (suc (p + length (T x))) (C ++ bs) rest P (y ∷ ys) = items-spelled T P k y ys others.0 others.1 (suc (p + length (T x))) bs rest ends (subst (λ (q : ℕ). Lexes q bs rest) at lex) in
    let s : SpelledAt k p (T x ++ 44 ∷ (C ++ bs)) (Comma (p + length (T x)) ∷ r.tokens) (P x) = first p (44 ∷ (C ++ bs)) (Comma (p + length (T x)) ∷ r.tokens) refl (a_comma r.lexes) in
    let text : T x ++ 44 ∷ (C ++ bs) ≡ (T x ++ (44 ∷ C)) ++ bs = sym (append_assoc (T x) (44 ∷ C) bs) in
    record {
      tokens = s.tokens;
      lexes = subst (λ (t : List ℕ). Lexes p t s.tokens) text s.lexes;
      items = s.value ∷ r.items;
      has = (s.has, r.has);
      reads = and_more {us = s.tokens} {v = s.value} s.reads r.reads;
      shallow = omega (arith, s.shallow, r.shallow);
    }

-- a list of values with these properties
pub record ListOf {X : Type 0} (P : X → Value → Type 0) (xs : List X) (v : Value) : Type 0 where
  pub place : ℕ
  pub items : List Value
  pub is : v ≡ list place (values items)
  pub each : AllZip P xs items

pub list-spelled : {X : Type 0} (T : X → List ℕ) (P : X → Value → Type 0) (k : ℕ) (xs : List X) → AllByRecursion (λ x. Spelled k (T x) (P x)) xs → Spelled (suc k) (brackets (map T xs)) (ListOf P xs)
list-spelled T P k [] all p bs rest ends lex =
    let at : p + 2 ≡ suc (suc p) = omega arith in
    record {
      tokens = Open p ∷ Close (suc p) ∷ rest;
      lexes = open_bracket (close_bracket (subst (λ (q : ℕ). Lexes q bs rest) at lex));
      value = list p none;
      has = record { place = p; items = []; is = refl; each = tt };
      reads = an_empty;
      shallow = omega arith;
    }
list-spelled T P k (x ∷ xs) all p bs rest ends lex =
    let C : List ℕ = commas (map T (x ∷ xs)) in
    let at : p + suc (length (C ++ 93 ∷ [])) ≡ suc (suc p + length C) = omega (arith, length-append C (93 ∷ [])) in
    let close : Lexes (suc p + length C) (93 ∷ bs) (Close (suc p + length C) ∷ rest) = close_bracket (subst (λ (q : ℕ). Lexes q bs rest) at lex) in
    let r : ItemsAt k (suc p) (C ++ 93 ∷ bs) (Close (suc p + length C) ∷ rest) P (x ∷ xs) = items-spelled T P k x xs all.0 all.1 (suc p) (93 ∷ bs) (Close (suc p + length C) ∷ rest) refl close in
    let text : C ++ 93 ∷ bs ≡ (C ++ 93 ∷ []) ++ bs = sym (append_assoc C (93 ∷ []) bs) in
    record {
      tokens = Open p ∷ r.tokens;
      lexes = open_bracket (subst (λ (t : List ℕ). Lexes (suc p) t r.tokens) text r.lexes);
      value = list p (values r.items);
      has = record { place = p; items = r.items; is = refl; each = r.has };
      reads = a_list r.reads;
      shallow = omega (arith, r.shallow);
    }
