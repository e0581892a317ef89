-- What the machine reads, the grammar reads: from the value that it gives back to the rules.
use Rattle.std.proofs.Common.{◌≡◌, ℕ, zero, suc, ◌+◌, ◌<◌, ◌≤◌, List, [], ◌∷◌, ◌++◌, length, Bool, true, false, nat_lt, nat_le, if◌then◌else◌, Result, Ok, Err, refl, sym, ◌∙◌, ap, subst, arith, append_assoc, add_assoc, add-zero, append-nil}
use Rattle.std.proofs.lemmas.Bool.{ltb-true, leb-true}
use Rattle.gap_text.specs.declared.fault.TextFault.{TextFault}
use Rattle.gap_text.specs.declared.fault.TextFault.TheVariants.{NumberTooBig, BadRange, TooDeep, Stray}
use Rattle.gap_text.specs.declared.state.Shape.{Shape}
use Rattle.gap_text.specs.declared.state.Shape.TheVariants.{OneNumber, TwoNumbers, Longer}
use Rattle.gap_text.specs.Value.{Value, Values, number, list, none, more, items, values, depth, deepest}
use Rattle.gap_text.specs.Tokens.{Token, Open, Close, Comma, Dots, Semicolon, Number, Bad, too_big}
use Rattle.gap_text.specs.Reading.{State, Level, AnyValue, FirstItem, AfterItem, RangeEnd, RangeClose, Whole, Over, at, level, put, span, counted, shape_of, range_begun, step, run, read, start, value_at_end}
use Rattle.gap_text.specs.Grammar.{Reads, ReadsItems, IsText, a_number, an_empty, a_range, a_list, the_last, and_more, plain, ended, Spells}
use Rattle.gap_text.proofs.Views.{values-items}

-- ---- a token that was taken

pub record Taken (s : State) (t : Token) (ts : List Token) (p : ℕ) (w : Value) : Type 0 where
  pub next : State
  pub step_is : step s t ≡ Ok next
  pub goes : read next ts p ≡ Ok w

pub taken : (s : State) (t : Token) (ts : List Token) (p : ℕ) (w : Value) → read s (t ∷ ts) p ≡ Ok w → Taken s t ts p w
taken s t ts p w e = by_step (step s t) refl e
  where
    by_step : (q : Result State TextFault) → step s t ≡ q
        → (elim (elim q as (λ x. Result State TextFault) [ Ok next ↦ run next ts | Err f ↦ Err f ]) as (λ x. Result Value TextFault) [ Ok last ↦ value_at_end last.phase p | Err f ↦ Err f ]) ≡ Ok w
        → Taken s t ts p w
    by_step (Ok next) h e = record { next = next; step_is = h; goes = e }
    by_step (Err f) h e = absurd (cc)

-- what a test lets through
pub passed : (b : Bool) (r : Result State TextFault) (f : TextFault) (next : State) → (if b then r else Err f) ≡ Ok next → (b ≡ true) × (r ≡ Ok next)
passed true r f next e = (refl, e)
passed false r f next e = absurd (cc)

pub same_state : (s next : State) → ◌≡◌ {A = Result State TextFault} (Ok s) (Ok next) → s ≡ next
same_state s next e = cc

pub no_state : (f : TextFault) (next : State) → ◌≡◌ {A = Result State TextFault} (Err f) (Ok next) → ⊥
no_state f next e = cc

-- ---- what the rest of the tokens holds, by the state that is before them

-- a value is wanted
pub record ReadsValue (ls : List Level) (made : ℕ) (ts : List Token) (p : ℕ) (w : Value) : Type 0 where
  pub v : Value
  pub us : List Token
  pub n : ℕ
  pub reads : Reads ts v us n
  pub goes : read (put v ls (made + n)) us p ≡ Ok w
  pub few : made + n ≤ 1000000
  pub shallow : length ls + depth v ≤ 8
  pub shorter : length us < length ts

-- a list has begun here
pub record ReadsList (ls : List Level) (made q : ℕ) (ts : List Token) (p : ℕ) (w : Value) : Type 0 where
  pub vs : Values
  pub us : List Token
  pub n : ℕ
  pub reads : Reads (Open q ∷ ts) (list q vs) us n
  pub goes : read (put (list q vs) ls (made + n)) us p ≡ Ok w
  pub few : made + n ≤ 1000000
  pub shallow : suc (length ls) + deepest vs ≤ 8
  pub shorter : length us < length ts

-- the items after an item
pub data ReadsMore : List Token → Values → (left : List Token) → (made : ℕ) → Type 0 where
  no_more : {us : List Token} → ReadsMore us none us 0
  then_more : {p n : ℕ} {us ts : List Token} {vs : Values} → ReadsItems us vs ts n → ReadsMore (Comma p ∷ us) vs ts n

pub record ReadsTail (l : Level) (ls : List Level) (made : ℕ) (ts : List Token) (p : ℕ) (w : Value) : Type 0 where
  pub vs : Values
  pub us : List Token
  pub q : ℕ
  pub n : ℕ
  pub reads : ReadsMore ts vs (Close q ∷ us) n
  pub goes : read (put (list l.place (values (l.so_far ++ items vs))) ls (made + n)) us p ≡ Ok w
  pub few : made + n ≤ 1000000
  pub shallow : suc (length ls) + deepest vs ≤ 8
  pub shorter : length us < length ts

with_more : {ts us left : List Token} {v : Value} {vs : Values} {m n : ℕ} → Reads ts v us m → ReadsMore us vs left n → ReadsItems ts (more v vs) left (m + n)
with_more {ts} {us} {left} {v} {vs} {m} k no_more = subst (λ (c : ℕ). ReadsItems ts (more v none) us c) (sym (add-zero m)) (the_last k)
with_more k (then_more r) = and_more k r

-- ---- which `..` begins a range

abbrev IsOneNumber : Shape → Type 0
IsOneNumber (OneNumber q a) = Unit {0}
IsOneNumber TwoNumbers = ⊥
IsOneNumber Longer = ⊥

-- the tokens do not go on with a range
abbrev BeginsNoRange : List Value → List Token → Type 0
BeginsNoRange vs (Dots p ∷ ts) = IsOneNumber (shape_of vs) → ⊥
BeginsNoRange vs ts = Unit {0}

two_are_no_number : (x : Value) (xs : List Value) (v : Value) → IsOneNumber (shape_of (x ∷ (xs ++ v ∷ []))) → ⊥
two_are_no_number (number p n) [] (number q m) h = h
two_are_no_number (number p n) [] (list q ws) h = h
two_are_no_number (number p n) (number r k ∷ []) v h = h
two_are_no_number (number p n) (number r k ∷ z ∷ zs) v h = h
two_are_no_number (number p n) (list r vs ∷ zs) v h = h
two_are_no_number (list p vs) xs v h = h

no_range_after_two : (x : Value) (xs : List Value) (v : Value) (ts : List Token) → BeginsNoRange (x ∷ (xs ++ v ∷ [])) ts
no_range_after_two x xs v [] = tt
no_range_after_two x xs v (Dots p ∷ ts) = two_are_no_number x xs v
no_range_after_two x xs v (t ∷ ts) = tt

no_range_after_list : (q : ℕ) (vs : Values) (ts : List Token) → BeginsNoRange (list q vs ∷ []) ts
no_range_after_list q vs [] = tt
no_range_after_list q vs (Dots p ∷ ts) = λ h. h
no_range_after_list q vs (t ∷ ts) = tt

-- ---- the three together, by the number of tokens that are left

-- an item is read, and then the others
list_of_items : (q made m : ℕ) (ls : List Level) (ts us : List Token) (v : Value) (p : ℕ) (w : Value) → Reads ts v us m → made + m ≤ 1000000 → suc (length ls) + depth v ≤ 8 → length us < length ts
    → ReadsTail (level q (v ∷ [])) ls (made + m) us p w → ReadsList ls made q ts p w
list_of_items q made m ls ts us v p w k few shallow shorter r = record {
  vs = more v r.vs;
  us = r.us;
  n = m + r.n;
  reads = a_list (with_more k r.reads);
  goes = sym (ap (λ (c : ℕ). read (put (list q (more v r.vs)) ls c) r.us p) (add_assoc made m r.n))
      ∙ ap (λ (vs : Values). read (put (list q (more v vs)) ls (made + m + r.n)) r.us p) (sym (values-items r.vs)) ∙ r.goes;
  few = omega (arith, r.few);
  shallow = omega (arith, r.shallow);
  shorter = omega (arith, r.shorter);
}

-- a first item that is a number
pub record FirstNumber (ls : List Level) (made q r n : ℕ) (ts : List Token) (p : ℕ) (w : Value) : Type 0 where
  pub fits : n < too_big
  pub goes : read (at AfterItem (level q (number r n ∷ []) ∷ ls) made) ts p ≡ Ok w

first_number : (ls : List Level) (made q r n : ℕ) (ts : List Token) (p : ℕ) (w : Value) → read (at FirstItem (level q [] ∷ ls) made) (Number r n ∷ ts) p ≡ Ok w → FirstNumber ls made q r n ts p w
first_number ls made q r n ts p w e =
    let s = at AfterItem (level q (number r n ∷ []) ∷ ls) made in
    let t = taken (at FirstItem (level q [] ∷ ls) made) (Number r n) ts p w e in
    let g = passed (nat_lt n too_big) (Ok s) (NumberTooBig r) t.next t.step_is in
    record { fits = ltb-true n too_big g.0; goes = ap (λ (next : State). read next ts p) (same_state s t.next g.1) ∙ t.goes }

-- the end of a range
data ClosesRange (l : Level) (ls : List Level) (made p : ℕ) (w : Value) : List Token → Type 0 where
  closes_range : {u : ℕ} {us : List Token} → read (put (list l.place (values l.so_far)) ls made) us p ≡ Ok w → ClosesRange l ls made p w (Close u ∷ us)

range_closed : (l : Level) (ls : List Level) (made p : ℕ) (w : Value) (ts : List Token) → read (at RangeClose (l ∷ ls) made) ts p ≡ Ok w → ClosesRange l ls made p w ts
range_closed l ls made p w [] e = absurd (cc)
range_closed l ls made p w (Close u ∷ us) e = closes_range e
range_closed l ls made p w (Open u ∷ us) e = absurd (cc)
range_closed l ls made p w (Comma u ∷ us) e = absurd (cc)
range_closed l ls made p w (Dots u ∷ us) e = absurd (cc)
range_closed l ls made p w (Semicolon u ∷ us) e = absurd (cc)
range_closed l ls made p w (Bad u ∷ us) e = absurd (cc)
range_closed l ls made p w (Number u n ∷ us) e =
    let t = taken (at RangeClose (l ∷ ls) made) (Number u n) us p w e in
    absurd (no_state (BadRange u) t.next (passed (nat_lt n too_big) (Err (BadRange u)) (NumberTooBig u) t.next t.step_is).1)

-- numbers have no levels
deepest-counted : (p a n : ℕ) → deepest (values (counted p a n)) ≡ 0
deepest-counted p a zero = refl
deepest-counted p a (suc n) = omega (arith, deepest-counted p (suc a) n)

range_whole : (ls : List Level) (made q r a s t b : ℕ) {us : List Token} (p : ℕ) (w : Value) → a < too_big → b < too_big → made + span a b ≤ 1000000 → length ls < 8
    → ClosesRange (level q (counted r a (span a b))) ls (made + span a b) p w us → ReadsList ls made q (Number r a ∷ Dots s ∷ Number t b ∷ us) p w
range_whole ls made q r a s t b p w h k few shallow (closes_range {us = us} e) = record {
  vs = values (counted r a (span a b));
  us = us;
  n = span a b;
  reads = a_range h k;
  goes = e;
  few = few;
  shallow = omega (arith, deepest-counted r a (span a b));
  shorter = omega arith;
}

range_list : (ls : List Level) (made q r a s : ℕ) (us : List Token) (p : ℕ) (w : Value) → a < too_big → length ls < 8 → read (at (RangeEnd r a) (level q [] ∷ ls) made) us p ≡ Ok w → ReadsList ls made q (Number r a ∷ Dots s ∷ us) p w
range_list ls made q r a s [] p w h shallow e = absurd (cc)
range_list ls made q r a s (Open u ∷ us) p w h shallow e = absurd (cc)
range_list ls made q r a s (Close u ∷ us) p w h shallow e = absurd (cc)
range_list ls made q r a s (Comma u ∷ us) p w h shallow e = absurd (cc)
range_list ls made q r a s (Dots u ∷ us) p w h shallow e = absurd (cc)
range_list ls made q r a s (Semicolon u ∷ us) p w h shallow e = absurd (cc)
range_list ls made q r a s (Bad u ∷ us) p w h shallow e = absurd (cc)
range_list ls made q r a s (Number t b ∷ us) p w h shallow e =
    let next = at RangeClose (level q (counted r a (span a b)) ∷ ls) (made + span a b) in
    let k = taken (at (RangeEnd r a) (level q [] ∷ ls) made) (Number t b) us p w e in
    let inside : Result State TextFault = if nat_le (made + span a b) 1000000 then Ok next else Err (BadRange t) in
    let f = passed (nat_lt b too_big) inside (NumberTooBig t) k.next k.step_is in
    let g = passed (nat_le (made + span a b) 1000000) (Ok next) (BadRange t) k.next f.1 in
    range_whole ls made q r a s t b p w h (ltb-true b too_big f.0) (leb-true (made + span a b) 1000000 g.0) shallow
    (range_closed (level q (counted r a (span a b))) ls (made + span a b) p w us (ap (λ (n : State). read n us p) (same_state next k.next g.1) ∙ k.goes))

-- whether a range goes on
data GoesOn : List Token → Type 0 where
  with_dots : {s : ℕ} {us : List Token} → GoesOn (Dots s ∷ us)
  without_dots : {ts : List Token} → ((vs : List Value) → BeginsNoRange vs ts) → GoesOn ts

goes_on : (ts : List Token) → GoesOn ts
goes_on [] = without_dots (λ vs. tt)
goes_on (Dots s ∷ ts) = with_dots
goes_on (Open s ∷ ts) = without_dots (λ vs. tt)
goes_on (Close s ∷ ts) = without_dots (λ vs. tt)
goes_on (Comma s ∷ ts) = without_dots (λ vs. tt)
goes_on (Semicolon s ∷ ts) = without_dots (λ vs. tt)
goes_on (Number s n ∷ ts) = without_dots (λ vs. tt)
goes_on (Bad s ∷ ts) = without_dots (λ vs. tt)

-- a list whose first item is a number: a range, or one more item
number_list : (ls : List Level) (made q r n : ℕ) {ts : List Token} (p : ℕ) (w : Value) → n < too_big → made ≤ 1000000 → length ls < 8 → read (at AfterItem (level q (number r n ∷ []) ∷ ls) made) ts p ≡ Ok w
    → (BeginsNoRange (number r n ∷ []) ts → ReadsTail (level q (number r n ∷ [])) ls (made + 0) ts p w) → GoesOn ts → ReadsList ls made q (Number r n ∷ ts) p w
number_list ls made q r n p w h few shallow e k (with_dots {s = s} {us = us}) = range_list ls made q r n s us p w h shallow e
number_list ls made q r n {ts} p w h few shallow e k (without_dots f) =
    list_of_items q made 0 ls (Number r n ∷ ts) ts (number r n) p w (a_number h) (omega arith) (omega arith) (omega arith) (k (f (number r n ∷ [])))

no_begin : (s : Shape) (q : ℕ) (ls : List Level) (made r : ℕ) (next : State) → (IsOneNumber s → ⊥) → range_begun s q ls made r ≡ Ok next → ⊥
no_begin (OneNumber p a) q ls made r next h e = h tt
no_begin TwoNumbers q ls made r next h e = cc
no_begin Longer q ls made r next h e = cc

-- what goes on after one more item, and then the others
goes_more : (q : ℕ) (x : Value) (xs : List Value) (v : Value) (vs : List Value) (ls : List Level) (made m n : ℕ) (us : List Token) (p : ℕ) (w : Value)
    → read (put (list q (values ((x ∷ (xs ++ v ∷ [])) ++ vs))) ls (made + m + n)) us p ≡ Ok w → read (put (list q (values (x ∷ (xs ++ v ∷ vs)))) ls (made + (m + n))) us p ≡ Ok w
goes_more q x xs v vs ls made m n us p w e = rw (← add_assoc made m n, ← append_assoc xs (v ∷ []) vs) e

-- the same as what the rest of the tokens holds
tail_of_items : (q : ℕ) (x : Value) (xs : List Value) (ls : List Level) (made m r : ℕ) (ts us : List Token) (v : Value) (p : ℕ) (w : Value) → Reads ts v us m → suc (length ls) + depth v ≤ 8 → length us < length ts
    → ReadsTail (level q (x ∷ (xs ++ v ∷ []))) ls (made + m) us p w → ReadsTail (level q (x ∷ xs)) ls made (Comma r ∷ ts) p w
tail_of_items q x xs ls made m r ts us v p w k shallow shorter b = record {
  vs = more v b.vs;
  us = b.us;
  q = b.q;
  n = m + b.n;
  reads = then_more (with_more k b.reads);
  goes = goes_more q x xs v (items b.vs) ls made m b.n b.us p w b.goes;
  few = omega (arith, b.few);
  shallow = omega (arith, b.shallow);
  shorter = omega (arith, b.shorter);
}

mutual
  value_read : (fuel : ℕ) (ts : List Token) (ls : List Level) (made p : ℕ) (w : Value) → length ts < fuel → made ≤ 1000000 → length ls ≤ 8 → read (at AnyValue ls made) ts p ≡ Ok w → ReadsValue ls made ts p w
  value_read zero ts ls made p w short few shallow e = absurd (omega arith)
  value_read (suc fuel) [] ls made p w short few shallow e = absurd (cc)
  value_read (suc fuel) (Number q n ∷ ts) ls made p w short few shallow e =
      let t = taken (at AnyValue ls made) (Number q n) ts p w e in
      let g = passed (nat_lt n too_big) (Ok (put (number q n) ls made)) (NumberTooBig q) t.next t.step_is in
      record {
        v = number q n;
        us = ts;
        n = 0;
        reads = a_number (ltb-true n too_big g.0);
        goes = ap (λ (c : ℕ). read (put (number q n) ls c) ts p) (add-zero made) ∙ ap (λ (next : State). read next ts p) (same_state (put (number q n) ls made) t.next g.1) ∙ t.goes;
        few = omega arith;
        shallow = omega arith;
        shorter = omega arith;
      }
  value_read (suc fuel) (Open q ∷ ts) ls made p w short few shallow e =
      let s = at FirstItem (level q [] ∷ ls) made in
      let t = taken (at AnyValue ls made) (Open q) ts p w e in
      let g = passed (nat_lt (length ls) 8) (Ok s) (TooDeep q) t.next t.step_is in
      let r = list_read fuel ts q ls made p w (omega arith) few (ltb-true (length ls) 8 g.0) (ap (λ (next : State). read next ts p) (same_state s t.next g.1) ∙ t.goes) in
      record { v = list q r.vs; us = r.us; n = r.n; reads = r.reads; goes = r.goes; few = r.few; shallow = omega (arith, r.shallow); shorter = omega (arith, r.shorter) }
  value_read (suc fuel) (Close q ∷ ts) ls made p w short few shallow e = absurd (cc)
  value_read (suc fuel) (Comma q ∷ ts) ls made p w short few shallow e = absurd (cc)
  value_read (suc fuel) (Dots q ∷ ts) ls made p w short few shallow e = absurd (cc)
  value_read (suc fuel) (Semicolon q ∷ ts) ls made p w short few shallow e = absurd (cc)
  value_read (suc fuel) (Bad q ∷ ts) ls made p w short few shallow e = absurd (cc)

  list_read : (fuel : ℕ) (ts : List Token) (q : ℕ) (ls : List Level) (made p : ℕ) (w : Value) → length ts < fuel → made ≤ 1000000 → length ls < 8 → read (at FirstItem (level q [] ∷ ls) made) ts p ≡ Ok w → ReadsList ls made q ts p w
  list_read zero ts q ls made p w short few shallow e = absurd (omega arith)
  list_read (suc fuel) [] q ls made p w short few shallow e = absurd (cc)
  list_read (suc fuel) (Close r ∷ ts) q ls made p w short few shallow e = record {
    vs = none;
    us = ts;
    n = 0;
    reads = an_empty;
    goes = ap (λ (c : ℕ). read (put (list q none) ls c) ts p) (add-zero made) ∙ e;
    few = omega arith;
    shallow = omega arith;
    shorter = omega arith;
  }
  list_read (suc fuel) (Number r n ∷ ts) q ls made p w short few shallow e =
      let f = first_number ls made q r n ts p w e in
      number_list ls made q r n p w f.fits few shallow f.goes
      (λ h. tail_read fuel ts q (number r n) [] ls (made + 0) p w (omega arith) (omega arith) shallow h
      (ap (λ (c : ℕ). read (at AfterItem (level q (number r n ∷ []) ∷ ls) c) ts p) (add-zero made) ∙ f.goes))
      (goes_on ts)
  list_read (suc fuel) (Open r ∷ ts) q ls made p w short few shallow e =
      let s = at FirstItem (level r [] ∷ level q [] ∷ ls) made in
      let t = taken (at FirstItem (level q [] ∷ ls) made) (Open r) ts p w e in
      let g = passed (nat_lt (suc (length ls)) 8) (Ok s) (TooDeep r) t.next t.step_is in
      let a = list_read fuel ts r (level q [] ∷ ls) made p w (omega arith) few (ltb-true (suc (length ls)) 8 g.0) (ap (λ (next : State). read next ts p) (same_state s t.next g.1) ∙ t.goes) in
      let b = tail_read fuel a.us q (list r a.vs) [] ls (made + a.n) p w (omega (arith, a.shorter)) a.few shallow (no_range_after_list r a.vs a.us) a.goes in
      list_of_items q made a.n ls (Open r ∷ ts) a.us (list r a.vs) p w a.reads a.few (omega (arith, a.shallow)) (omega (arith, a.shorter)) b
  list_read (suc fuel) (Comma r ∷ ts) q ls made p w short few shallow e = absurd (cc)
  list_read (suc fuel) (Dots r ∷ ts) q ls made p w short few shallow e = absurd (cc)
  list_read (suc fuel) (Semicolon r ∷ ts) q ls made p w short few shallow e = absurd (cc)
  list_read (suc fuel) (Bad r ∷ ts) q ls made p w short few shallow e = absurd (cc)

  tail_read : (fuel : ℕ) (ts : List Token) (q : ℕ) (x : Value) (xs : List Value) (ls : List Level) (made p : ℕ) (w : Value) → length ts < fuel → made ≤ 1000000 → length ls < 8 → BeginsNoRange (x ∷ xs) ts
      → read (at AfterItem (level q (x ∷ xs) ∷ ls) made) ts p ≡ Ok w → ReadsTail (level q (x ∷ xs)) ls made ts p w
  tail_read zero ts q x xs ls made p w short few shallow h e = absurd (omega arith)
  tail_read (suc fuel) [] q x xs ls made p w short few shallow h e = absurd (cc)
  tail_read (suc fuel) (Close r ∷ ts) q x xs ls made p w short few shallow h e = record {
    vs = none;
    us = ts;
    q = r;
    n = 0;
    reads = no_more;
    goes = ap (λ (c : ℕ). read (put (list q (values (x ∷ (xs ++ [])))) ls c) ts p) (add-zero made) ∙ ap (λ (vs : List Value). read (put (list q (values (x ∷ vs))) ls made) ts p) (append-nil xs) ∙ e;
    few = omega arith;
    shallow = omega arith;
    shorter = omega arith;
  }
  tail_read (suc fuel) (Comma r ∷ ts) q x xs ls made p w short few shallow h e =
      let a = value_read fuel ts (level q (x ∷ xs) ∷ ls) made p w (omega arith) few (omega arith) e in
      let b = tail_read fuel a.us q x (xs ++ a.v ∷ []) ls (made + a.n) p w (omega (arith, a.shorter)) a.few shallow (no_range_after_two x xs a.v a.us) a.goes in
      tail_of_items q x xs ls made a.n r ts a.us a.v p w a.reads (omega (arith, a.shallow)) a.shorter b
  tail_read (suc fuel) (Dots r ∷ ts) q x xs ls made p w short few shallow h e =
      let t = taken (at AfterItem (level q (x ∷ xs) ∷ ls) made) (Dots r) ts p w e in
      absurd (no_begin (shape_of (x ∷ xs)) q ls made r t.next h t.step_is)
  tail_read (suc fuel) (Number r n ∷ ts) q x xs ls made p w short few shallow h e =
      let t = taken (at AfterItem (level q (x ∷ xs) ∷ ls) made) (Number r n) ts p w e in
      absurd (no_state (Stray r) t.next (passed (nat_lt n too_big) (Err (Stray r)) (NumberTooBig r) t.next t.step_is).1)
  tail_read (suc fuel) (Open r ∷ ts) q x xs ls made p w short few shallow h e = absurd (cc)
  tail_read (suc fuel) (Semicolon r ∷ ts) q x xs ls made p w short few shallow h e = absurd (cc)
  tail_read (suc fuel) (Bad r ∷ ts) q x xs ls made p w short few shallow h e = absurd (cc)

-- ---- whole texts

nothing_after : (v : Value) (n : ℕ) (t : Token) (us : List Token) (p : ℕ) (w : Value) → read (at (Over v) [] n) (t ∷ us) p ≡ Ok w → ⊥
nothing_after v n (Open q) us p w e = cc
nothing_after v n (Close q) us p w e = cc
nothing_after v n (Comma q) us p w e = cc
nothing_after v n (Dots q) us p w e = cc
nothing_after v n (Semicolon q) us p w e = cc
nothing_after v n (Bad q) us p w e = cc
nothing_after v n (Number q k) us p w e =
    let t = taken (at (Over v) [] n) (Number q k) us p w e in
    no_state (Stray q) t.next (passed (nat_lt k too_big) (Err (Stray q)) (NumberTooBig q) t.next t.step_is).1

same_value : (v w : Value) → ◌≡◌ {A = Result Value TextFault} (Ok v) (Ok w) → v ≡ w
same_value v w e = cc

whole_text : (ts us : List Token) (v : Value) (n p : ℕ) (w : Value) → Reads ts v us n → read (at (Whole v) [] n) us p ≡ Ok w → IsText ts v n × (v ≡ w)
whole_text ts [] v n p w k e = (plain k, same_value v w e)
whole_text ts (Semicolon q ∷ []) v n p w k e = (ended k, same_value v w e)
whole_text ts (Semicolon q ∷ u ∷ us) v n p w k e = absurd (nothing_after v n u us p w e)
whole_text ts (Open q ∷ us) v n p w k e = absurd (cc)
whole_text ts (Close q ∷ us) v n p w k e = absurd (cc)
whole_text ts (Comma q ∷ us) v n p w k e = absurd (cc)
whole_text ts (Dots q ∷ us) v n p w k e = absurd (cc)
whole_text ts (Bad q ∷ us) v n p w k e = absurd (cc)
whole_text ts (Number q m ∷ us) v n p w k e =
    let t = taken (at (Whole v) [] n) (Number q m) us p w e in
    absurd (no_state (Stray q) t.next (passed (nat_lt m too_big) (Err (Stray q)) (NumberTooBig q) t.next t.step_is).1)

pub spelled-read : (ts : List Token) (w : Value) (p : ℕ) → read start ts p ≡ Ok w → Spells ts w
spelled-read ts w p e =
    let r = value_read (suc (length ts)) ts [] 0 p w (omega arith) (omega arith) (omega arith) e in
    let zero_add : 0 + r.n ≡ r.n = omega arith in
    let t = whole_text ts r.us r.v r.n p w r.reads (sym (ap (λ (c : ℕ). read (at (Whole r.v) [] c) r.us p) zero_add) ∙ r.goes) in
    subst (Spells ts) t.1 (record { made = r.n; reads = t.0; few = omega (arith, r.few); shallow = omega (arith, r.shallow) })
