-- A fault has its place: the tokens before it may go on to a text of the grammar, and with its token they may not.
use Rattle.std.proofs.Common.{◌≡◌, ℕ, zero, suc, ◌+◌, ◌≤◌, ◌⊎◌, inl, inr, List, [], ◌∷◌, ◌++◌, length, Bool, true, false, nat_lt, nat_le, if◌then◌else◌, Some, Result, Ok, Err, refl, sym, ◌∙◌, ap, subst, arith, append_assoc}
use Rattle.std.proofs.lemmas.Bool.{ltb-true, leb-true}
use Rattle.std.proofs.lemmas.Bool.Decides.{nat_tests}
use Rattle.gap_text.specs.declared.fault.TextFault.{TextFault}
use Rattle.gap_text.specs.declared.fault.TextFault.TheVariants.{BadByte, Unclosed, Stray, Stepped, BadRange, NumberTooBig, TooDeep}
use Rattle.gap_text.specs.declared.state.Shape.{Shape}
use Rattle.gap_text.specs.declared.state.Shape.TheVariants.{OneNumber, TwoNumbers, Longer}
use Rattle.gap_text.specs.Value.{Value, number, list, values}
use Rattle.gap_text.specs.Tokens.{Token, Open, Close, Comma, Dots, Semicolon, Number, Bad, too_big, tokens}
use Rattle.gap_text.specs.Reading.{State, Level, Phase, AnyValue, FirstItem, AfterItem, RangeEnd, RangeClose, Whole, Over, at, level, put, refused, takes_value, takes_close, closed, span, counted, filled, shape_of, range_begun, after_comma, after_dots, after_semicolon, after_number, step, run, read, start, value_at_end, value_of}
use Rattle.gap_text.specs.Places.{token_place, fault_place, MayGoOn, IsFullRange, IsRefused, at_token, at_end, FaultIsPlaced}
use Rattle.gap_text.proofs.Run.{run-append-ok, read-append-ok}
use Rattle.gap_text.proofs.Accepted.{range-step, read-spelled}
use Rattle.gap_text.proofs.Spelled.{passed, same_state, no_state, spelled-read}

-- ---- states that come up

abbrev IsNonempty : List Level → Type 0
IsNonempty [] = ⊥
IsNonempty (l ∷ ls) = Unit {0}

-- within a list there is an open list
abbrev IsSound : Phase → List Level → Type 0
IsSound FirstItem ls = IsNonempty ls
IsSound AfterItem ls = IsNonempty ls
IsSound (RangeEnd q a) ls = IsNonempty ls
IsSound RangeClose ls = IsNonempty ls
IsSound phase ls = Unit {0}

record Reached (s : State) : Type 0 where
  sound : IsSound s.phase s.open_lists
  few : s.made ≤ 1000000

put-reached : (v : Value) (ls : List Level) (made : ℕ) → made ≤ 1000000 → Reached (put v ls made)
put-reached v [] made few = record { sound = tt; few = few }
put-reached v (l ∷ ls) made few = record { sound = tt; few = few }

same-reached : (s next : State) → Reached s → ◌≡◌ {A = Result State TextFault} (Ok s) (Ok next) → Reached next
same-reached s next r e = subst Reached (same_state s next e) r

filled-nonempty : (vs : List Value) (ls : List Level) → IsNonempty ls → IsNonempty (filled vs ls)
filled-nonempty vs [] h = h
filled-nonempty vs (l ∷ ls) h = tt

closed-reached : (ls : List Level) (made p : ℕ) (next : State) → made ≤ 1000000 → closed ls made p ≡ Ok next → Reached next
closed-reached [] made p next few e = absurd (no_state (Stray p) next e)
closed-reached (l ∷ ls) made p next few e = same-reached (put (list l.place (values l.so_far)) ls made) next (put-reached (list l.place (values l.so_far)) ls made few) e

begun-reached : (shape : Shape) (q : ℕ) (ls : List Level) (made p : ℕ) (next : State) → made ≤ 1000000 → range_begun shape q ls made p ≡ Ok next → Reached next
begun-reached (OneNumber r a) q ls made p next few e = same-reached (at (RangeEnd r a) (level q [] ∷ ls) made) next (record { sound = tt; few = few }) e
begun-reached TwoNumbers q ls made p next few e = absurd (no_state (Stepped p) next e)
begun-reached Longer q ls made p next few e = absurd (no_state (BadRange p) next e)

number-reached : (ph : Phase) (ls : List Level) (made p n : ℕ) (next : State) → IsSound ph ls → made ≤ 1000000 → after_number ph ls made p n ≡ Ok next → Reached next
number-reached AnyValue ls made p n next h few e = same-reached (put (number p n) ls made) next (put-reached (number p n) ls made few) e
number-reached FirstItem ls made p n next h few e = same-reached (put (number p n) ls made) next (put-reached (number p n) ls made few) e
number-reached AfterItem ls made p n next h few e = absurd (no_state (Stray p) next e)
number-reached (RangeEnd q a) ls made p n next h few e =
    let s = at RangeClose (filled (counted q a (span a n)) ls) (made + span a n) in
    let g = passed (nat_le (made + span a n) 1000000) (Ok s) (BadRange p) next e in
    same-reached s next (record { sound = filled-nonempty (counted q a (span a n)) ls h; few = leb-true (made + span a n) 1000000 g.0 }) g.1
number-reached RangeClose ls made p n next h few e = absurd (no_state (BadRange p) next e)
number-reached (Whole v) ls made p n next h few e = absurd (no_state (Stray p) next e)
number-reached (Over v) ls made p n next h few e = absurd (no_state (Stray p) next e)

dots-reached : (ph : Phase) (ls : List Level) (made p : ℕ) (next : State) → made ≤ 1000000 → after_dots ph ls made p ≡ Ok next → Reached next
dots-reached AfterItem [] made p next few e = absurd (no_state (BadRange p) next e)
dots-reached AfterItem (l ∷ ls) made p next few e = begun-reached (shape_of l.so_far) l.place ls made p next few e
dots-reached AnyValue ls made p next few e = absurd (no_state (BadRange p) next e)
dots-reached FirstItem ls made p next few e = absurd (no_state (BadRange p) next e)
dots-reached (RangeEnd q a) ls made p next few e = absurd (no_state (BadRange p) next e)
dots-reached RangeClose ls made p next few e = absurd (no_state (BadRange p) next e)
dots-reached (Whole v) ls made p next few e = absurd (no_state (BadRange p) next e)
dots-reached (Over v) ls made p next few e = absurd (no_state (BadRange p) next e)

comma-reached : (ph : Phase) (ls : List Level) (made p : ℕ) (next : State) → made ≤ 1000000 → after_comma ph ls made p ≡ Ok next → Reached next
comma-reached AfterItem ls made p next few e = same-reached (at AnyValue ls made) next (record { sound = tt; few = few }) e
comma-reached AnyValue ls made p next few e = absurd (no_state (Stray p) next e)
comma-reached FirstItem ls made p next few e = absurd (no_state (Stray p) next e)
comma-reached (RangeEnd q a) ls made p next few e = absurd (no_state (BadRange p) next e)
comma-reached RangeClose ls made p next few e = absurd (no_state (BadRange p) next e)
comma-reached (Whole v) ls made p next few e = absurd (no_state (Stray p) next e)
comma-reached (Over v) ls made p next few e = absurd (no_state (Stray p) next e)

semicolon-reached : (ph : Phase) (ls : List Level) (made p : ℕ) (next : State) → made ≤ 1000000 → after_semicolon ph ls made p ≡ Ok next → Reached next
semicolon-reached (Whole v) ls made p next few e = same-reached (at (Over v) ls made) next (record { sound = tt; few = few }) e
semicolon-reached AnyValue ls made p next few e = absurd (no_state (Stray p) next e)
semicolon-reached FirstItem ls made p next few e = absurd (no_state (Stray p) next e)
semicolon-reached AfterItem ls made p next few e = absurd (no_state (Stray p) next e)
semicolon-reached (RangeEnd q a) ls made p next few e = absurd (no_state (BadRange p) next e)
semicolon-reached RangeClose ls made p next few e = absurd (no_state (BadRange p) next e)
semicolon-reached (Over v) ls made p next few e = absurd (no_state (Stray p) next e)

step-reached : (s : State) (t : Token) (next : State) → Reached s → step s t ≡ Ok next → Reached next
step-reached s (Bad p) next r e = absurd (no_state (BadByte p) next e)
step-reached s (Number p n) next r e =
    number-reached s.phase s.open_lists s.made p n next r.sound r.few (passed (nat_lt n too_big) (after_number s.phase s.open_lists s.made p n) (NumberTooBig p) next e).1
step-reached s (Dots p) next r e = dots-reached s.phase s.open_lists s.made p next r.few e
step-reached s (Comma p) next r e = comma-reached s.phase s.open_lists s.made p next r.few e
step-reached s (Semicolon p) next r e = semicolon-reached s.phase s.open_lists s.made p next r.few e
step-reached s (Close p) next r e =
    closed-reached s.open_lists s.made p next r.few (passed (takes_close s.phase) (closed s.open_lists s.made p) (refused s.phase p) next e).1
step-reached s (Open p) next r e =
    let opened = at FirstItem (level p [] ∷ s.open_lists) s.made in
    let inside : Result State TextFault = if nat_lt (length s.open_lists) 8 then Ok opened else Err (TooDeep p) in
    let f = passed (takes_value s.phase) inside (refused s.phase p) next e in
    let g = passed (nat_lt (length s.open_lists) 8) (Ok opened) (TooDeep p) next f.1 in
    same-reached opened next (record { sound = tt; few = r.few }) g.1

-- a first step that was taken
record Ran (s : State) (t : Token) (ts : List Token) (r : Result State TextFault) : Type 0 where
  mid : State
  taken : step s t ≡ Ok mid
  goes : run mid ts ≡ r

-- a first step, and then the others
first_step : (s : State) (t : Token) (ts : List Token) (r : Result State TextFault) → run s (t ∷ ts) ≡ r → Ran s t ts r ⊎ ((f : TextFault) × (step s t ≡ Err f) × (r ≡ Err f))
first_step s t ts r e = by_step (step s t) refl e
  where
    by_step : (q : Result State TextFault) → step s t ≡ q → (elim q as (λ x. Result State TextFault) [ Ok next ↦ run next ts | Err f ↦ Err f ]) ≡ r → Ran s t ts r ⊎ ((f : TextFault) × (step s t ≡ Err f) × (r ≡ Err f))
    by_step (Ok next) h e = inl (record { mid = next; taken = h; goes = e })
    by_step (Err f) h e = inr (f, h, sym e)

no_fault : (next : State) (f : TextFault) → ◌≡◌ {A = Result State TextFault} (Ok next) (Err f) → ⊥
no_fault next f e = cc

run-reached : (ts : List Token) (s next : State) → Reached s → run s ts ≡ Ok next → Reached next
run-reached [] s next r e = same-reached s next r e
run-reached (t ∷ ts) s next r e =
    elim (first_step s t ts (Ok next) e) [
      | inl k ↦ run-reached ts k.mid next (step-reached s t k.mid r k.taken) k.goes
      | inr k ↦ absurd (no_fault next k.0 k.2)
    ]

-- ---- each of them may go on to a value

record Completes (s : State) : Type 0 where
  us : List Token
  w : Value
  goes : read s us 0 ≡ Ok w

complete-step : (s next : State) (t : Token) → step s t ≡ Ok next → Completes next → Completes s
complete-step s next t e c = record { us = t ∷ c.us; w = c.w; goes = read-append-ok (t ∷ []) c.us s next 0 (ap (λ q. elim q as (λ x. Result State TextFault) [ Ok after ↦ Ok after | Err f ↦ Err f ]) e) ∙ c.goes }

complete-put : (ls : List Level) (v : Value) (made : ℕ) → Completes (put v ls made)
complete-put [] v made = record { us = []; w = v; goes = refl }
complete-put (l ∷ ls) v made =
    complete-step (put v (l ∷ ls) made) (put (list l.place (values (l.so_far ++ v ∷ []))) ls made) (Close 0) refl (complete-put ls (list l.place (values (l.so_far ++ v ∷ []))) made)

complete-range : (l : Level) (ls : List Level) (made q a : ℕ) → made + span a 0 ≤ 1000000 → Completes (at (RangeEnd q a) (l ∷ ls) made)
complete-range l ls made q a few =
    let closing = level l.place (l.so_far ++ counted q a (span a 0)) in
    let whole = list l.place (values closing.so_far) in
    complete-step (at (RangeEnd q a) (l ∷ ls) made) (at RangeClose (closing ∷ ls) (made + span a 0)) (Number 0 0) (range-step l ls made 0 0 q a (omega arith) few)
    (complete-step (at RangeClose (closing ∷ ls) (made + span a 0)) (put whole ls (made + span a 0)) (Close 0) refl (complete-put ls whole (made + span a 0)))

completes : (ph : Phase) (ls : List Level) (made : ℕ) → IsSound ph ls → made ≤ 1000000 → Completes (at ph ls made) ⊎ ((q : ℕ) × (ph ≡ RangeEnd q 0) × (made ≡ 1000000))
completes AnyValue ls made h few = inl (complete-step (at AnyValue ls made) (put (number 0 0) ls made) (Number 0 0) refl (complete-put ls (number 0 0) made))
completes FirstItem [] made h few = absurd h
completes FirstItem (l ∷ ls) made h few = inl (complete-step (at FirstItem (l ∷ ls) made) (put (list l.place (values l.so_far)) ls made) (Close 0) refl (complete-put ls (list l.place (values l.so_far)) made))
completes AfterItem [] made h few = absurd h
completes AfterItem (l ∷ ls) made h few = inl (complete-step (at AfterItem (l ∷ ls) made) (put (list l.place (values l.so_far)) ls made) (Close 0) refl (complete-put ls (list l.place (values l.so_far)) made))
completes RangeClose [] made h few = absurd h
completes RangeClose (l ∷ ls) made h few = inl (complete-step (at RangeClose (l ∷ ls) made) (put (list l.place (values l.so_far)) ls made) (Close 0) refl (complete-put ls (list l.place (values l.so_far)) made))
completes (RangeEnd q a) [] made h few = absurd h
completes (RangeEnd q zero) (l ∷ ls) made h few = by_test (nat_lt made 1000000) refl
  where
    by_test : (b : Bool) → nat_lt made 1000000 ≡ b → Completes (at (RangeEnd q 0) (l ∷ ls) made) ⊎ ((r : ℕ) × (RangeEnd q 0 ≡ RangeEnd r 0) × (made ≡ 1000000))
    by_test true e = inl (complete-range l ls made q 0 (omega (arith, ltb-true made 1000000 e)))
    by_test false e = let h : 1000000 ≤ made = grind (arith, nat_tests) in inr (q, refl, omega arith)
completes (RangeEnd q (suc a)) (l ∷ ls) made h few = inl (complete-range l ls made q (suc a) (omega arith))
completes (Whole v) ls made h few = inl (record { us = []; w = v; goes = refl })
completes (Over v) ls made h few = inl (record { us = []; w = v; goes = refl })

-- ---- the place of a fault

same_fault : (g f : TextFault) → ◌≡◌ {A = Result State TextFault} (Err g) (Err f) → g ≡ f
same_fault g f e = cc

has_place : (g f : TextFault) (p : ℕ) → fault_place g ≡ Some p → ◌≡◌ {A = Result State TextFault} (Err g) (Err f) → fault_place f ≡ Some p
has_place g f p h e = ap fault_place (sym (same_fault g f e)) ∙ h

refused-place : (ph : Phase) (p : ℕ) → fault_place (refused ph p) ≡ Some p
refused-place AnyValue p = refl
refused-place FirstItem p = refl
refused-place AfterItem p = refl
refused-place (RangeEnd q a) p = refl
refused-place RangeClose p = refl
refused-place (Whole v) p = refl
refused-place (Over v) p = refl

-- what a test stops, or what it lets through stops
stopped : (b : Bool) (r : Result State TextFault) (g f : TextFault) → (if b then r else Err g) ≡ Err f → (r ≡ Err f) ⊎ (g ≡ f)
stopped true r g f e = inl e
stopped false r g f e = inr (same_fault g f e)

closed-place : (ls : List Level) (made p : ℕ) (f : TextFault) → closed ls made p ≡ Err f → fault_place f ≡ Some p
closed-place [] made p f e = has_place (Stray p) f p refl e
closed-place (l ∷ ls) made p f e = absurd (no_fault (put (list l.place (values l.so_far)) ls made) f e)

begun-place : (shape : Shape) (q : ℕ) (ls : List Level) (made p : ℕ) (f : TextFault) → range_begun shape q ls made p ≡ Err f → fault_place f ≡ Some p
begun-place (OneNumber r a) q ls made p f e = absurd (no_fault (at (RangeEnd r a) (level q [] ∷ ls) made) f e)
begun-place TwoNumbers q ls made p f e = has_place (Stepped p) f p refl e
begun-place Longer q ls made p f e = has_place (BadRange p) f p refl e

number-place : (ph : Phase) (ls : List Level) (made p n : ℕ) (f : TextFault) → after_number ph ls made p n ≡ Err f → fault_place f ≡ Some p
number-place AnyValue ls made p n f e = absurd (no_fault (put (number p n) ls made) f e)
number-place FirstItem ls made p n f e = absurd (no_fault (put (number p n) ls made) f e)
number-place AfterItem ls made p n f e = has_place (Stray p) f p refl e
number-place (RangeEnd q a) ls made p n f e =
    let s = at RangeClose (filled (counted q a (span a n)) ls) (made + span a n) in
    elim (stopped (nat_le (made + span a n) 1000000) (Ok s) (BadRange p) f e) [ inl h ↦ absurd (no_fault s f h) | inr h ↦ ap fault_place (sym h) ]
number-place RangeClose ls made p n f e = has_place (BadRange p) f p refl e
number-place (Whole v) ls made p n f e = has_place (Stray p) f p refl e
number-place (Over v) ls made p n f e = has_place (Stray p) f p refl e

dots-place : (ph : Phase) (ls : List Level) (made p : ℕ) (f : TextFault) → after_dots ph ls made p ≡ Err f → fault_place f ≡ Some p
dots-place AfterItem [] made p f e = has_place (BadRange p) f p refl e
dots-place AfterItem (l ∷ ls) made p f e = begun-place (shape_of l.so_far) l.place ls made p f e
dots-place AnyValue ls made p f e = has_place (BadRange p) f p refl e
dots-place FirstItem ls made p f e = has_place (BadRange p) f p refl e
dots-place (RangeEnd q a) ls made p f e = has_place (BadRange p) f p refl e
dots-place RangeClose ls made p f e = has_place (BadRange p) f p refl e
dots-place (Whole v) ls made p f e = has_place (BadRange p) f p refl e
dots-place (Over v) ls made p f e = has_place (BadRange p) f p refl e

comma-place : (ph : Phase) (ls : List Level) (made p : ℕ) (f : TextFault) → after_comma ph ls made p ≡ Err f → fault_place f ≡ Some p
comma-place AfterItem ls made p f e = absurd (no_fault (at AnyValue ls made) f e)
comma-place AnyValue ls made p f e = has_place (Stray p) f p refl e
comma-place FirstItem ls made p f e = has_place (Stray p) f p refl e
comma-place (RangeEnd q a) ls made p f e = has_place (BadRange p) f p refl e
comma-place RangeClose ls made p f e = has_place (BadRange p) f p refl e
comma-place (Whole v) ls made p f e = has_place (Stray p) f p refl e
comma-place (Over v) ls made p f e = has_place (Stray p) f p refl e

semicolon-place : (ph : Phase) (ls : List Level) (made p : ℕ) (f : TextFault) → after_semicolon ph ls made p ≡ Err f → fault_place f ≡ Some p
semicolon-place (Whole v) ls made p f e = absurd (no_fault (at (Over v) ls made) f e)
semicolon-place AnyValue ls made p f e = has_place (Stray p) f p refl e
semicolon-place FirstItem ls made p f e = has_place (Stray p) f p refl e
semicolon-place AfterItem ls made p f e = has_place (Stray p) f p refl e
semicolon-place (RangeEnd q a) ls made p f e = has_place (BadRange p) f p refl e
semicolon-place RangeClose ls made p f e = has_place (BadRange p) f p refl e
semicolon-place (Over v) ls made p f e = has_place (Stray p) f p refl e

step-place : (s : State) (t : Token) (f : TextFault) → step s t ≡ Err f → fault_place f ≡ Some (token_place t)
step-place s (Bad p) f e = has_place (BadByte p) f p refl e
step-place s (Number p n) f e =
    elim (stopped (nat_lt n too_big) (after_number s.phase s.open_lists s.made p n) (NumberTooBig p) f e)
    [ inl h ↦ number-place s.phase s.open_lists s.made p n f h | inr h ↦ ap fault_place (sym h) ]
step-place s (Dots p) f e = dots-place s.phase s.open_lists s.made p f e
step-place s (Comma p) f e = comma-place s.phase s.open_lists s.made p f e
step-place s (Semicolon p) f e = semicolon-place s.phase s.open_lists s.made p f e
step-place s (Close p) f e =
    elim (stopped (takes_close s.phase) (closed s.open_lists s.made p) (refused s.phase p) f e)
    [ inl h ↦ closed-place s.open_lists s.made p f h | inr h ↦ ap fault_place (sym h) ∙ refused-place s.phase p ]
step-place s (Open p) f e =
    let opened = at FirstItem (level p [] ∷ s.open_lists) s.made in
    let inside : Result State TextFault = if nat_lt (length s.open_lists) 8 then Ok opened else Err (TooDeep p) in
    elim (stopped (takes_value s.phase) inside (refused s.phase p) f e) [
      | inl h ↦ elim (stopped (nat_lt (length s.open_lists) 8) (Ok opened) (TooDeep p) f h) [ inl k ↦ absurd (no_fault opened f k) | inr k ↦ ap fault_place (sym k) ]
      | inr h ↦ ap fault_place (sym h) ∙ refused-place s.phase p
    ]

-- ---- where a run stops

record Stops (s : State) (ts : List Token) (f : TextFault) : Type 0 where
  before : List Token
  t : Token
  after : List Token
  mid : State
  whole : ts ≡ before ++ t ∷ after
  runs : run s before ≡ Ok mid
  fails : step mid t ≡ Err f

stops : (ts : List Token) (s : State) (f : TextFault) → run s ts ≡ Err f → Stops s ts f
stops [] s f e = absurd (no_fault s f e)
stops (t ∷ ts) s f e =
    elim (first_step s t ts (Err f) e) [
      | inl k ↦ let r = stops ts k.mid f k.goes in record {
        before = t ∷ r.before;
        t = r.t;
        after = r.after;
        mid = r.mid;
        whole = ap (λ (us : List Token). t ∷ us) r.whole;
        runs = ap (λ q. elim q as (λ x. Result State TextFault) [ Ok next ↦ run next r.before | Err g ↦ Err g ]) k.taken ∙ r.runs;
        fails = r.fails;
      }
      | inr k ↦ record { before = []; t = t; after = ts; mid = s; whole = refl; runs = refl; fails = k.1 ∙ sym k.2 }
    ]

-- ---- the law

goes_on_or_full : (ts : List Token) (last : State) → run start ts ≡ Ok last → MayGoOn ts ⊎ IsFullRange ts
goes_on_or_full ts last e =
    let r = run-reached ts start last (record { sound = tt; few = omega arith }) e in
    elim (completes last.phase last.open_lists last.made r.sound r.few) [
      | inl c ↦ inl (c.us, (c.w, spelled-read (ts ++ c.us) c.w 0 (read-append-ok ts c.us start last 0 e ∙ c.goes)))
      | inr k ↦ inr (k.0, last.open_lists, e ∙ ap (λ (ph : Phase). Ok (at ph last.open_lists last.made)) k.1 ∙ ap (λ (m : ℕ). Ok (at (RangeEnd k.0 0) last.open_lists m)) k.2)
    ]

both_answers : (v : Value) (f : TextFault) (r : Result Value TextFault) → r ≡ Ok v → r ≡ Err f → ⊥
both_answers v f r e h = cc

never_on : (ts : List Token) (f : TextFault) (s : Stops start ts f) → MayGoOn (s.before ++ s.t ∷ []) → ⊥
never_on ts f s (us, (v, k)) =
    let ends : run s.mid (s.t ∷ us) ≡ Err f = ap (λ q. elim q as (λ x. Result State TextFault) [ Ok next ↦ run next us | Err g ↦ Err g ]) s.fails in
    let fails : run start (s.before ++ (s.t ∷ us)) ≡ Err f = run-append-ok s.before (s.t ∷ us) start s.mid s.runs ∙ ends in
    let whole : (s.before ++ s.t ∷ []) ++ us ≡ s.before ++ (s.t ∷ us) = append_assoc s.before (s.t ∷ []) us in
    both_answers v f (read start ((s.before ++ s.t ∷ []) ++ us) 0) (read-spelled ((s.before ++ s.t ∷ []) ++ us) v 0 k)
    (ap (λ (ts : List Token). read start ts 0) whole ∙ ap (λ q. elim q as (λ x. Result Value TextFault) [ Ok last ↦ value_at_end last.phase 0 | Err g ↦ Err g ]) fails)

-- a fault at the end
end-fault : (ph : Phase) (p : ℕ) (f : TextFault) → value_at_end ph p ≡ Err f → f ≡ Unclosed p
end-fault AnyValue p f e = cc
end-fault FirstItem p f e = cc
end-fault AfterItem p f e = cc
end-fault (RangeEnd q a) p f e = cc
end-fault RangeClose p f e = cc
end-fault (Whole v) p f e = absurd (cc)
end-fault (Over v) p f e = absurd (cc)

same_end : (g f : TextFault) → ◌≡◌ {A = Result Value TextFault} (Err g) (Err f) → g ≡ f
same_end g f e = cc

pub fault_is_placed : FaultIsPlaced
fault_is_placed text f e = by_run (run start (tokens text)) refl e
  where
    stopped_at : (g : TextFault) → run start (tokens text) ≡ Err g → g ≡ f → IsRefused text f
    stopped_at g h k =
        let s = stops (tokens text) start g h in
        at_token s.before s.t s.after s.whole (ap fault_place (sym k) ∙ step-place s.mid s.t g s.fails) (never_on (tokens text) g s) (goes_on_or_full s.before s.mid s.runs)

    by_run : (q : Result State TextFault) → run start (tokens text) ≡ q → (elim q as (λ x. Result Value TextFault) [ Ok last ↦ value_at_end last.phase (length text) | Err g ↦ Err g ]) ≡ Err f → IsRefused text f
    by_run (Ok last) h k =
        at_end (end-fault last.phase (length text) f k)
        (λ (v, s). both_answers v f (value_of text) (read-spelled (tokens text) v (length text) s) e)
        (goes_on_or_full (tokens text) last h)
    by_run (Err g) h k = stopped_at g h (same_end g f k)
