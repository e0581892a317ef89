-- What the grammar reads, the machine reads: from a value's tokens to the state that they leave.
use Rattle.std.proofs.Common.{◌≡◌, ℕ, suc, ◌+◌, ◌<◌, ◌≤◌, List, [], ◌∷◌, ◌++◌, length, Result, Ok, Err, refl, ◌∙◌, ap, arith, append_assoc, add_assoc, add-zero}
use Rattle.std.proofs.lemmas.Bool.Decides.{nat_tests}
use Rattle.gap_text.specs.declared.fault.TextFault.{TextFault}
use Rattle.gap_text.specs.Value.{Value, Values, number, list, items, values, depth, deepest}
use Rattle.gap_text.specs.Tokens.{Token, Open, Close, Dots, Number, too_big}
use Rattle.gap_text.specs.Reading.{State, Level, AnyValue, FirstItem, AfterItem, RangeEnd, RangeClose, at, level, put, span, counted, step, run, read, start, value_at_end}
use Rattle.gap_text.proofs.Views.{values-items}
use Rattle.gap_text.specs.Grammar.{Reads, ReadsItems, IsText, a_number, an_empty, a_range, a_list, the_last, and_more, plain, ended, Spells}

pub run-step : (s next : State) (t : Token) (ts : List Token) → step s t ≡ Ok next → run s (t ∷ ts) ≡ run next ts
run-step s next t ts e = ap (λ q. elim q as (λ x. Result State TextFault) [ Ok after ↦ run after ts | Err f ↦ Err f ]) e

-- ---- single steps

open-step : (ls : List Level) (made p : ℕ) → length ls < 8 → step (at AnyValue ls made) (Open p) ≡ Ok (at FirstItem (level p [] ∷ ls) made)
open-step ls made p h = grind (arith, nat_tests)

number-step : (ls : List Level) (made p n : ℕ) → n < too_big → step (at AnyValue ls made) (Number p n) ≡ Ok (put (number p n) ls made)
number-step ls made p n h = grind (arith, nat_tests)

first-number-step : (ls : List Level) (made p n : ℕ) → n < too_big → step (at FirstItem ls made) (Number p n) ≡ Ok (put (number p n) ls made)
first-number-step ls made p n h = grind (arith, nat_tests)

pub range-step : (l : Level) (ls : List Level) (made p n q a : ℕ) → n < too_big → made + span a n ≤ 1000000
    → step (at (RangeEnd q a) (l ∷ ls) made) (Number p n) ≡ Ok (at RangeClose (level l.place (l.so_far ++ counted q a (span a n)) ∷ ls) (made + span a n))
range-step l ls made p n q a h k = grind (arith, nat_tests)

-- ---- a value where one is wanted first in a list

first-reads : {ts us : List Token} {v : Value} {n : ℕ} → Reads ts v us n → (ls : List Level) (made : ℕ) → run (at FirstItem ls made) ts ≡ run (at AnyValue ls made) ts
first-reads (a_number h) ls made = refl
first-reads an_empty ls made = refl
first-reads (a_range h k) ls made = refl
first-reads (a_list k) ls made = refl

first-items : {ts us : List Token} {vs : Values} {n : ℕ} → ReadsItems ts vs us n → (ls : List Level) (made : ℕ) → run (at FirstItem ls made) ts ≡ run (at AnyValue ls made) ts
first-items (the_last k) ls made = first-reads k ls made
first-items (and_more k r) ls made = first-reads k ls made

-- ---- whole values

range-steps : (ls : List Level) (made p q r s t a b : ℕ) (ts : List Token) → a < too_big → b < too_big → made + span a b ≤ 1000000 → length ls < 8
    → run (at AnyValue ls made) (Open p ∷ Number q a ∷ Dots r ∷ Number s b ∷ Close t ∷ ts) ≡ run (put (list p (values (counted q a (span a b)))) ls (made + span a b)) ts
range-steps ls made p q r s t a b ts h k few shallow =
    run-step (at AnyValue ls made) (at FirstItem (level p [] ∷ ls) made) (Open p) (Number q a ∷ Dots r ∷ Number s b ∷ Close t ∷ ts) (open-step ls made p shallow)
    ∙ run-step (at FirstItem (level p [] ∷ ls) made) (put (number q a) (level p [] ∷ ls) made) (Number q a) (Dots r ∷ Number s b ∷ Close t ∷ ts) (first-number-step (level p [] ∷ ls) made q a h)
    ∙ run-step (at (RangeEnd q a) (level p [] ∷ ls) made) (at RangeClose (level p (counted q a (span a b)) ∷ ls) (made + span a b)) (Number s b) (Close t ∷ ts) (range-step (level p []) ls made s b q a k few)

mutual
  pub run-reads : {ts us : List Token} {v : Value} {n : ℕ} → Reads ts v us n → (ls : List Level) (made : ℕ) → made + n ≤ 1000000 → length ls + depth v ≤ 8 → run (at AnyValue ls made) ts ≡ run (put v ls (made + n)) us
  run-reads (a_number {p = p} {n = n} {ts = ts} h) ls made few shallow =
      rw (add-zero made) (run-step (at AnyValue ls made) (put (number p n) ls made) (Number p n) ts (number-step ls made p n h))
  run-reads (an_empty {p = p} {q = q} {ts = ts}) ls made few shallow =
      rw (add-zero made) (run-step (at AnyValue ls made) (at FirstItem (level p [] ∷ ls) made) (Open p) (Close q ∷ ts) (open-step ls made p (omega arith)))
  run-reads (a_range {p = p} {q = q} {r = r} {s = s} {t = t} {a = a} {b = b} {ts = ts} h k) ls made few shallow = range-steps ls made p q r s t a b ts h k few (omega arith)
  run-reads (a_list {p = p} {q = q} {n = n} {us = us} {ts = ts} {vs = vs} k) ls made few shallow =
      run-step (at AnyValue ls made) (at FirstItem (level p [] ∷ ls) made) (Open p) us (open-step ls made p (omega arith))
      ∙ first-items k (level p [] ∷ ls) made
      ∙ run-items k (level p []) ls made few (omega arith)
      ∙ ap (λ (ws : Values). run (put (list p ws) ls (made + n)) ts) (values-items vs)

  run-items : {ts us : List Token} {vs : Values} {n : ℕ} → ReadsItems ts vs us n → (l : Level) (ls : List Level) (made : ℕ) → made + n ≤ 1000000 → suc (length ls) + deepest vs ≤ 8
      → run (at AnyValue (l ∷ ls) made) ts ≡ run (at AfterItem (level l.place (l.so_far ++ items vs) ∷ ls) (made + n)) us
  run-items (the_last k) l ls made few shallow = run-reads k (l ∷ ls) made few (omega arith)
  run-items (and_more {p = p} {m = m} {n = n} {us = us} {ws = ws} {ts = ts} {v = v} {vs = vs} k r) l ls made few shallow =
      run-reads k (l ∷ ls) made (omega arith) (omega arith)
      ∙ run-items r (level l.place (l.so_far ++ v ∷ [])) ls (made + m) (omega arith) (omega arith)
      ∙ ap (λ (ws : List Value). run (at AfterItem (level l.place ws ∷ ls) (made + m + n)) ts) (append_assoc l.so_far (v ∷ []) (items vs))
      ∙ ap (λ (c : ℕ). run (at AfterItem (level l.place (l.so_far ++ v ∷ items vs) ∷ ls) c) ts) (add_assoc made m n)

-- ---- whole texts

pub read-spelled : (ts : List Token) (v : Value) (p : ℕ) → Spells ts v → read start ts p ≡ Ok v
read-spelled ts v p s = whole s.reads s.few s.shallow
  where
    at_end : Result State TextFault → Result Value TextFault
    at_end q = elim q as (λ x. Result Value TextFault) [ Ok last ↦ value_at_end last.phase p | Err f ↦ Err f ]

    whole : {us : List Token} {w : Value} {n : ℕ} → IsText us w n → n ≤ 1000000 → depth w ≤ 8 → read start us p ≡ Ok w
    whole (plain k) few shallow = ap at_end (run-reads k [] 0 (omega arith) (omega arith))
    whole (ended k) few shallow = ap at_end (run-reads k [] 0 (omega arith) (omega arith))
