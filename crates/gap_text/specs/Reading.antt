-- The value of a text, or its first fault: what the tokens so far allow next, one token at a time. ls are the open lists, made
-- how many numbers the ranges made, p the place of a token.
--   Level, level place so_far        an open list: its place, and the values that it has so far
--   Phase                            what may come next
--   State, at phase ls made          a phase, the open lists, the innermost first, and how many numbers the ranges made
--   start                            the state before the first token
--   put v ls made                    a value was read: it is an item of the innermost list, or the value of the text
--   refused phase p                  the fault of a token that is not allowed, other than `..`
--   span a b                         how many numbers there are from a to b
--   counted place a n                the numbers from a on, n of them, at one place
--   takes_value, takes_close         whether a value may come, whether the innermost list may end
--   closed ls made p                 the innermost list is over
--   shape_of so_far                  what a list is so far, where a `..` comes
--   range_begun shape place ls made p    a `..` begins a range where the innermost list is one number so far
--   filled vs ls                     the innermost list gets the numbers of a range
--   after_open, after_close, after_comma, after_dots, after_semicolon, after_number
--                                    the state after such a token, or its fault
--   step s t                         the state after a token, or its fault
--   run s ts                         the same of tokens one after another
--   value_at_end phase p             the value, at the end of the text, or that it is not closed
--   read s ts p                      the value that tokens give from a state on, in a text of length p, or the first fault
--   value_of text                    the value of a text, or its first fault
use Rattle.std.specs.Prelude.{Bool, true, false, ℕ, zero, suc, ◌+◌, ◌-◌, List, [], ◌∷◌, ◌++◌, length, nat_lt, nat_le, if◌then◌else◌, Result, Ok, Err}
use Rattle.gap_text.specs.declared.fault.TextFault.{TextFault}
use Rattle.gap_text.specs.declared.fault.TextFault.TheVariants.{BadByte, Unclosed, Stray, Stepped, BadRange, NumberTooBig, TooDeep}
use Rattle.gap_text.specs.declared.state.Shape.{Shape}
use Rattle.gap_text.specs.declared.state.Shape.TheVariants.{OneNumber, TwoNumbers, Longer}
use Rattle.gap_text.specs.Value.{Value, number, list, values}
use Rattle.gap_text.specs.Tokens.{Token, Open, Close, Comma, Dots, Semicolon, Number, Bad, tokens, too_big}

pub record Level : Type 0 where
  pub place : ℕ
  pub so_far : List Value

pub data Phase : Type 0 where
  -- a value
  AnyValue : Phase
  -- a value or `]`, after `[`
  FirstItem : Phase
  -- `,` or `]` or perhaps `..`, after an item
  AfterItem : Phase
  -- the last number of the range that begins with this number, after `..`
  RangeEnd : (place first : ℕ) → Phase
  -- `]`, after a range
  RangeClose : Phase
  -- `;` or the end, after the value of the text
  Whole : Value → Phase
  -- the end, after `;`
  Over : Value → Phase

pub record State : Type 0 where
  pub phase : Phase
  -- the open lists, the innermost first
  pub open_lists : List Level
  -- how many numbers the ranges made
  pub made : ℕ

abbrev pub at : Phase → List Level → ℕ → State
at phase open_lists made = record { phase = phase; open_lists = open_lists; made = made }

abbrev pub level : ℕ → List Value → Level
level place so_far = record { place = place; so_far = so_far }

abbrev pub start : State
start = at AnyValue [] 0

abbrev pub put : Value → List Level → ℕ → State
put v [] made = at (Whole v) [] made
put v (l ∷ ls) made = at AfterItem (level l.place (l.so_far ++ v ∷ []) ∷ ls) made

abbrev pub refused : Phase → ℕ → TextFault
refused (RangeEnd q a) p = BadRange p
refused RangeClose p = BadRange p
refused _ p = Stray p

-- ---- the values of a range

abbrev pub span : ℕ → ℕ → ℕ
span a b = suc b - a

abbrev pub counted : (place a n : ℕ) → List Value
counted place a zero = []
counted place a (suc n) = number place a ∷ counted place (suc a) n

-- ---- one token

abbrev pub takes_value : Phase → Bool
takes_value AnyValue = true
takes_value FirstItem = true
takes_value _ = false

abbrev pub takes_close : Phase → Bool
takes_close FirstItem = true
takes_close AfterItem = true
takes_close RangeClose = true
takes_close _ = false

abbrev pub after_open : Phase → List Level → ℕ → ℕ → Result State TextFault
after_open phase ls made p =
    if takes_value phase then (if nat_lt (length ls) 8 then Ok (at FirstItem (level p [] ∷ ls) made) else Err (TooDeep p)) else Err (refused phase p)

abbrev pub closed : List Level → ℕ → ℕ → Result State TextFault
closed [] made p = Err (Stray p)
closed (l ∷ ls) made p = Ok (put (list l.place (values l.so_far)) ls made)

abbrev pub after_close : Phase → List Level → ℕ → ℕ → Result State TextFault
after_close phase ls made p = if takes_close phase then closed ls made p else Err (refused phase p)

abbrev pub after_comma : Phase → List Level → ℕ → ℕ → Result State TextFault
after_comma AfterItem ls made p = Ok (at AnyValue ls made)
after_comma phase ls made p = Err (refused phase p)

abbrev pub shape_of : List Value → Shape
shape_of (number q a ∷ []) = OneNumber q a
shape_of (number q a ∷ number r b ∷ []) = TwoNumbers
shape_of _ = Longer

abbrev pub range_begun : Shape → ℕ → List Level → ℕ → ℕ → Result State TextFault
range_begun (OneNumber q a) place ls made p = Ok (at (RangeEnd q a) (level place [] ∷ ls) made)
range_begun TwoNumbers place ls made p = Err (Stepped p)
range_begun Longer place ls made p = Err (BadRange p)

abbrev pub after_dots : Phase → List Level → ℕ → ℕ → Result State TextFault
after_dots AfterItem (l ∷ ls) made p = range_begun (shape_of l.so_far) l.place ls made p
after_dots phase ls made p = Err (BadRange p)

abbrev pub after_semicolon : Phase → List Level → ℕ → ℕ → Result State TextFault
after_semicolon (Whole v) ls made p = Ok (at (Over v) ls made)
after_semicolon phase ls made p = Err (refused phase p)

abbrev pub filled : List Value → List Level → List Level
filled vs [] = []
filled vs (l ∷ ls) = level l.place (l.so_far ++ vs) ∷ ls

abbrev pub after_number : Phase → List Level → ℕ → ℕ → ℕ → Result State TextFault
after_number AnyValue ls made p n = Ok (put (number p n) ls made)
after_number FirstItem ls made p n = Ok (put (number p n) ls made)
after_number (RangeEnd q a) ls made p n =
    if nat_le (made + span a n) 1000000 then Ok (at RangeClose (filled (counted q a (span a n)) ls) (made + span a n)) else Err (BadRange p)
after_number phase ls made p n = Err (refused phase p)

abbrev pub step : State → Token → Result State TextFault
step s (Bad p) = Err (BadByte p)
step s (Number p n) = if nat_lt n too_big then after_number s.phase s.open_lists s.made p n else Err (NumberTooBig p)
step s (Dots p) = after_dots s.phase s.open_lists s.made p
step s (Open p) = after_open s.phase s.open_lists s.made p
step s (Close p) = after_close s.phase s.open_lists s.made p
step s (Comma p) = after_comma s.phase s.open_lists s.made p
step s (Semicolon p) = after_semicolon s.phase s.open_lists s.made p

-- ---- all tokens, and the end

abbrev pub run : State → List Token → Result State TextFault
run s [] = Ok s
run s (t ∷ ts) = elim (step s t) [ Ok next ↦ run next ts | Err f ↦ Err f ]

abbrev pub value_at_end : Phase → ℕ → Result Value TextFault
value_at_end (Whole v) p = Ok v
value_at_end (Over v) p = Ok v
value_at_end phase p = Err (Unclosed p)

abbrev pub read : State → List Token → ℕ → Result Value TextFault
read s ts p = elim (run s ts) [ Ok last ↦ value_at_end last.phase p | Err f ↦ Err f ]

abbrev pub value_of : List ℕ → Result Value TextFault
value_of text = read start (tokens text) (length text)
