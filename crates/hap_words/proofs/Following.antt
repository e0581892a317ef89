-- A step over a word does to rows that differ by the order of two neighbours the same: rows that so differ again, and the
-- same faults. What is held before a step is h, and h with other rows.
use Rattle.std.proofs.Common.{◌≡◌, ◌∙◌, ap, ap₂, sym, refl, ◌+◌, Bool, true, false, cond, ◌&&◌, ◌||◌, not, ℕ, zero, suc, List, [], ◌∷◌, length, drop, None, Some, codes}
use Rattle.std.specs.Prelude.{encode_utf8, min, slice_get}
use Rattle.std.specs.Option.{option_map_or, is_some}
use Rattle.std.specs.List.{list_any}
use Rattle.std.specs.Str.{bytes_eq, chars}
use Rattle.std.specs.declared.option.Option.{Option}
use Rattle.clap.specs.Words.{Kinds, Row, Rule, Shape, Text}
use Rattle.clap.specs.Kinds.{or_else, check_kinds, range_kinds, value_kinds}
use Rattle.clap.specs.Facts.{explicit_source, parser_of_value, unwrap_or_range}
use Rattle.clap.specs.Matches.{count_text}
use Rattle.clap.specs.Lexer.{long_of, short_of}
use Rattle.clap.specs.Walk.{Held, Names, Outcome, Step, Waiting, Walk, action_of, after_flag, after_step, arg_by_id, arg_by_index, arg_by_long, arg_by_short, attached_value, bundle, bundle_met, bundle_step, done, finished, flag_met, idle, is_empty, is_pending, long_met, long_or_other, most_values, next, option, option_met, option_word, plain, plain_word, positional, pushed, reacted, refused, settled, settled_rows, short_met, short_or_plain, subcommand, subcommand_met, subcommand_or_other, takes_several, takes_values, to_positional, trailing, used, value, values_or_missing, waits, walked, walked_from, with_default, word_met}
use Rattle.clap.specs.Faults.{action_fault, bundle_fault, bundle_step_fault, check_fault, count_fault, defaults_fault, flag_word_fault, flags_fault, given_default_fault, long_fault, option_fault, other_fault, positional_fault, react_fault, set_fault, settle_fault, short_fault, step_fault, stray_fault, turn_fault, use_fault, values_fault, word_fault}
use Rattle.clap.specs.declared.builder.action.ArgAction.{ArgAction}
use Rattle.clap.specs.declared.builder.action.ArgAction.TheVariants as action
use Rattle.clap.specs.declared.error.kind.ErrorKind.TheVariants as kind
use Rattle.hap_words.specs.Table.{asked_by, asked_given, fits, unless_faulty, verbs, with, word_of}
use Rattle.hap_words.specs.Texts.{named}
use Rattle.hap_words.proofs.NearRows.{Near, any-same, count-same, defaults-near, first-same, given-same, has-same, settled-near, used-near, with_default-near}
use Rattle.hap_words.proofs.Reading.{read_end, reading}

-- y is x but for rows that are near those of x
pub record Follows {X : Type 0} (x y : Held × X) : Type 0 where
  pub rows : List Row
  pub near : Near x.0.rows rows
  pub is : y ≡ (record x.0 { rows = rows }, x.1)

abbrev Even : {X : Type 0} → (Held → Held × X) → Type 0
Even f = (h : Held) (rows : List Row) → Near h.rows rows → Follows (f h) (f (record h { rows = rows }))

even-same : {X : Type 0} (x : X) → Even (λ h. (h, x))
even-same x h rows n = record { rows = rows; near = n; is = refl }

even-if : {X : Type 0} (b : Bool) (f g : Held → Held × X) → Even f → Even g → Even (λ h. cond b (f h) (g h))
even-if true f g e d = e
even-if false f g e d = d

even-then : {X Y : Type 0} (f : Held → Held × X) (g : X → Held → Held × Y) → Even f → ((x : X) → Even (g x)) → Even (λ h. g (f h).1 (f h).0)
even-then f g e d h rows n =
    let a = e h rows n in
    let b = d (f h).1 (f h).0 a.rows a.near in
    record { rows = b.rows; near = b.near; is = ap (λ p. g p.1 p.0) a.is ∙ b.is }

-- ---- flags

even-option : (c : List Rule) (a : Rule) (v : Option Text) → Even (option_met c a v)
even-option c a (Some v) h rows n = record {
  rows = used a (v ∷ []) (settled_rows c h.pending rows);
  near = used-near a (v ∷ []) (settled_rows c h.pending h.rows) (settled_rows c h.pending rows) (settled-near c h.pending h.rows rows n);
  is = refl;
}
even-option c a None h rows n = record { rows = settled_rows c h.pending rows; near = settled-near c h.pending h.rows rows n; is = refl }

even-flag : (c : List Rule) (a : Rule) (v : Option Text) → Even (flag_met c a v)
even-flag c a (Some v) h rows n = record { rows = rows; near = n; is = refl }
even-flag c a None h rows n = record {
  rows = used a [] (settled_rows c h.pending rows);
  near = used-near a [] (settled_rows c h.pending h.rows) (settled_rows c h.pending rows) (settled-near c h.pending h.rows rows n);
  is = refl;
}

even-long : (c : List Rule) (o : Option Rule) (v : Option Text) → Even (long_met c o v)
even-long c None v = even-same refused
even-long c (Some a) v = even-if (takes_values a) (option_met c a v) (flag_met c a v) (even-option c a v) (even-flag c a v)

even-short : (c : List Rule) (o : Option Rule) (rest : Text) (go : Held → Held × Outcome) → Even go → Even (λ h. short_met c o rest h go)
even-short c None rest go e = even-same refused
even-short c (Some a) rest go e =
    even-if (takes_values a) (option_met c a (attached_value rest)) (λ h. go (reacted c a [] h)) (even-option c a (attached_value rest))
    (λ h rows n. e (reacted c a [] h) (used a [] (settled_rows c h.pending rows))
    (used-near a [] (settled_rows c h.pending h.rows) (settled_rows c h.pending rows) (settled-near c h.pending h.rows rows n)))

even-bundle_step : (c : List Rule) (o : Option ℕ) (flags : Text) (skip : ℕ) (so_far : Outcome) (go : Text → ℕ → Outcome → Held → Held × Outcome)
    → ((t : Text) (k : ℕ) (s : Outcome) → Even (go t k s)) → Even (λ h. bundle_step c o flags skip so_far h go)
even-bundle_step c None flags skip so_far go e = even-same so_far
even-bundle_step c (Some x) flags zero so_far go e =
    even-short c (arg_by_short c x) (drop (length (encode_utf8 x)) flags) (go (drop (length (encode_utf8 x)) flags) 0 done) (e (drop (length (encode_utf8 x)) flags) 0 done)
even-bundle_step c (Some x) flags (suc skip) so_far go e = e (drop (length (encode_utf8 x)) flags) skip so_far

even-bundle_met : (c : List Rule) (k : ℕ) (flags : Text) (skip : ℕ) (so_far : Outcome) → Even (bundle_met c k flags skip so_far)
unfolding bundle_met
even-bundle_met c zero flags skip so_far = even-same so_far
even-bundle_met c (suc k) flags skip so_far = even-bundle_step c (slice_get (chars flags) 0) flags skip so_far (bundle_met c k) (even-bundle_met c k)

even-bundle : (c : List Rule) (flags : Text) → Even (bundle c flags)
even-bundle c flags h rows n = even-bundle_met c (length flags) flags h.skip plain (record h { skip = 0 }) rows n

-- ---- words

even-option_word : (o : Option Rule) (id word : Text) → Even {X = Step} (λ h. ((option_word o id word h).0, next (option_word o id word h).1))
even-option_word None id word h rows n = record { rows = rows; near = n; is = refl }
even-option_word (Some a) id word h rows n = record { rows = rows; near = n; is = refl }

even-plain : (c : List Rule) (w : Waiting) (word : Text) → Even (plain_word c w word)
even-plain c idle word = even-same value
even-plain c (option id) word = even-option_word (arg_by_id c id) id word
even-plain c positional word = even-same value

even-after : (c : List Rule) (w : Waiting) (word : Text) (o : Outcome) → Even (λ h. after_flag c w word h o)
even-after c w word done = even-same (next idle)
even-after c w word (waits id) = even-same (next (option id))
even-after c w word plain = even-plain c w word
even-after c w word refused = even-plain c w word

even-short_or_plain : (c : List Rule) (w : Waiting) (word : Text) (o : Option Text) → Even (short_or_plain c w word o)
even-short_or_plain c w word (Some flags) = even-then (bundle c flags) (λ o h. after_flag c w word h o) (even-bundle c flags) (even-after c w word)
even-short_or_plain c w word None = even-plain c w word

even-long_or_other : (c : List Rule) (w : Waiting) (word : Text) (o : Option (Text × Option Text)) → Even (long_or_other c w word o)
even-long_or_other c w word (Some p) =
    even-then (long_met c (arg_by_long c p.0) p.1) (λ o h. after_flag c w word h o) (even-long c (arg_by_long c p.0) p.1) (even-after c w word)
even-long_or_other c w word None = even-short_or_plain c w word (short_of word)

even-other : (c : List Rule) (o : Option Text) (w : Waiting) (position : ℕ) (word : Text) → Even (subcommand_or_other c o w position word)
even-other c (Some name) w position word = even-same (subcommand name)
even-other c None w position word =
    even-if (bytes_eq word (45 ∷ 45 ∷ [])) (λ h. (h, trailing position)) (long_or_other c w word (long_of word)) (even-same (trailing position)) (even-long_or_other c w word (long_of word))

even-word : (c : List Rule) (names : Names) (is_trailing : Bool) (w : Waiting) (position : ℕ) (word : Text) → Even (word_met c names is_trailing w position word)
even-word c names is_trailing w position word =
    even-if is_trailing (λ h. (h, value)) (subcommand_or_other c (subcommand_met names w word) w position word) (even-same value)
    (even-other c (subcommand_met names w word) w position word)

-- ---- the walk

abbrev pub with_rows : Walk → List Row → Walk
with_rows w rows = record w { held = record w.held { rows = rows } }

pub record WalkFollows (v w : Walk) : Type 0 where
  pub rows : List Row
  pub near : Near v.held.rows rows
  pub is : w ≡ with_rows v rows

positional-follows : (c : List Rule) (a : Rule) (word : Text) (b : Bool) (w : Walk) (h : Held) (rows : List Row) → Near h.rows rows →
    WalkFollows (record w { held = pushed a.id word (cond b h (settled c h)) }) (record w { held = pushed a.id word (cond b (record h { rows = rows }) (settled c (record h { rows = rows }))) })
positional-follows c a word true w h rows n = record { rows = rows; near = n; is = refl }
positional-follows c a word false w h rows n = record { rows = settled_rows c h.pending rows; near = settled-near c h.pending h.rows rows n; is = refl }

placed-follows : (c : List Rule) (o : Option Rule) (word : Text) (w : Walk) (old rows : List Row) (h : Held) → Near h.rows rows →
    WalkFollows (to_positional c o word w h) (to_positional c o word (with_rows w old) (record h { rows = rows }))
placed-follows c None word w old rows h n = record { rows = rows; near = n; is = refl }
placed-follows c (Some a) word w old rows h n =
    positional-follows c a word (is_pending a h.pending && takes_several a) (to_positional c (Some a) word w h) h rows n

step-follows : (c : List Rule) (word : Text) (w : Walk) (old rows : List Row) (h : Held) (step : Step) → Near h.rows rows →
    WalkFollows (after_step c word w h step) (after_step c word (with_rows w old) (record h { rows = rows }) step)
step-follows c word w old rows h (next waiting) n = record { rows = rows; near = n; is = refl }
step-follows c word w old rows h (trailing position) n = record { rows = rows; near = n; is = refl }
step-follows c word w old rows h (subcommand name) n = record { rows = rows; near = n; is = refl }
step-follows c word w old rows h value n = placed-follows c (arg_by_index c w.position) word w old rows h n

from-follows : (c : List Rule) (stop : Option (Text × List Text)) (w : Walk) (word : Text) (rows : List Row) → Near w.held.rows rows →
    WalkFollows (walked_from c [] stop w word) (walked_from c [] stop (with_rows w rows) word)
from-follows c (Some p) w word rows n = record { rows = rows; near = n; is = refl }
from-follows c None w word rows n =
    let met = even-word c [] w.is_trailing w.waiting w.position word w.held rows n in
    let old = word_met c [] w.is_trailing w.waiting w.position word w.held in
    let step = step-follows c word w rows met.rows old.0 old.1 met.near in
    record { rows = step.rows; near = step.near; is = ap (λ (m : Held × Step). after_step c word (with_rows w rows) m.0 m.1) met.is ∙ step.is }

walked-follows : (c : List Rule) (w : Walk) (word : Text) (rows : List Row) → Near w.held.rows rows → WalkFollows (walked c [] w word) (walked c [] (with_rows w rows) word)
unfolding walked
walked-follows c w word rows n = from-follows c w.stopped w word rows n

-- ---- faults

abbrev Same : (Held → Kinds) → Type 0
Same f = (h : Held) (rows : List Row) → Near h.rows rows → f h ≡ f (record h { rows = rows })

count_fault-same : (a : Rule) (values : List Text) (xs ys : List Row) → Near xs ys → count_fault a values xs ≡ count_fault a values ys
count_fault-same a [] xs ys n = ap (λ (k : ℕ). value_kinds a.ignore_case (parser_of_value a.parser) (count_text (min (k + 1) 255))) (count-same a.id xs ys n)
count_fault-same a (v ∷ vs) xs ys n = refl

set_fault-same : (again : Bool) (a : Rule) (values : List Text) (xs ys : List Row) → Near xs ys → set_fault again a values xs ≡ set_fault again a values ys
set_fault-same again a values xs ys n = ap (λ (b : Bool). or_else (cond (b && not again) (kind.ArgumentConflict ∷ []) []) (values_fault a values)) (has-same a.id xs ys n)

action-same : (t : ArgAction) (again : Bool) (a : Rule) (values : List Text) (xs ys : List Row) → Near xs ys → action_fault t again a values xs ≡ action_fault t again a values ys
action-same action.Set again a values xs ys n = set_fault-same again a values xs ys n
action-same action.SetTrue again a values xs ys n = set_fault-same again a values xs ys n
action-same action.SetFalse again a values xs ys n = set_fault-same again a values xs ys n
action-same action.Append again a values xs ys n = refl
action-same action.Count again a values xs ys n = count_fault-same a values xs ys n
action-same other again a values xs ys n = refl

use-same : (again : Bool) (a : Rule) (values : List Text) (xs ys : List Row) → Near xs ys → use_fault again a values xs ≡ use_fault again a values ys
use-same again a values xs ys n =
    ap (or_else (range_kinds (unwrap_or_range a.range).start_inclusive (most_values a) (length values))) (action-same (action_of a) again a (values_or_missing a values) xs ys n)

settle-rows : (c : List Rule) (again : Bool) (p : Option (Text × List Text)) (xs ys : List Row) → Near xs ys →
    option_map_or (λ (q : Text × List Text). option_map_or (λ (a : Rule). use_fault again a q.1 xs) (arg_by_id c q.0) []) p []
    ≡ option_map_or (λ (q : Text × List Text). option_map_or (λ (a : Rule). use_fault again a q.1 ys) (arg_by_id c q.0) []) p []
settle-rows c again None xs ys n = refl
settle-rows c again (Some q) xs ys n = at (arg_by_id c q.0)
  where
    at : (o : Option Rule) → option_map_or (λ (a : Rule). use_fault again a q.1 xs) o [] ≡ option_map_or (λ (a : Rule). use_fault again a q.1 ys) o []
    at None = refl
    at (Some a) = use-same again a q.1 xs ys n

settle-same : (c : List Rule) (again : Bool) → Same (settle_fault c again)
settle-same c again h rows n = settle-rows c again h.pending h.rows rows n

react-same : (c : List Rule) (again : Bool) (a : Rule) (values : List Text) → Same (react_fault c again a values)
react-same c again a values h rows n =
    ap₂ or_else (settle-same c again h rows n) (use-same again a values (settled_rows c h.pending h.rows) (settled_rows c h.pending rows) (settled-near c h.pending h.rows rows n))

option-same : (c : List Rule) (again : Bool) (a : Rule) (v : Option Text) → Same (option_fault c again a v)
option-same c again a (Some v) = react-same c again a (v ∷ [])
option-same c again a None = settle-same c again

if-same : (b : Bool) (f g : Held → Kinds) → Same f → Same g → Same (λ h. cond b (f h) (g h))
if-same true f g e d = e
if-same false f g e d = d

long-same : (c : List Rule) (again : Bool) (o : Option Rule) (v : Option Text) → Same (long_fault c again o v)
long-same c again None v = λ h rows n. refl
long-same c again (Some a) v =
    if-same (takes_values a) (option_fault c again a v) (λ h. cond (is_some v) (kind.TooManyValues ∷ []) (react_fault c again a [] h)) (option-same c again a v)
    (if-same (is_some v) (λ h. kind.TooManyValues ∷ []) (react_fault c again a []) (λ h rows n. refl) (react-same c again a []))

short-same : (c : List Rule) (again : Bool) (o : Option Rule) (rest : Text) (go : Held → Kinds) → Same go → Same (λ h. short_fault c again o rest h go)
short-same c again None rest go e = λ h rows n. refl
short-same c again (Some a) rest go e =
    if-same (takes_values a) (option_fault c again a (attached_value rest)) (λ h. or_else (react_fault c again a [] h) (go (reacted c a [] h))) (option-same c again a (attached_value rest))
    (λ h rows n. ap₂ or_else (react-same c again a [] h rows n)
    (e (reacted c a [] h) (used a [] (settled_rows c h.pending rows))
    (used-near a [] (settled_rows c h.pending h.rows) (settled_rows c h.pending rows) (settled-near c h.pending h.rows rows n))))

bundle_step-same : (c : List Rule) (again : Bool) (o : Option ℕ) (flags : Text) (skip : ℕ) (go : Text → ℕ → Held → Kinds)
    → ((t : Text) (k : ℕ) → Same (go t k)) → Same (λ h. bundle_step_fault c again o flags skip h go)
bundle_step-same c again None flags skip go e = λ h rows n. refl
bundle_step-same c again (Some x) flags zero go e =
    short-same c again (arg_by_short c x) (drop (length (encode_utf8 x)) flags) (go (drop (length (encode_utf8 x)) flags) 0) (e (drop (length (encode_utf8 x)) flags) 0)
bundle_step-same c again (Some x) flags (suc skip) go e = e (drop (length (encode_utf8 x)) flags) skip

flags-same : (c : List Rule) (again : Bool) (k : ℕ) (flags : Text) (skip : ℕ) → Same (flags_fault c again k flags skip)
unfolding flags_fault
flags-same c again zero flags skip = λ h rows n. refl
flags-same c again (suc k) flags skip = bundle_step-same c again (slice_get (chars flags) 0) flags skip (flags_fault c again k) (flags-same c again k)

short_word-same : (c : List Rule) (again : Bool) (o : Option Text) → Same (λ h. option_map_or (λ (flags : Text). bundle_fault c again flags h) o [])
short_word-same c again None h rows n = refl
short_word-same c again (Some flags) h rows n = flags-same c again (length flags) flags h.skip (record h { skip = 0 }) rows n

flag_word-same : (c : List Rule) (again : Bool) (o : Option (Text × Option Text)) (word : Text) → Same (flag_word_fault c again o word)
flag_word-same c again (Some p) word = long-same c again (arg_by_long c p.0) p.1
flag_word-same c again None word = short_word-same c again (short_of word)

other-same : (s : Shape) (o : Option Text) (word : Text) → Same (other_fault s o word)
other-same s (Some name) word = λ h rows n. refl
other-same s None word =
    if-same (bytes_eq word (45 ∷ 45 ∷ [])) (λ h. []) (flag_word_fault s.rules s.args_override_self (long_of word) word) (λ h rows n. refl) (flag_word-same s.rules s.args_override_self (long_of word) word)

word-same : (s : Shape) (is_trailing : Bool) (w : Waiting) (word : Text) → Same (word_fault s [] is_trailing w word)
word-same s is_trailing w word = if-same is_trailing (λ h. []) (other_fault s (subcommand_met [] w word) word) (λ h rows n. refl) (other-same s (subcommand_met [] w word) word)

positional-same : (c : List Rule) (again : Bool) (a : Rule) → Same (positional_fault c again a)
positional-same c again a h rows n = if-same (is_pending a h.pending && takes_several a) (λ k. []) (settle_fault c again) (λ k r m. refl) (settle-same c again) h rows n

step-same : (s : Shape) (position : ℕ) (step : Step) → Same (λ h. step_fault s position h step)
step-same s position (next w) = λ h rows n. refl
step-same s position (trailing p) = λ h rows n. refl
step-same s position (subcommand name) = λ h rows n. refl
step-same s position value = at (arg_by_index s.rules position)
  where
    at : (o : Option Rule) → Same (λ h. option_map_or (λ (a : Rule). positional_fault s.rules s.args_override_self a h) o (stray_fault s))
    at None = λ h rows n. refl
    at (Some a) = positional-same s.rules s.args_override_self a

turn-same : (s : Shape) (w : Walk) (word : Text) (rows : List Row) → Near w.held.rows rows → turn_fault s [] w word ≡ turn_fault s [] (with_rows w rows) word
turn-same s w word rows n =
    let met = even-word s.rules [] w.is_trailing w.waiting w.position word w.held rows n in
    let old = word_met s.rules [] w.is_trailing w.waiting w.position word w.held in
    ap₂ (λ (f g : Kinds). cond (is_some w.stopped) [] (or_else f g)) (word-same s w.is_trailing w.waiting word w.held rows n)
    (step-same s w.position old.1 old.0 met.rows met.near ∙ ap (λ (m : Held × Step). step_fault s w.position m.0 m.1) (sym met.is))

-- ---- the end of the words

defaults-same : (rules : List Rule) (xs ys : List Row) → Near xs ys → defaults_fault xs rules ≡ defaults_fault ys rules
unfolding defaults_fault
defaults-same [] xs ys n = refl
defaults-same (a ∷ rules) xs ys n =
    ap₂ or_else (ap (λ (b : Bool). cond (b || is_empty a.defaults) [] (given_default_fault a a.defaults)) (has-same a.id xs ys n))
    (defaults-same rules (with_default xs a) (with_default ys a) (with_default-near a xs ys n))

check-same : (s : Shape) (xs ys : List Row) → Near xs ys → check_fault s xs false ≡ check_fault s ys false
check-same s xs ys n =
    ap₂ (λ (b d : Bool). check_kinds (not false && (s.arg_required_else_help && not b)) (not false && s.subcommand_required) (not (s.subcommand_negates_reqs && false) && d))
    (any-same (λ r. explicit_source r.source) xs ys n)
    (λ i. list_any (λ a. a.required && not (given-same a.id xs ys n i)) s.rules)

given-all : (xs ys : List Row) → Near xs ys → asked_given xs ≡ asked_given ys
given-all xs ys n =
    λ i. with (with (first-same (codes "command") xs ys n i) (named verbs)) (λ v.
    cond (fits v (λ m. first-same (word_of m) xs ys n i)) (asked_by v (λ m. first-same (word_of m) xs ys n i)) None)

end-same : (s : Shape) (h : Held) (rows : List Row) → Near h.rows rows → read_end s h ≡ read_end s (record h { rows = rows })
end-same s h rows n =
    let m = settled-near s.rules h.pending h.rows rows n in
    let d = defaults-near s.rules (settled_rows s.rules h.pending h.rows) (settled_rows s.rules h.pending rows) m in
    ap₂ unless_faulty
    (ap₂ or_else (settle-same s.rules s.args_override_self h rows n)
    (ap₂ or_else (defaults-same s.rules (settled_rows s.rules h.pending h.rows) (settled_rows s.rules h.pending rows) m) (check-same s (finished s.rules h) (finished s.rules (record h { rows = rows })) d)))
    (given-all (finished s.rules h) (finished s.rules (record h { rows = rows })) d)

-- the order of two neighbours changes no reading
pub reading-same : (s : Shape) (words : List Text) (w : Walk) (rows : List Row) → Near w.held.rows rows → reading s w words ≡ reading s (with_rows w rows) words
reading-same s [] w rows n = end-same s w.held rows n
reading-same s (x ∷ xs) w rows n =
    let next = walked-follows s.rules w x rows n in
    ap₂ unless_faulty (turn-same s w x rows n) (reading-same s xs (walked s.rules [] w x) next.rows next.near ∙ ap (λ (v : Walk). reading s v xs) (sym next.is))
