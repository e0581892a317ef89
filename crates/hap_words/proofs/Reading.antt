-- The reading of words, one word after the other.
use Rattle.std.proofs.Common.{◌≡◌, ◌∙◌, ◌++◌, ap, sym, refl, Bool, true, false, cond, List, [], ◌∷◌, None, Some}
use Rattle.std.specs.Prelude.{drop}
use Rattle.std.specs.List.{fold}
use Rattle.std.specs.Option.{is_some}
use Rattle.std.specs.declared.option.Option.{Option}
use Rattle.clap.specs.Words.{App, Shape, Text, Kinds, built, fault_of, matches_of}
use Rattle.clap.specs.Kinds.{or_else}
use Rattle.clap.specs.Simple.{entered, names_of}
use Rattle.clap.specs.Walk.{Held, Walk, finished, nothing_held, rows_after, settled, walk, walk_from, walked}
use Rattle.clap.specs.Faults.{built_fault, check_fault, defaults_fault, entered_fault, level_fault, settle_fault, turn_fault, walk_fault}
use Rattle.hap_words.specs.Asked.{Asked}
use Rattle.hap_words.specs.Line.{hap_app}
use Rattle.hap_words.specs.Table.{asked, asked_given, unless_faulty}

-- what refuses the words at their end
abbrev pub end_fault : Shape → Held → Kinds
end_fault s h =
    or_else (settle_fault s.rules s.args_override_self h) (or_else (defaults_fault (settled s.rules h).rows s.rules) (check_fault s (finished s.rules h) false))

abbrev pub read_end : Shape → Held → Option Asked
read_end s h = unless_faulty (end_fault s h) (asked_given (finished s.rules h))

-- what words ask for, from where the walk stands before them
abbrev pub reading : Shape → Walk → List Text → Option Asked
reading s w [] = read_end s w.held
reading s w (x ∷ xs) = unless_faulty (turn_fault s [] w x) (reading s (walked s.rules [] w x) xs)

pub unless-or : (t r : Kinds) (o : Option Asked) → unless_faulty (or_else t r) o ≡ unless_faulty t (unless_faulty r o)
unless-or [] r o = refl
unless-or (k ∷ t) r o = refl

reading-from : (s : Shape) (w : Walk) (words : List Text) →
    unless_faulty (or_else (walk_fault s [] w words) (end_fault s (fold (walked s.rules []) w words).held)) (asked_given (finished s.rules (fold (walked s.rules []) w words).held))
    ≡ reading s w words
unfolding walk_fault
reading-from s w [] = refl
reading-from s w (x ∷ xs) =
    let next = walked s.rules [] w x in
    let end = (fold (walked s.rules []) next xs).held in
    unless-or (or_else (turn_fault s [] w x) (walk_fault s [] next xs)) (end_fault s end) (asked_given (finished s.rules end))
    ∙ (unless-or (turn_fault s [] w x) (walk_fault s [] next xs) (unless_faulty (end_fault s end) (asked_given (finished s.rules end)))
    ∙ ap (unless_faulty (turn_fault s [] w x)) (sym (unless-or (walk_fault s [] next xs) (end_fault s end) (asked_given (finished s.rules end))) ∙ reading-from s next xs))

-- ---- the command of hap

unfoldable pub hap_shape : Shape
hap_shape = (built hap_app).top

built-is : built hap_app ≡ record { top = hap_shape; subs = [] }
unfolding hap_app hap_shape
built-is = refl

no-binary : hap_app.top.no_binary_name ≡ true
unfolding hap_app
no-binary = refl

abbrev alone : Shape → App
alone s = record { top = s; subs = [] }

-- no subcommand is entered
level-alone : (s : Shape) (words : List Text) (stop : Option (Text × List Text)) →
    level_fault s [] nothing_held words (is_some (entered (alone s) stop)) (entered_fault (alone s) stop)
    ≡ or_else (walk_fault s [] (walk_from nothing_held) words) (end_fault s (walk s.rules [] nothing_held words).held)
level-alone s words None = refl
level-alone s words (Some p) = refl

fault-is : (words : List Text) → fault_of hap_app words ≡ or_else (walk_fault hap_shape [] (walk_from nothing_held) words) (end_fault hap_shape (walk hap_shape.rules [] nothing_held words).held)
fault-is words =
    ap (λ (b : Bool). built_fault (built hap_app) nothing_held (cond b words (drop 1 words))) no-binary
    ∙ (ap (λ (a : App). built_fault a nothing_held words) built-is
    ∙ level-alone hap_shape words (walk hap_shape.rules [] nothing_held words).stopped)

matches-are : (words : List Text) → matches_of hap_app words ≡ finished hap_shape.rules (walk hap_shape.rules [] nothing_held words).held
matches-are words =
    ap (λ (b : Bool). rows_after (built hap_app).top.rules (names_of (built hap_app)) (cond b words (drop 1 words))) no-binary
    ∙ ap (λ (a : App). rows_after a.top.rules (names_of a) words) built-is

pub asked-reading : (words : List Text) → asked words ≡ reading hap_shape (walk_from nothing_held) words
asked-reading words =
    ap (λ (faults : Kinds). unless_faulty faults (asked_given (matches_of hap_app words))) (fault-is words)
    ∙ (ap (λ rows. unless_faulty (or_else (walk_fault hap_shape [] (walk_from nothing_held) words) (end_fault hap_shape (walk hap_shape.rules [] nothing_held words).held)) (asked_given rows)) (matches-are words)
    ∙ reading-from hap_shape (walk_from nothing_held) words)

-- ---- words in front

pub reading-front : (s : Shape) (before xs ys : List Text) → ((w : Walk) → reading s w xs ≡ reading s w ys) → (w : Walk) → reading s w (before ++ xs) ≡ reading s w (before ++ ys)
reading-front s [] xs ys h w = h w
reading-front s (x ∷ before) xs ys h w = ap (unless_faulty (turn_fault s [] w x)) (reading-front s before xs ys h (walked s.rules [] w x))
