-- An option in two words is read as in one: a value that is complete may be settled at once.
use Rattle.std.proofs.Common.{◌≡◌, ◌⊎◌, ◌∙◌, ◌++◌, ap, ap₂, sym, refl, Bool, true, false, cond, ◌&&◌, ◌||◌, not, ℕ, zero, suc, eqb, List, [], ◌∷◌, length, None, Some, inl, inr, true≢false, codes, arith, append-nil, nat_lt}
use Rattle.std.specs.Prelude.{drop, encode_utf8, slice_get, option_and_then}
use Rattle.std.specs.Option.{is_some, option_map_or}
use Rattle.std.specs.List.{find, fold, list_all}
use Rattle.std.specs.Str.{bytes_eq, chars}
use Rattle.std.specs.declared.option.Option.{Option}
use Rattle.std.proofs.lemmas.Bool.Decides.{eqb_tells}
use Rattle.std.proofs.lemmas.Option.{same_Some}
use Rattle.clap.specs.Words.{Kinds, Row, Rule, Shape, Text}
use Rattle.clap.specs.Kinds.{or_else}
use Rattle.clap.specs.Lexer.{long_of, long_of_rest, short_of, short_of_rest, strip_byte}
use Rattle.clap.specs.Simple.{filled, with_index}
use Rattle.clap.specs.Walk.{Held, Outcome, Step, Waiting, Walk, after_flag, after_step, arg_by_id, arg_by_index, arg_by_long, arg_by_short, bundle_met, bundle_step, default_rows, finished, flag_met, has_row, idle, is_empty, more_values, is_multiple, is_pending, long_met, long_or_other, next, next_position, nothing_held, option, option_met, option_word, plain, positional, pushed, reacted, reading_by, settled, settled_rows, short_or_plain, subcommand_or_other, takes_several, takes_values, to_positional, trailing, used, used_by_id, value, walk_from, walked, with_default, with_values, word_met}
use Rattle.clap.specs.Faults.{bundle_fault, bundle_step_fault, check_fault, defaults_fault, flag_word_fault, flags_fault, long_fault, option_fault, other_fault, positional_fault, react_fault, settle_fault, short_fault, step_fault, stray_fault, turn_fault, use_fault, word_fault}
use Rattle.clap.specs.declared.error.kind.ErrorKind.{ErrorKind}
use Rattle.clap.specs.declared.error.kind.ErrorKind.TheVariants as kind
use Rattle.clap.specs.declared.parser.matches.ValueSource.TheVariants.{CommandLine}
use Rattle.hap_words.specs.declared.table.Name.{Name}
use Rattle.hap_words.specs.declared.table.Name.TheVariants as name
use Rattle.hap_words.specs.declared.table.Verb.{Verb}
use Rattle.hap_words.specs.Asked.{Asked}
use Rattle.hap_words.specs.Laws.{joined, opened, stands_alone}
use Rattle.hap_words.specs.Line.{command_rule, hap_app}
use Rattle.hap_words.specs.Table.{asked, asked_by, asked_given, fits, text_under, unless_faulty, verbs, with, word_of}
use Rattle.hap_words.specs.Texts.{named}
use Rattle.hap_words.proofs.Order.{absent, at, behind, clash, last-place, long-rule, neither, no-subcommand, once-only, one-behind, one-joined, one-place, or-none, reading-stopped, rule_of_name, stray-none, two-behind, unless-none, use-clashes}
use Rattle.hap_words.proofs.Reading.{asked-reading, hap_shape, read_end, reading, reading-front, unless-or}

-- ---- the rules of hap

abbrev command_filled : Rule
command_filled = with_index 1 (filled command_rule)

id-rule : (n : Name) → arg_by_id hap_shape.rules (word_of n) ≡ Some (rule_of_name n)
unfolding hap_shape hap_app
id-rule name.Kind = refl
id-rule name.In = refl
id-rule name.Mod = refl
id-rule name.Sheets = refl
id-rule name.Budget = refl
id-rule name.From = refl
id-rule name.Index = refl
id-rule name.Size = refl
id-rule name.Component = refl

id-command : arg_by_id hap_shape.rules (codes "command") ≡ Some command_filled
unfolding hap_shape hap_app
id-command = refl

no-shorts : (x : ℕ) → arg_by_short hap_shape.rules x ≡ None
unfolding hap_shape hap_app
no-shorts x = refl

no-defaults : list_all (λ (a : Rule). is_empty a.defaults) hap_shape.rules ≡ true
unfolding hap_shape hap_app
no-defaults = refl

-- a word that is no option goes to the command
only-command : (i : ℕ) (a : Rule) → arg_by_index hap_shape.rules i ≡ Some a → a ≡ command_filled
only-command i a e = by (eqb 1 i) (sym (one-place i) ∙ e)
  where
    by : (b : Bool) → cond b (Some command_filled) None ≡ Some a → a ≡ command_filled
    by true f = sym (same_Some command_filled a f)
    by false f = cc

-- ---- words

opened-long : (n : Name) → long_of (opened n) ≡ Some (word_of n, None)
opened-long name.Kind = refl
opened-long name.In = refl
opened-long name.Mod = refl
opened-long name.Sheets = refl
opened-long name.Budget = refl
opened-long name.From = refl
opened-long name.Index = refl
opened-long name.Size = refl
opened-long name.Component = refl

opened-dashes : (n : Name) → bytes_eq (opened n) (45 ∷ 45 ∷ []) ≡ false
opened-dashes name.Kind = refl
opened-dashes name.In = refl
opened-dashes name.Mod = refl
opened-dashes name.Sheets = refl
opened-dashes name.Budget = refl
opened-dashes name.From = refl
opened-dashes name.Index = refl
opened-dashes name.Size = refl
opened-dashes name.Component = refl

joined-verb : (n : Name) (v : Text) → named verbs (joined n v) ≡ None
joined-verb name.Kind v = refl
joined-verb name.In v = refl
joined-verb name.Mod v = refl
joined-verb name.Sheets v = refl
joined-verb name.Budget v = refl
joined-verb name.From v = refl
joined-verb name.Index v = refl
joined-verb name.Size v = refl
joined-verb name.Component v = refl

same-name : (n : Name) → bytes_eq (word_of n) (word_of n) ≡ true
same-name name.Kind = refl
same-name name.In = refl
same-name name.Mod = refl
same-name name.Sheets = refl
same-name name.Budget = refl
same-name name.From = refl
same-name name.Index = refl
same-name name.Size = refl
same-name name.Component = refl

-- a value that may stand alone is no flag
record IsNoFlag (v : Text) : Type 0 where
  dashes : bytes_eq v (45 ∷ 45 ∷ []) ≡ false
  long : long_of v ≡ None
  short : short_of v ≡ None

no-flag : (v : Text) → stands_alone v ≡ true → IsNoFlag v
no-flag [] e = record { dashes = refl; long = refl; short = refl }
no-flag (b ∷ []) e = by (eqb b 45)
  where
    by : (t : Bool) → IsNoFlag (b ∷ [])
    by t = record {
      dashes = and-no (eqb b 45);
      long = long-at (eqb b 45);
      short = short-at (eqb b 45);
    }
      where
        and-no : (t : Bool) → (t && false) ≡ false
        and-no true = refl
        and-no false = refl

        long-at : (t : Bool) → option_and_then long_of_rest (option_and_then (strip_byte 45) (cond t (Some []) None)) ≡ None
        long-at true = refl
        long-at false = refl

        short-at : (t : Bool) → option_and_then short_of_rest (cond t (Some []) None) ≡ None
        short-at true = refl
        short-at false = refl
no-flag (b ∷ d ∷ bs) e = by (eqb b 45) e refl
  where
    by : (t : Bool) → (not t || false) ≡ true → eqb b 45 ≡ t → IsNoFlag (b ∷ d ∷ bs)
    by true f g = absurd (true≢false (sym f))
    by false f g = record {
      dashes = ap (λ (t : Bool). t && bytes_eq (d ∷ bs) (45 ∷ [])) g;
      long = ap (λ (t : Bool). option_and_then long_of_rest (option_and_then (strip_byte 45) (cond t (Some (d ∷ bs)) None))) g;
      short = ap (λ (t : Bool). option_and_then short_of_rest (cond t (Some (d ∷ bs)) None)) g;
    }

-- ---- rows

and-false : (b : Bool) → (b && false) ≡ false
and-false true = refl
and-false false = refl

and-parts : (a b : Bool) → (a && b) ≡ true → (a ≡ true) × (b ≡ true)
and-parts true b h = (refl, h)
and-parts false b h = absurd (true≢false (sym h))

default-none : (a : Rule) (rows : List Row) → is_empty a.defaults ≡ true → with_default rows a ≡ rows
default-none a rows e = by (has_row a.id rows) a.defaults e
  where
    by : (b : Bool) (values : List Text) → is_empty values ≡ true → cond b rows (default_rows a.id (reading_by a) values rows) ≡ rows
    by true values f = refl
    by false [] f = refl
    by false (v ∷ vs) f = elim (eqb_tells (length (v ∷ vs)) 0) [ inl k ↦ absurd (omega (arith, k.1)) | inr k ↦ absurd (true≢false (sym f ∙ k.0)) ]

defaults-none : (rules : List Rule) (rows : List Row) → list_all (λ (a : Rule). is_empty a.defaults) rules ≡ true → fold with_default rows rules ≡ rows
defaults-none [] rows e = refl
defaults-none (a ∷ rules) rows e =
    let k = and-parts (is_empty a.defaults) (list_all (λ (a : Rule). is_empty a.defaults) rules) e in
    ap (λ (rs : List Row). fold with_default rs rules) (default-none a rows k.0) ∙ defaults-none rules rows k.1

find-last : (id : Text) (rows : List Row) (r : Row) → has_row id rows ≡ false → find (λ (q : Row). bytes_eq q.id id) (rows ++ r ∷ []) ≡ find (λ (q : Row). bytes_eq q.id id) (r ∷ [])
find-last id [] r e = refl
find-last id (q ∷ rows) r e =
    let k = neither (bytes_eq q.id id) (has_row id rows) e in
    ap (λ (b : Bool). cond b (Some q) (find (λ (p : Row). bytes_eq p.id id) (rows ++ r ∷ []))) k.0 ∙ find-last id rows r k.1

command-clashes : (x : Text) (rows : List Row) → use_fault false command_filled (x ∷ []) rows ≡ clash (has_row (codes "command") rows)
command-clashes x rows = by (has_row (codes "command") rows)
  where
    by : (b : Bool) → or_else (cond (b && not false) (kind.ArgumentConflict ∷ []) []) [] ≡ clash b
    by true = refl
    by false = refl

-- ---- a complete value is settled at once

module _ (s : Shape)
    (shorts : (x : ℕ) → arg_by_short s.rules x ≡ None)
    (single : (i : ℕ) (a : Rule) → arg_by_index s.rules i ≡ Some a → takes_several a ≡ false) where
  abbrev settle : Held → Kinds
  settle k = settle_fault s.rules s.args_override_self k

  abbrev calm : Held → Held
  calm k = settled s.rules k

  abbrev standing : Bool → Held → ℕ → Walk
  standing is_trailing k position = record { held = k; waiting = idle; position = position; is_trailing = is_trailing; stopped = None }

  placed-settled : (is_trailing : Bool) (w v : Held) (k : Held) (position : ℕ) (x : Text) (xs : List Text) →
      unless_faulty (step_fault s position k value) (reading s (to_positional s.rules (arg_by_index s.rules position) x (standing is_trailing w position) k) xs)
      ≡ unless_faulty (settle k) (unless_faulty (step_fault s position (calm k) value) (reading s (to_positional s.rules (arg_by_index s.rules position) x (standing is_trailing v position) (calm k)) xs))
  placed-settled is_trailing w v k position x xs = by (arg_by_index s.rules position) (single position)
    where
      by : (o : Option Rule) → ((a : Rule) → o ≡ Some a → takes_several a ≡ false) →
          unless_faulty (option_map_or (λ (a : Rule). positional_fault s.rules s.args_override_self a k) o (stray_fault s)) (reading s (to_positional s.rules o x (standing is_trailing w position) k) xs)
          ≡ unless_faulty (settle k) (unless_faulty (option_map_or (λ (a : Rule). positional_fault s.rules s.args_override_self a (calm k)) o (stray_fault s)) (reading s (to_positional s.rules o x (standing is_trailing v position) (calm k)) xs))
      by None one =
          stray-none s (reading s (to_positional s.rules None x (standing is_trailing w position) k) xs)
          ∙ sym (ap (unless_faulty (settle k)) (stray-none s (reading s (to_positional s.rules None x (standing is_trailing v position) (calm k)) xs)) ∙ unless-none (settle k))
      by (Some a) one =
          ap (λ (b : Bool). unless_faulty (cond b [] (settle k)) (reading s (record {
            held = pushed a.id x (cond b k (calm k));
            waiting = cond (is_multiple a) positional idle;
            position = next_position a position;
            is_trailing = is_trailing || a.trailing_var_arg;
            stopped = None;
          }) xs)) (ap (λ (b : Bool). is_pending a k.pending && b) (one a refl) ∙ and-false (is_pending a k.pending))

  end-settled : (k : Held) → read_end s k ≡ unless_faulty (settle k) (read_end s (calm k))
  end-settled k = unless-or (settle k) (or_else (defaults_fault (calm k).rows s.rules) (check_fault s (finished s.rules k) false)) (asked_given (finished s.rules k))

  behind-settled : (k : Held) (position : ℕ) (xs : List Text) → reading s (standing true k position) xs ≡ unless_faulty (settle k) (reading s (standing true (calm k) position) xs)
  unfolding walked
  behind-settled k position [] = end-settled k
  behind-settled k position (x ∷ xs) = placed-settled true k (calm k) k position x xs

  module _ (position : ℕ) (x : Text) (xs : List Text) where
    -- after the word x, whose faults are f and which is met by m
    abbrev after : (Held → Kinds) → (Held → Held × Step) → Held → Option Asked
    after f m k = unless_faulty (or_else (f k) (step_fault s position (m k).0 (m k).1)) (reading s (after_step s.rules x (standing false k position) (m k).0 (m k).1) xs)

    abbrev Settles : (Held → Kinds) → (Held → Held × Step) → Type 0
    Settles f m = (k : Held) → after f m k ≡ unless_faulty (settle k) (after f m (calm k))

    settles-if : (b : Bool) (f g : Held → Kinds) (m n : Held → Held × Step) → Settles f m → Settles g n → Settles (λ k. cond b (f k) (g k)) (λ k. cond b (m k) (n k))
    settles-if true f g m n e d = e
    settles-if false f g m n e d = d

    settles-refused : (fault : ErrorKind) (m : Held → Held × Step) → Settles (λ k. fault ∷ []) m
    settles-refused fault m k = sym (unless-none (settle k))

    settles-next : (f : Held → Kinds) (g : Held → Held) (w : Waiting) → ((k : Held) → f k ≡ or_else (settle k) (f (calm k))) → ((k : Held) → g k ≡ g (calm k)) → Settles f (λ k. (g k, next w))
    settles-next f g w e d k =
        ap₂ (λ (t : Kinds) (h : Held). unless_faulty (or_else t []) (reading s (at h w position) xs)) (e k) (d k)
        ∙ (unless-or (or_else (settle k) (f (calm k))) [] (reading s (at (g (calm k)) w position) xs)
        ∙ (unless-or (settle k) (f (calm k)) (reading s (at (g (calm k)) w position) xs)
        ∙ ap (unless_faulty (settle k)) (sym (unless-or (f (calm k)) [] (reading s (at (g (calm k)) w position) xs)))))

    settles-plain : Settles (λ k. []) (λ k. (k, value))
    settles-plain k = placed-settled false k (calm k) k position x xs

    settles-option : (a : Rule) (v : Option Text) → Settles (option_fault s.rules s.args_override_self a v) (λ k. after_flag s.rules idle x (option_met s.rules a v k).0 (option_met s.rules a v k).1)
    settles-option a (Some v) = settles-next (react_fault s.rules s.args_override_self a (v ∷ [])) (reacted s.rules a (v ∷ [])) idle (λ k. refl) (λ k. refl)
    settles-option a None = settles-next settle (λ k. record (calm k) { pending = Some (a.id, []) }) (option a.id) (λ k. sym (or-none (settle k))) (λ k. refl)

    settles-flag : (a : Rule) (v : Option Text) →
        Settles (λ k. cond (is_some v) (kind.TooManyValues ∷ []) (react_fault s.rules s.args_override_self a [] k)) (λ k. after_flag s.rules idle x (flag_met s.rules a v k).0 (flag_met s.rules a v k).1)
    settles-flag a (Some v) = settles-refused kind.TooManyValues (λ k. after_flag s.rules idle x (flag_met s.rules a (Some v) k).0 (flag_met s.rules a (Some v) k).1)
    settles-flag a None = settles-next (react_fault s.rules s.args_override_self a []) (reacted s.rules a []) idle (λ k. refl) (λ k. refl)

    settles-long : (o : Option Rule) (v : Option Text) → Settles (long_fault s.rules s.args_override_self o v) (λ k. after_flag s.rules idle x (long_met s.rules o v k).0 (long_met s.rules o v k).1)
    settles-long None v = settles-refused kind.UnknownArgument (λ k. after_flag s.rules idle x (long_met s.rules None v k).0 (long_met s.rules None v k).1)
    settles-long (Some a) v = by (takes_values a) (settles-option a v) (settles-flag a v)
      where
        by : (b : Bool) →
            Settles (option_fault s.rules s.args_override_self a v) (λ k. after_flag s.rules idle x (option_met s.rules a v k).0 (option_met s.rules a v k).1) →
            Settles (λ k. cond (is_some v) (kind.TooManyValues ∷ []) (react_fault s.rules s.args_override_self a [] k)) (λ k. after_flag s.rules idle x (flag_met s.rules a v k).0 (flag_met s.rules a v k).1) →
            Settles (λ k. cond b (option_fault s.rules s.args_override_self a v k) (cond (is_some v) (kind.TooManyValues ∷ []) (react_fault s.rules s.args_override_self a [] k)))
            (λ k. after_flag s.rules idle x (cond b (option_met s.rules a v k) (flag_met s.rules a v k)).0 (cond b (option_met s.rules a v k) (flag_met s.rules a v k)).1)
        by true e d = e
        by false e d = d

    -- a bundle of flags is refused, or is none
    bundle-met : (n : ℕ) (flags : Text) (skip : ℕ) →
        ((h : Held) → flags_fault s.rules s.args_override_self n flags skip h ≡ kind.UnknownArgument ∷ [])
        ⊎ (((h : Held) → flags_fault s.rules s.args_override_self n flags skip h ≡ []) × ((h : Held) → bundle_met s.rules n flags skip plain h ≡ (h, plain)))
    unfolding flags_fault bundle_met
    bundle-met zero flags skip = inr (λ h. refl, λ h. refl)
    bundle-met (suc n) flags skip = by (slice_get (chars flags) 0) skip (bundle-met n)
      where
        by : (o : Option ℕ) (j : ℕ) →
            ((t : Text) (i : ℕ) → ((h : Held) → flags_fault s.rules s.args_override_self n t i h ≡ kind.UnknownArgument ∷ [])
            ⊎ (((h : Held) → flags_fault s.rules s.args_override_self n t i h ≡ []) × ((h : Held) → bundle_met s.rules n t i plain h ≡ (h, plain)))) →
            ((h : Held) → bundle_step_fault s.rules s.args_override_self o flags j h (flags_fault s.rules s.args_override_self n) ≡ kind.UnknownArgument ∷ [])
            ⊎ (((h : Held) → bundle_step_fault s.rules s.args_override_self o flags j h (flags_fault s.rules s.args_override_self n) ≡ [])
            × ((h : Held) → bundle_step s.rules o flags j plain h (bundle_met s.rules n) ≡ (h, plain)))
        by None j later = inr (λ h. refl, λ h. refl)
        by (Some c) zero later =
            inl (λ h. ap (λ (o : Option Rule). short_fault s.rules s.args_override_self o (drop (length (encode_utf8 c)) flags) h (flags_fault s.rules s.args_override_self n (drop (length (encode_utf8 c)) flags) 0)) (shorts c))
        by (Some c) (suc j) later = later (drop (length (encode_utf8 c)) flags) j

    settles-short : (o : Option Text) →
        Settles (λ k. option_map_or (λ (flags : Text). bundle_fault s.rules s.args_override_self flags k) o []) (short_or_plain s.rules idle x o)
    settles-short None k = settles-plain k
    settles-short (Some flags) k = elim (bundle-met (length flags) flags k.skip) [
      | inl refuses ↦
          ap (λ (t : Kinds). unless_faulty (or_else t (step_fault s position (m k).0 (m k).1)) (reading s (after_step s.rules x (standing false k position) (m k).0 (m k).1) xs)) (refuses (record k { skip = 0 }))
          ∙ sym (ap (λ (t : Kinds). unless_faulty (settle k) (unless_faulty (or_else t (step_fault s position (m (calm k)).0 (m (calm k)).1)) (reading s (after_step s.rules x (standing false (calm k) position) (m (calm k)).0 (m (calm k)).1) xs))) (refuses (record (calm k) { skip = 0 }))
          ∙ unless-none (settle k))
      | inr passes ↦
          known k (record k { skip = 0 }) (passes.0 (record k { skip = 0 })) (passes.1 (record k { skip = 0 }))
          ∙ (placed-settled false k (calm k) (record k { skip = 0 }) position x xs
          ∙ sym (ap (unless_faulty (settle k)) (known (calm k) (record (calm k) { skip = 0 }) (passes.0 (record (calm k) { skip = 0 })) (passes.1 (record (calm k) { skip = 0 })))))
    ]
      where
        m : Held → Held × Step
        m = short_or_plain s.rules idle x (Some flags)

        known : (w h : Held) → flags_fault s.rules s.args_override_self (length flags) flags k.skip h ≡ [] → bundle_met s.rules (length flags) flags k.skip plain h ≡ (h, plain) →
            unless_faulty (or_else (flags_fault s.rules s.args_override_self (length flags) flags k.skip h)
            (step_fault s position (after_flag s.rules idle x (bundle_met s.rules (length flags) flags k.skip plain h).0 (bundle_met s.rules (length flags) flags k.skip plain h).1).0
            (after_flag s.rules idle x (bundle_met s.rules (length flags) flags k.skip plain h).0 (bundle_met s.rules (length flags) flags k.skip plain h).1).1))
            (reading s (after_step s.rules x (standing false w position) (after_flag s.rules idle x (bundle_met s.rules (length flags) flags k.skip plain h).0 (bundle_met s.rules (length flags) flags k.skip plain h).1).0
            (after_flag s.rules idle x (bundle_met s.rules (length flags) flags k.skip plain h).0 (bundle_met s.rules (length flags) flags k.skip plain h).1).1) xs)
            ≡ unless_faulty (step_fault s position h value) (reading s (to_positional s.rules (arg_by_index s.rules position) x (standing false w position) h) xs)
        known w h none same =
            ap₂ (λ (t : Kinds) (p : Held × Outcome). unless_faulty (or_else t (step_fault s position (after_flag s.rules idle x p.0 p.1).0 (after_flag s.rules idle x p.0 p.1).1))
            (reading s (after_step s.rules x (standing false w position) (after_flag s.rules idle x p.0 p.1).0 (after_flag s.rules idle x p.0 p.1).1) xs)) none same

    settles-flag_word : (o : Option (Text × Option Text)) → Settles (flag_word_fault s.rules s.args_override_self o x) (long_or_other s.rules idle x o)
    settles-flag_word (Some p) = settles-long (arg_by_long s.rules p.0) p.1
    settles-flag_word None = settles-short (short_of x)

    settles-word : Settles (other_fault s None x) (subcommand_or_other s.rules None idle position x)
    settles-word =
        settles-if (bytes_eq x (45 ∷ 45 ∷ [])) (λ k. []) (flag_word_fault s.rules s.args_override_self (long_of x) x) (λ k. (k, trailing position)) (long_or_other s.rules idle x (long_of x))
        (λ k. behind-settled k position xs) (settles-flag_word (long_of x))

  pub standing-settled : (k : Held) (position : ℕ) (xs : List Text) → reading s (standing false k position) xs ≡ unless_faulty (settle k) (reading s (standing false (calm k) position) xs)
  unfolding walked
  standing-settled k position [] = end-settled k
  standing-settled k position (x ∷ xs) = settles-word position x xs k

-- ---- two hyphens in front

single-place : (i : ℕ) (a : Rule) → arg_by_index hap_shape.rules i ≡ Some a → takes_several a ≡ false
single-place i a e = ap takes_several (only-command i a e)

abbrev command_row : Text → Row
command_row x = record { id = codes "command"; values = x ∷ []; count = None; source = Some CommandLine; reading = reading_by command_filled }

used-command : (x : Text) (rows : List Row) → has_row (codes "command") rows ≡ false → used command_filled (x ∷ []) rows ≡ rows ++ command_row x ∷ []
used-command x rows e =
    ap (with_values (codes "command") (reading_by command_filled) CommandLine (x ∷ [])) (absent (codes "command") (λ r. []) [] rows e ∙ append-nil rows)
    ∙ absent (codes "command") (more_values CommandLine (x ∷ [])) (command_row x ∷ []) rows e

-- no command has such a name
command-none : (x : Text) (rows : List Row) → named verbs x ≡ None → has_row (codes "command") rows ≡ false → asked_given (rows ++ command_row x ∷ []) ≡ None
command-none x rows none e =
    let all = rows ++ command_row x ∷ [] in
    ap (λ (o : Option Text). with (with o (named verbs)) (λ v. cond (fits v (text_under all)) (asked_by v (text_under all)) None)) (ap (option_and_then (λ (r : Row). slice_get r.values 0)) (find-last (codes "command") rows (command_row x) e))
    ∙ ap (λ (o : Option Verb). with o (λ v. cond (fits v (text_under all)) (asked_by v (text_under all)) None)) none

end-command : (h : Held) (x : Text) → named verbs x ≡ None → read_end hap_shape (record h { pending = Some (codes "command", x ∷ []) }) ≡ None
end-command h x none = by (has_row (codes "command") h.rows) refl
  where
    by : (b : Bool) → has_row (codes "command") h.rows ≡ b → read_end hap_shape (record h { pending = Some (codes "command", x ∷ []) }) ≡ None
    by b e =
        let held : Held = record h { pending = Some (codes "command", x ∷ []) } in
        let rest = or_else (defaults_fault (settled hap_shape.rules held).rows hap_shape.rules) (check_fault hap_shape (finished hap_shape.rules held) false) in
        let given = asked_given (finished hap_shape.rules held) in
        unless-or (settle_fault hap_shape.rules hap_shape.args_override_self held) rest given
        ∙ (ap (λ (t : Kinds). unless_faulty t (unless_faulty rest given))
        (ap (λ (o : Option Rule). option_map_or (λ (a : Rule). use_fault hap_shape.args_override_self a (x ∷ []) h.rows) o []) id-command
        ∙ (ap (λ (t : Bool). use_fault t command_filled (x ∷ []) h.rows) once-only ∙ command-clashes x h.rows))
        ∙ ended b e rest given (λ f.
        ap asked_given (ap (λ (o : Option Rule). fold with_default (used_by_id o (x ∷ []) h.rows) hap_shape.rules) id-command
        ∙ (defaults-none hap_shape.rules (used command_filled (x ∷ []) h.rows) no-defaults ∙ used-command x h.rows f))
        ∙ command-none x h.rows none f))
      where
        ended : (b : Bool) → has_row (codes "command") h.rows ≡ b → (rest : Kinds) (given : Option Asked) → (has_row (codes "command") h.rows ≡ false → given ≡ None) →
            unless_faulty (clash (has_row (codes "command") h.rows)) (unless_faulty rest given) ≡ None
        ended true e rest given f = ap (λ (t : Bool). unless_faulty (clash t) (unless_faulty rest given)) e
        ended false e rest given f =
            ap (λ (o : Option Asked). unless_faulty (clash (has_row (codes "command") h.rows)) (unless_faulty rest o)) (f e)
            ∙ (ap (unless_faulty (clash (has_row (codes "command") h.rows))) (unless-none rest) ∙ unless-none (clash (has_row (codes "command") h.rows)))

after-joined : (h : Held) (w : Waiting) (position : ℕ) (n : Name) (v : Text) (xs : List Text) (a : Rule) → arg_by_index hap_shape.rules position ≡ Some a →
    reading hap_shape (to_positional hap_shape.rules (Some a) (joined n v) (behind h w position) h) xs ≡ None
after-joined h w position n v [] a e =
    ap (λ (b : Bool). read_end hap_shape (pushed a.id (joined n v) (cond b h (settled hap_shape.rules h)))) (ap (λ (b : Bool). is_pending a h.pending && b) (single-place position a e) ∙ and-false (is_pending a h.pending))
    ∙ (ap (λ (c : Rule). read_end hap_shape (record (settled hap_shape.rules h) { pending = Some (c.id, joined n v ∷ []) })) (only-command position a e)
    ∙ end-command (settled hap_shape.rules h) (joined n v) (joined-verb n v))
after-joined h w position n v (y ∷ ys) a e =
    let placed = to_positional hap_shape.rules (Some a) (joined n v) (behind h w position) h in
    one-behind hap_shape placed.held placed.waiting placed.position y ys (last-place position a e)

joined-behind : (h : Held) (w : Waiting) (position : ℕ) (n : Name) (v : Text) (xs : List Text) → reading hap_shape (behind h w position) (joined n v ∷ xs) ≡ None
unfolding walked
joined-behind h w position n v xs = by (arg_by_index hap_shape.rules position) refl
  where
    by : (o : Option Rule) → arg_by_index hap_shape.rules position ≡ o → reading hap_shape (behind h w position) (joined n v ∷ xs) ≡ None
    by None e = one-behind hap_shape h w position (joined n v) xs e
    by (Some a) e =
        ap (unless_faulty (turn_fault hap_shape [] (behind h w position) (joined n v)))
        (ap (λ (o : Option Rule). reading hap_shape (to_positional hap_shape.rules o (joined n v) (behind h w position) h) xs) e ∙ after-joined h w position n v xs a e)
        ∙ unless-none (turn_fault hap_shape [] (behind h w position) (joined n v))

-- ---- an option in two words

abbrev waiting_for : Name → Held → Held
waiting_for n h = record (settled hap_shape.rules h) { pending = Some (word_of n, []) }

abbrev complete : Name → Text → Held → Held
complete n v h = record (settled hap_shape.rules h) { pending = Some (word_of n, v ∷ []) }

opened-met : (h : Held) (w : Waiting) (position : ℕ) (n : Name) → word_met hap_shape.rules [] false w position (opened n) h ≡ (waiting_for n h, next (option (word_of n)))
opened-met h w position n =
    ap (λ (o : Option Text). subcommand_or_other hap_shape.rules o w position (opened n) h) (no-subcommand w (opened n))
    ∙ (ap (λ (b : Bool). cond {A = Held × Step} b (h, trailing position) (long_or_other hap_shape.rules w (opened n) (long_of (opened n)) h)) (opened-dashes n)
    ∙ (ap (λ (o : Option (Text × Option Text)). long_or_other hap_shape.rules w (opened n) o h) (opened-long n)
    ∙ ap (λ (o : Option Rule). after_flag hap_shape.rules w (opened n) (long_met hap_shape.rules o None h).0 (long_met hap_shape.rules o None h).1) (long-rule n)))

opened-fault : (h : Held) (w : Waiting) (position : ℕ) (n : Name) → turn_fault hap_shape [] (at h w position) (opened n) ≡ settle_fault hap_shape.rules hap_shape.args_override_self h
opened-fault h w position n =
    ap (λ (m : Held × Step). or_else (word_fault hap_shape [] false w (opened n) h) (step_fault hap_shape position m.0 m.1)) (opened-met h w position n)
    ∙ (or-none (word_fault hap_shape [] false w (opened n) h)
    ∙ (ap (λ (o : Option Text). other_fault hap_shape o (opened n) h) (no-subcommand w (opened n))
    ∙ (ap (λ (b : Bool). cond b [] (flag_word_fault hap_shape.rules hap_shape.args_override_self (long_of (opened n)) (opened n) h)) (opened-dashes n)
    ∙ (ap (λ (o : Option (Text × Option Text)). flag_word_fault hap_shape.rules hap_shape.args_override_self o (opened n) h) (opened-long n)
    ∙ ap (λ (o : Option Rule). long_fault hap_shape.rules hap_shape.args_override_self o None h) (long-rule n)))))

opened-walked : (h : Held) (w : Waiting) (position : ℕ) (n : Name) → walked hap_shape.rules [] (at h w position) (opened n) ≡ at (waiting_for n h) (option (word_of n)) position
unfolding walked
opened-walked h w position n = ap (λ (m : Held × Step). after_step hap_shape.rules (opened n) (at h w position) m.0 m.1) (opened-met h w position n)

value-met : (h : Held) (position : ℕ) (n : Name) (v : Text) → IsNoFlag v → word_met hap_shape.rules [] false (option (word_of n)) position v (waiting_for n h) ≡ (complete n v h, next idle)
value-met h position n v flag =
    ap (λ (b : Bool). cond {A = Held × Step} b (waiting_for n h, trailing position) (long_or_other hap_shape.rules (option (word_of n)) v (long_of v) (waiting_for n h))) flag.dashes
    ∙ (ap (λ (o : Option (Text × Option Text)). long_or_other hap_shape.rules (option (word_of n)) v o (waiting_for n h)) flag.long
    ∙ (ap (λ (o : Option Text). short_or_plain hap_shape.rules (option (word_of n)) v o (waiting_for n h)) flag.short
    ∙ (ap (λ (o : Option Rule). ((option_word o (word_of n) v (waiting_for n h)).0, next (option_word o (word_of n) v (waiting_for n h)).1)) (id-rule n)
    ∙ ap (λ (b : Bool). (complete n v h, next (cond (nat_lt (cond b 1 0) 1) (option (word_of n)) idle))) (same-name n))))

value-fault : (h : Held) (position : ℕ) (n : Name) (v : Text) → IsNoFlag v → turn_fault hap_shape [] (at (waiting_for n h) (option (word_of n)) position) v ≡ []
value-fault h position n v flag =
    ap (λ (m : Held × Step). or_else (word_fault hap_shape [] false (option (word_of n)) v (waiting_for n h)) (step_fault hap_shape position m.0 m.1)) (value-met h position n v flag)
    ∙ (or-none (word_fault hap_shape [] false (option (word_of n)) v (waiting_for n h))
    ∙ (ap (λ (b : Bool). cond b [] (flag_word_fault hap_shape.rules hap_shape.args_override_self (long_of v) v (waiting_for n h))) flag.dashes
    ∙ (ap (λ (o : Option (Text × Option Text)). flag_word_fault hap_shape.rules hap_shape.args_override_self o v (waiting_for n h)) flag.long
    ∙ ap (λ (o : Option Text). option_map_or (λ (flags : Text). bundle_fault hap_shape.rules hap_shape.args_override_self flags (waiting_for n h)) o []) flag.short)))

value-walked : (h : Held) (position : ℕ) (n : Name) (v : Text) → IsNoFlag v → walked hap_shape.rules [] (at (waiting_for n h) (option (word_of n)) position) v ≡ at (complete n v h) idle position
unfolding walked
value-walked h position n v flag = ap (λ (m : Held × Step). after_step hap_shape.rules v (at (waiting_for n h) (option (word_of n)) position) m.0 m.1) (value-met h position n v flag)

-- the complete option, settled, is the option in one word
complete-settled : (h : Held) (position : ℕ) (n : Name) (v : Text) (xs : List Text) →
    reading hap_shape (at (complete n v h) idle position) xs
    ≡ unless_faulty (clash (has_row (word_of n) (settled_rows hap_shape.rules h.pending h.rows))) (reading hap_shape (at (reacted hap_shape.rules (rule_of_name n) (v ∷ []) h) idle position) xs)
complete-settled h position n v xs =
    let rows = settled_rows hap_shape.rules h.pending h.rows in
    standing-settled hap_shape no-shorts single-place (complete n v h) position xs
    ∙ (ap (λ (o : Option Rule). unless_faulty (option_map_or (λ (a : Rule). use_fault hap_shape.args_override_self a (v ∷ []) rows) o [])
    (reading hap_shape (at (record (settled hap_shape.rules h) { rows = used_by_id o (v ∷ []) rows; pending = None }) idle position) xs)) (id-rule n)
    ∙ ap (λ (t : Kinds). unless_faulty t (reading hap_shape (at (reacted hap_shape.rules (rule_of_name n) (v ∷ []) h) idle position) xs))
    (ap (λ (b : Bool). use_fault b (rule_of_name n) (v ∷ []) rows) once-only ∙ use-clashes n v rows))

form-at : (h : Held) (w : Waiting) (position : ℕ) (is_trailing : Bool) (stopped : Option (Text × List Text)) (n : Name) (v : Text) (xs : List Text) → IsNoFlag v →
    reading hap_shape (record { held = h; waiting = w; position = position; is_trailing = is_trailing; stopped = stopped }) (opened n ∷ v ∷ xs)
    ≡ reading hap_shape (record { held = h; waiting = w; position = position; is_trailing = is_trailing; stopped = stopped }) (joined n v ∷ xs)
form-at h w position is_trailing (Some p) n v xs flag =
    reading-stopped hap_shape (opened n ∷ v ∷ xs) h w position is_trailing p ∙ sym (reading-stopped hap_shape (joined n v ∷ xs) h w position is_trailing p)
form-at h w position true None n v xs flag =
    two-behind hap_shape long-rule once-only last-place h w position (opened n) v xs ∙ sym (joined-behind h w position n v xs)
form-at h w position false None n v xs flag =
    let before = settle_fault hap_shape.rules hap_shape.args_override_self h in
    let rows = settled_rows hap_shape.rules h.pending h.rows in
    let rest = reading hap_shape (at (reacted hap_shape.rules (rule_of_name n) (v ∷ []) h) idle position) xs in
    ap₂ unless_faulty (opened-fault h w position n) (ap (λ (k : Walk). reading hap_shape k (v ∷ xs)) (opened-walked h w position n))
    ∙ (ap (unless_faulty before) (ap₂ unless_faulty (value-fault h position n v flag) (ap (λ (k : Walk). reading hap_shape k xs) (value-walked h position n v flag)) ∙ complete-settled h position n v xs)
    ∙ (sym (unless-or before (clash (has_row (word_of n) rows)) rest)
    ∙ sym (one-joined hap_shape long-rule once-only last-place h w position n v xs)))

pub form-free : (before after : List Text) (n : Name) (v : Text) → stands_alone v ≡ true → asked (before ++ opened n ∷ v ∷ after) ≡ asked (before ++ joined n v ∷ after)
form-free before after n v e =
    asked-reading (before ++ opened n ∷ v ∷ after)
    ∙ (reading-front hap_shape before (opened n ∷ v ∷ after) (joined n v ∷ after) (λ w. form-at w.held w.waiting w.position w.is_trailing w.stopped n v after (no-flag v e)) (walk_from nothing_held)
    ∙ sym (asked-reading (before ++ joined n v ∷ after)))
