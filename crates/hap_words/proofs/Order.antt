-- Two options that stand side by side are read the same in either order.
use Rattle.std.proofs.Common.{◌≡◌, ◌≢◌, ◌⊎◌, ◌∙◌, ◌++◌, ap, ap₂, sym, refl, Bool, true, false, cond, ◌&&◌, ◌||◌, not, ℕ, eqb, List, [], ◌∷◌, map, None, Some, inl, inr, true≢false, append_assoc, append-nil}
use Rattle.std.specs.Option.{option_map_or}
use Rattle.std.specs.Str.{bytes_eq}
use Rattle.std.specs.declared.option.Option.{Option}
use Rattle.std.proofs.lemmas.Bool.Decides.{eqb_tells}
use Rattle.std.proofs.lemmas.Option.{same_Some}
use Rattle.std.proofs.lemmas.Slice.Eq.{bytes_eq-Decides}
use Rattle.clap.specs.Words.{Kinds, Row, Rule, Shape, Text}
use Rattle.clap.specs.Kinds.{or_else}
use Rattle.clap.specs.Lexer.{long_of}
use Rattle.clap.specs.Simple.{filled, with_index}
use Rattle.clap.specs.Walk.{Held, Step, Waiting, Walk, after_flag, after_step, arg_by_index, arg_by_long, at_row, has_row, idle, long_met, long_or_other, more_values, next, next_position, nothing_held, option, positional, reacted, reading_by, settled_rows, subcommand_met, subcommand_or_other, to_positional, trailing, used, walk_from, walked, with_values, word_met}
use Rattle.clap.specs.Faults.{flag_word_fault, long_fault, other_fault, positional_fault, react_fault, settle_fault, step_fault, stray_fault, turn_fault, use_fault, word_fault}
use Rattle.clap.specs.declared.error.kind.ErrorKind.TheVariants as kind
use Rattle.clap.specs.declared.parser.matches.ValueSource.TheVariants.{CommandLine}
use Rattle.hap_words.specs.declared.table.Name.{Name}
use Rattle.hap_words.specs.declared.table.Name.TheVariants as name
use Rattle.hap_words.specs.Asked.{Asked}
use Rattle.hap_words.specs.Laws.{joined}
use Rattle.hap_words.specs.Line.{command_rule, hap_app, option_rule}
use Rattle.hap_words.specs.Table.{asked, names, number_of_name, unless_faulty, word_of}
use Rattle.hap_words.specs.Texts.{named}
use Rattle.hap_words.proofs.Following.{reading-same}
use Rattle.hap_words.proofs.Reading.{asked-reading, hap_shape, read_end, reading, reading-front}

-- ---- the options of hap

abbrev pub rule_of_name : Name → Rule
rule_of_name n = filled (option_rule (word_of n))

pub long-rule : (n : Name) → arg_by_long hap_shape.rules (word_of n) ≡ Some (rule_of_name n)
unfolding hap_shape hap_app
long-rule name.Kind = refl
long-rule name.In = refl
long-rule name.Mod = refl
long-rule name.Sheets = refl
long-rule name.Budget = refl
long-rule name.From = refl
long-rule name.Index = refl
long-rule name.Size = refl
long-rule name.Component = refl

pub once-only : hap_shape.args_override_self ≡ false
unfolding hap_shape hap_app
once-only = refl

-- only the first word that is no option has a place
pub one-place : (i : ℕ) → arg_by_index hap_shape.rules i ≡ cond (eqb 1 i) (Some (with_index 1 (filled command_rule))) None
unfolding hap_shape hap_app
one-place i = refl

pub last-place : (i : ℕ) (a : Rule) → arg_by_index hap_shape.rules i ≡ Some a → arg_by_index hap_shape.rules (next_position a i) ≡ None
last-place i a e = at (eqb 1 i) (eqb_tells 1 i) (sym (one-place i) ∙ e)
  where
    at : (b : Bool) → ((eqb 1 i ≡ true) × (1 ≡ i)) ⊎ ((eqb 1 i ≡ false) × (1 ≢ i)) → cond (eqb 1 i) (Some (with_index 1 (filled command_rule))) None ≡ Some a → arg_by_index hap_shape.rules (next_position a i) ≡ None
    at b (inl k) f =
        let same : with_index 1 (filled command_rule) ≡ a = same_Some (with_index 1 (filled command_rule)) a (sym (ap (λ (t : Bool). cond t (Some (with_index 1 (filled command_rule))) None) k.0) ∙ f) in
        ap₂ (λ (x : Rule) (j : ℕ). arg_by_index hap_shape.rules (next_position x j)) (sym same) (sym k.1) ∙ one-place 2
    at b (inr k) f = absurd (none (sym (ap (λ (t : Bool). cond t (Some (with_index 1 (filled command_rule))) None) k.0) ∙ f))
      where
        none : None ≡ Some a → ⊥
        none g = cc

-- ---- words of options

pub no-subcommand : (w : Waiting) (word : Text) → subcommand_met [] w word ≡ None
no-subcommand idle word = refl
no-subcommand (option id) word = refl
no-subcommand positional word = refl

no-dashes : (n : Name) (v : Text) → bytes_eq (joined n v) (45 ∷ 45 ∷ []) ≡ false
no-dashes name.Kind v = refl
no-dashes name.In v = refl
no-dashes name.Mod v = refl
no-dashes name.Sheets v = refl
no-dashes name.Budget v = refl
no-dashes name.From v = refl
no-dashes name.Index v = refl
no-dashes name.Size v = refl
no-dashes name.Component v = refl

long-joined : (n : Name) (v : Text) → long_of (joined n v) ≡ Some (word_of n, Some v)
long-joined name.Kind v = refl
long-joined name.In v = refl
long-joined name.Mod v = refl
long-joined name.Sheets v = refl
long-joined name.Budget v = refl
long-joined name.From v = refl
long-joined name.Index v = refl
long-joined name.Size v = refl
long-joined name.Component v = refl

name-back : (n : Name) → named (map (λ m. (word_of m, m)) names) (word_of n) ≡ Some n
name-back name.Kind = refl
name-back name.In = refl
name-back name.Mod = refl
name-back name.Sheets = refl
name-back name.Budget = refl
name-back name.From = refl
name-back name.Index = refl
name-back name.Size = refl
name-back name.Component = refl

words-differ : (m n : Name) → eqb (number_of_name m) (number_of_name n) ≡ false → bytes_eq (word_of m) (word_of n) ≡ false
words-differ m n differ = at (bytes_eq (word_of m) (word_of n)) refl
  where
    at : (b : Bool) → bytes_eq (word_of m) (word_of n) ≡ b → b ≡ false
    at false e = refl
    at true e =
        let same : m ≡ n = same_Some m n (sym (name-back m) ∙ (ap (named (map (λ k. (word_of k, k)) names)) ((bytes_eq-Decides (word_of m) (word_of n)).0 e) ∙ name-back n)) in
        absurd (elim (eqb_tells (number_of_name m) (number_of_name n)) [ inl k ↦ true≢false (sym k.0 ∙ differ) | inr k ↦ k.1 (ap number_of_name same) ])

-- ---- rows

or-false : (b : Bool) → (b || false) ≡ b
or-false true = refl
or-false false = refl

or-assoc : (a b c : Bool) → (a || (b || c)) ≡ ((a || b) || c)
or-assoc true b c = refl
or-assoc false b c = refl

pub neither : (a b : Bool) → (a || b) ≡ false → (a ≡ false) × (b ≡ false)
neither true b e = absurd (true≢false e)
neither false b e = (refl, e)

pub absent : (id : Text) (change : Row → List Row) (missing rows : List Row) → has_row id rows ≡ false → at_row id change missing rows ≡ rows ++ missing
absent id change missing [] e = refl
absent id change missing (r ∷ rs) e =
    let k = neither (bytes_eq r.id id) (has_row id rs) e in
    ap (λ (b : Bool). cond b (change r ++ rs) (r ∷ at_row id change missing rs)) k.0 ∙ ap (λ (xs : List Row). r ∷ xs) (absent id change missing rs k.1)

has-more : (id : Text) (rows : List Row) (r : Row) → has_row id (rows ++ r ∷ []) ≡ (has_row id rows || bytes_eq r.id id)
has-more id [] r = or-false (bytes_eq r.id id)
has-more id (q ∷ rows) r = ap (λ (b : Bool). bytes_eq q.id id || b) (has-more id rows r) ∙ or-assoc (bytes_eq q.id id) (has_row id rows) (bytes_eq r.id id)

abbrev row_of_name : Name → Text → Row
row_of_name n v = record { id = word_of n; values = v ∷ []; count = None; source = Some CommandLine; reading = reading_by (rule_of_name n) }

used-new : (n : Name) (v : Text) (rows : List Row) → has_row (word_of n) rows ≡ false → used (rule_of_name n) (v ∷ []) rows ≡ rows ++ row_of_name n v ∷ []
used-new n v rows e =
    ap (with_values (word_of n) (reading_by (rule_of_name n)) CommandLine (v ∷ [])) (absent (word_of n) (λ r. []) [] rows e ∙ append-nil rows)
    ∙ absent (word_of n) (more_values CommandLine (v ∷ [])) (row_of_name n v ∷ []) rows e

-- ---- faults

abbrev pub clash : Bool → Kinds
clash b = cond b (kind.ArgumentConflict ∷ []) []

pub use-clashes : (n : Name) (v : Text) (rows : List Row) → use_fault false (rule_of_name n) (v ∷ []) rows ≡ clash (has_row (word_of n) rows)
use-clashes n v rows = at (has_row (word_of n) rows)
  where
    at : (b : Bool) → or_else (cond (b && not false) (kind.ArgumentConflict ∷ []) []) [] ≡ clash b
    at true = refl
    at false = refl

pub or-none : (k : Kinds) → or_else k [] ≡ k
or-none [] = refl
or-none (x ∷ k) = refl

pub unless-none : (k : Kinds) → unless_faulty k None ≡ None
unless-none [] = refl
unless-none (x ∷ k) = refl

pub stray-none : (s : Shape) (o : Option Asked) → unless_faulty (stray_fault s) o ≡ None
stray-none s o = at s.is_leaf
  where
    at : (b : Bool) → unless_faulty (cond b (kind.UnknownArgument ∷ []) (kind.UnknownArgument ∷ kind.InvalidSubcommand ∷ [])) o ≡ None
    at true = refl
    at false = refl

-- two uses in either order: a and b say that the rows before have the names, a2 and b2 that those have after the other use
either-order : (f : Kinds) (a b a2 b2 : Bool) (x y : Option Asked) → (a ≡ false → b2 ≡ b) → (b ≡ false → a2 ≡ a) → (a ≡ false → b ≡ false → x ≡ y)
    → unless_faulty (or_else f (clash a)) (unless_faulty (clash b2) x) ≡ unless_faulty (or_else f (clash b)) (unless_faulty (clash a2) y)
either-order (k ∷ f) a b a2 b2 x y h g e = refl
either-order [] a b a2 b2 x y h g e = by a b h g e
  where
    by : (a b : Bool) → (a ≡ false → b2 ≡ b) → (b ≡ false → a2 ≡ a) → (a ≡ false → b ≡ false → x ≡ y) → unless_faulty (clash a) (unless_faulty (clash b2) x) ≡ unless_faulty (clash b) (unless_faulty (clash a2) y)
    by true true h g e = refl
    by true false h g e = sym (ap (λ (t : Bool). unless_faulty (clash t) y) (g refl))
    by false true h g e = ap (λ (t : Bool). unless_faulty (clash t) x) (h refl)
    by false false h g e = ap (λ (t : Bool). unless_faulty (clash t) x) (h refl) ∙ (e refl refl ∙ sym (ap (λ (t : Bool). unless_faulty (clash t) y) (g refl)))

-- ---- the walk

abbrev pub at : Held → Waiting → ℕ → Walk
at h w position = record { held = h; waiting = w; position = position; is_trailing = false; stopped = None }

-- behind two hyphens
abbrev pub behind : Held → Waiting → ℕ → Walk
behind h w position = record { held = h; waiting = w; position = position; is_trailing = true; stopped = None }

-- where a subcommand was met the words are left to it
pub reading-stopped : (s : Shape) (words : List Text) (h : Held) (w : Waiting) (position : ℕ) (is_trailing : Bool) (p : Text × List Text) →
    reading s (record { held = h; waiting = w; position = position; is_trailing = is_trailing; stopped = Some p }) words ≡ read_end s h
unfolding walked
reading-stopped s [] h w position is_trailing p = refl
reading-stopped s (x ∷ xs) h w position is_trailing p = reading-stopped s xs h w position is_trailing (p.0, p.1 ++ x ∷ [])

pub one-behind : (s : Shape) (h : Held) (w : Waiting) (position : ℕ) (x : Text) (xs : List Text) → arg_by_index s.rules position ≡ None → reading s (behind h w position) (x ∷ xs) ≡ None
one-behind s h w position x xs e =
    ap (λ (o : Option Rule). unless_faulty (option_map_or (λ (a : Rule). positional_fault s.rules s.args_override_self a h) o (stray_fault s)) (reading s (walked s.rules [] (behind h w position) x) xs)) e
    ∙ stray-none s (reading s (walked s.rules [] (behind h w position) x) xs)

module _ (s : Shape)
    (long : (n : Name) → arg_by_long s.rules (word_of n) ≡ Some (rule_of_name n))
    (once : s.args_override_self ≡ false)
    (last : (i : ℕ) (a : Rule) → arg_by_index s.rules i ≡ Some a → arg_by_index s.rules (next_position a i) ≡ None) where
  pub two-behind : (h : Held) (w : Waiting) (position : ℕ) (x y : Text) (xs : List Text) → reading s (behind h w position) (x ∷ y ∷ xs) ≡ None
  unfolding walked
  two-behind h w position x y xs = by (arg_by_index s.rules position) refl
    where
      by : (o : Option Rule) → arg_by_index s.rules position ≡ o → reading s (behind h w position) (x ∷ y ∷ xs) ≡ None
      by None e = one-behind s h w position x (y ∷ xs) e
      by (Some a) e =
          let placed = to_positional s.rules (Some a) x (behind h w position) h in
          ap (unless_faulty (turn_fault s [] (behind h w position) x))
          (ap (λ (o : Option Rule). reading s (to_positional s.rules o x (behind h w position) h) (y ∷ xs)) e
          ∙ one-behind s placed.held placed.waiting placed.position y xs (last position a e))
          ∙ unless-none (turn_fault s [] (behind h w position) x)

  joined-met : (h : Held) (w : Waiting) (position : ℕ) (n : Name) (v : Text) → word_met s.rules [] false w position (joined n v) h ≡ (reacted s.rules (rule_of_name n) (v ∷ []) h, next idle)
  joined-met h w position n v =
      ap (λ (o : Option Text). subcommand_or_other s.rules o w position (joined n v) h) (no-subcommand w (joined n v))
      ∙ (ap (λ (b : Bool). cond {A = Held × Step} b (h, trailing position) (long_or_other s.rules w (joined n v) (long_of (joined n v)) h)) (no-dashes n v)
      ∙ (ap (λ (o : Option (Text × Option Text)). long_or_other s.rules w (joined n v) o h) (long-joined n v)
      ∙ ap (λ (o : Option Rule). after_flag s.rules w (joined n v) (long_met s.rules o (Some v) h).0 (long_met s.rules o (Some v) h).1) (long n)))

  joined-walked : (h : Held) (w : Waiting) (position : ℕ) (n : Name) (v : Text) → walked s.rules [] (at h w position) (joined n v) ≡ at (reacted s.rules (rule_of_name n) (v ∷ []) h) idle position
  unfolding walked
  joined-walked h w position n v = ap (λ (m : Held × Step). after_step s.rules (joined n v) (at h w position) m.0 m.1) (joined-met h w position n v)

  joined-word : (h : Held) (w : Waiting) (n : Name) (v : Text) → word_fault s [] false w (joined n v) h ≡ react_fault s.rules s.args_override_self (rule_of_name n) (v ∷ []) h
  joined-word h w n v =
      ap (λ (o : Option Text). other_fault s o (joined n v) h) (no-subcommand w (joined n v))
      ∙ (ap (λ (b : Bool). cond b [] (flag_word_fault s.rules s.args_override_self (long_of (joined n v)) (joined n v) h)) (no-dashes n v)
      ∙ (ap (λ (o : Option (Text × Option Text)). flag_word_fault s.rules s.args_override_self o (joined n v) h) (long-joined n v)
      ∙ ap (λ (o : Option Rule). long_fault s.rules s.args_override_self o (Some v) h) (long n)))

  joined-fault : (h : Held) (w : Waiting) (position : ℕ) (n : Name) (v : Text) → turn_fault s [] (at h w position) (joined n v) ≡ react_fault s.rules s.args_override_self (rule_of_name n) (v ∷ []) h
  joined-fault h w position n v =
      ap (λ (m : Held × Step). or_else (word_fault s [] false w (joined n v) h) (step_fault s position m.0 m.1)) (joined-met h w position n v)
      ∙ (or-none (word_fault s [] false w (joined n v) h) ∙ joined-word h w n v)

  pub one-joined : (h : Held) (w : Waiting) (position : ℕ) (n : Name) (v : Text) (xs : List Text) →
      reading s (at h w position) (joined n v ∷ xs)
      ≡ unless_faulty (or_else (settle_fault s.rules s.args_override_self h) (clash (has_row (word_of n) (settled_rows s.rules h.pending h.rows)))) (reading s (at (reacted s.rules (rule_of_name n) (v ∷ []) h) idle position) xs)
  one-joined h w position n v xs =
      ap₂ unless_faulty
      (joined-fault h w position n v ∙ ap (or_else (settle_fault s.rules s.args_override_self h))
      (ap (λ (b : Bool). use_fault b (rule_of_name n) (v ∷ []) (settled_rows s.rules h.pending h.rows)) once ∙ use-clashes n v (settled_rows s.rules h.pending h.rows)))
      (ap (λ (k : Walk). reading s k xs) (joined-walked h w position n v))

  -- what was used before tells whether a row has another name
  has-other : (m n : Name) (u : Text) (rows : List Row) → bytes_eq (word_of m) (word_of n) ≡ false → has_row (word_of m) rows ≡ false → has_row (word_of n) (used (rule_of_name m) (u ∷ []) rows) ≡ has_row (word_of n) rows
  has-other m n u rows differ none =
      ap (has_row (word_of n)) (used-new m u rows none)
      ∙ (has-more (word_of n) rows (row_of_name m u)
      ∙ (ap (λ (b : Bool). has_row (word_of n) rows || b) differ ∙ or-false (has_row (word_of n) rows)))

  both-used : (m n : Name) (u v : Text) (rows : List Row) → bytes_eq (word_of m) (word_of n) ≡ false → has_row (word_of m) rows ≡ false → has_row (word_of n) rows ≡ false
      → used (rule_of_name n) (v ∷ []) (used (rule_of_name m) (u ∷ []) rows) ≡ rows ++ row_of_name m u ∷ row_of_name n v ∷ []
  both-used m n u v rows differ none other =
      used-new n v (used (rule_of_name m) (u ∷ []) rows) (has-other m n u rows differ none ∙ other)
      ∙ (ap (λ (rs : List Row). rs ++ row_of_name n v ∷ []) (used-new m u rows none) ∙ append_assoc rows (row_of_name m u ∷ []) (row_of_name n v ∷ []))

  two-joined : (h : Held) (w : Waiting) (position : ℕ) (m n : Name) (u v : Text) (xs : List Text) → bytes_eq (word_of m) (word_of n) ≡ false → bytes_eq (word_of n) (word_of m) ≡ false →
      reading s (at h w position) (joined m u ∷ joined n v ∷ xs) ≡ reading s (at h w position) (joined n v ∷ joined m u ∷ xs)
  two-joined h w position m n u v xs differ differ2 =
      let rows = settled_rows s.rules h.pending h.rows in
      let first = reacted s.rules (rule_of_name m) (u ∷ []) h in
      let second = reacted s.rules (rule_of_name n) (v ∷ []) h in
      let before = settle_fault s.rules s.args_override_self h in
      one-joined h w position m u (joined n v ∷ xs)
      ∙ (ap (unless_faulty (or_else before (clash (has_row (word_of m) rows)))) (one-joined first idle position n v xs)
      ∙ (either-order before (has_row (word_of m) rows) (has_row (word_of n) rows) (has_row (word_of m) second.rows) (has_row (word_of n) first.rows)
      (reading s (at (reacted s.rules (rule_of_name n) (v ∷ []) first) idle position) xs) (reading s (at (reacted s.rules (rule_of_name m) (u ∷ []) second) idle position) xs)
      (has-other m n u rows differ) (has-other n m v rows differ2)
      (λ none other.
      reading-same s xs (at (reacted s.rules (rule_of_name n) (v ∷ []) first) idle position) (used (rule_of_name m) (u ∷ []) (used (rule_of_name n) (v ∷ []) rows))
      (inr (record {
        front = rows;
        first = row_of_name m u;
        second = row_of_name n v;
        back = [];
        differ = differ;
        left = both-used m n u v rows differ none other;
        right = both-used n m v u rows differ2 other none;
      })))
      ∙ sym (one-joined h w position n v (joined m u ∷ xs) ∙ ap (unless_faulty (or_else before (clash (has_row (word_of n) rows)))) (one-joined second idle position m u xs))))

  exchanged-at : (h : Held) (w : Waiting) (position : ℕ) (is_trailing : Bool) (stopped : Option (Text × List Text)) (m n : Name) (u v : Text) (xs : List Text)
      → bytes_eq (word_of m) (word_of n) ≡ false → bytes_eq (word_of n) (word_of m) ≡ false →
      reading s (record { held = h; waiting = w; position = position; is_trailing = is_trailing; stopped = stopped }) (joined m u ∷ joined n v ∷ xs)
      ≡ reading s (record { held = h; waiting = w; position = position; is_trailing = is_trailing; stopped = stopped }) (joined n v ∷ joined m u ∷ xs)
  exchanged-at h w position is_trailing (Some p) m n u v xs differ differ2 =
      reading-stopped s (joined m u ∷ joined n v ∷ xs) h w position is_trailing p ∙ sym (reading-stopped s (joined n v ∷ joined m u ∷ xs) h w position is_trailing p)
  exchanged-at h w position true None m n u v xs differ differ2 =
      two-behind h w position (joined m u) (joined n v) xs ∙ sym (two-behind h w position (joined n v) (joined m u) xs)
  exchanged-at h w position false None m n u v xs differ differ2 = two-joined h w position m n u v xs differ differ2

pub order-free : (before after : List Text) (m n : Name) (u v : Text) → eqb (number_of_name m) (number_of_name n) ≡ false →
    asked (before ++ joined m u ∷ joined n v ∷ after) ≡ asked (before ++ joined n v ∷ joined m u ∷ after)
order-free before after m n u v differ =
    let one = words-differ m n differ in
    let other = words-differ n m (elim (eqb_tells (number_of_name n) (number_of_name m)) [
      | inl k ↦ absurd (elim (eqb_tells (number_of_name m) (number_of_name n)) [ inl j ↦ true≢false (sym j.0 ∙ differ) | inr j ↦ j.1 (sym k.1) ])
      | inr k ↦ k.0
    ]) in
    asked-reading (before ++ joined m u ∷ joined n v ∷ after)
    ∙ (reading-front hap_shape before (joined m u ∷ joined n v ∷ after) (joined n v ∷ joined m u ∷ after)
    (λ w. exchanged-at hap_shape long-rule once-only last-place w.held w.waiting w.position w.is_trailing w.stopped m n u v after one other) (walk_from nothing_held)
    ∙ sym (asked-reading (before ++ joined n v ∷ joined m u ∷ after)))
