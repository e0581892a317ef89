-- The values that the table gives a command are in their ranges.
use Rattle.std.proofs.Common.{◌≡◌, ◌≤◌, ℕ, Bool, true, false, leb, List, [], ◌∷◌, length, All, None, Some, refl, subst, arith}
use Rattle.std.specs.Prelude.{if◌then◌else◌, option_map, ◌&&◌, ◌||◌}
use Rattle.std.specs.List.{list_all}
use Rattle.std.specs.declared.option.Option.{Option}
use Rattle.std.proofs.lemmas.Bool.{le-leb}
use Rattle.std.proofs.lemmas.List.Elements.{All-tail}
use Rattle.clap.specs.declared.error.kind.ErrorKind.{ErrorKind}
use Rattle.clap.specs.Words.{Row, Text, fault_of, matches_of}
use Rattle.sheet_tables.specs.Spots.{spot_from}
use Rattle.sheet_tables.proofs.CallerLemmas.{spot-is}
use Rattle.hap_words.specs.declared.table.Verb.{Verb}
use Rattle.hap_words.specs.declared.table.Verb.TheVariants as verb
use Rattle.hap_words.specs.declared.table.Name.TheVariants as name
use Rattle.hap_words.specs.Asked.{Asked, SearchSpot, FieldAsked, CoversAsked, CoverAsked, ReportAsked, MakeAsked, cells, check, betti, cup, verify, migrate, group, covers, cover, report, make}
use Rattle.hap_words.specs.Line.{hap_app}
use Rattle.hap_words.specs.Ranges.{lies_between, is_modulus_if, is_sheets, is_budget, is_index, is_component, is_size, is_start, has_cells, is_placed, is_spot, is_in_range}
use Rattle.small_field.specs.Modulus.{is_modulus}
use Rattle.hap_words.specs.Texts.{number_between, if_between, number_of}
use Rattle.hap_words.specs.Table as table
use Rattle.hap_words.specs.Table.{Given}

-- a chain of two options has a value only where both have
with_some : {A B : Type 0} (o : Option A) (go : A → Option B) (b : B) → table.with o go ≡ Some b → (a : A) × (o ≡ Some a) × (go a ≡ Some b)
with_some None go b e = absurd (cc)
with_some (Some a) go b e = (a, refl, e)

some_same : {A : Type 0} (a b : A) → Some a ≡ Some b → a ≡ b
some_same a b e = cc

map_some : {A B : Type 0} (f : A → B) (o : Option A) (b : B) → option_map f o ≡ Some b → (a : A) × (o ≡ Some a) × (f a ≡ b)
map_some f None b e = absurd (cc)
map_some f (Some a) b e = (a, refl, some_same (f a) b e)

-- the value of a choice that has one
if_some : {A : Type 0} (c : Bool) (o : Option A) (a : A) → (if c then o else None) ≡ Some a → o ≡ Some a
if_some true o a e = e
if_some false o a e = absurd (cc)

both : (a b : Bool) → a ≡ true → b ≡ true → (a && b) ≡ true
both true b e f = f
both false b e f = e

-- ---- moduli

if_modulus_is : (o : Option ℕ) (p : ℕ) → table.if_modulus o ≡ Some p → is_modulus p ≡ true
if_modulus_is None p e = absurd (cc)
if_modulus_is (Some n) p e = at (is_modulus n) refl e
  where
    at : (b : Bool) → is_modulus n ≡ b → (if b then Some n else None) ≡ Some p → is_modulus p ≡ true
    at true f e = subst (λ m. is_modulus m ≡ true) (some_same n p e) f
    at false f e = absurd (cc)

modulus_is : (o : Option Text) (p : ℕ) → table.value_or 2 table.modulus_of o ≡ Some p → is_modulus p ≡ true
modulus_is None p e = subst (λ m. is_modulus m ≡ true) (some_same 2 p e) refl
modulus_is (Some text) p e = if_modulus_is (number_of text) p e

given_is : (o : Option ℕ) (q : Option ℕ) → ((p : ℕ) → o ≡ Some p → is_modulus p ≡ true) → option_map Some o ≡ Some q → is_modulus_if q ≡ true
given_is None q f e = absurd (cc)
given_is (Some n) q f e = subst (λ m. is_modulus_if m ≡ true) (some_same (Some n) q e) (f n refl)

modulus_if_is : (o : Option Text) (q : Option ℕ) → table.value_if table.modulus_of o ≡ Some q → is_modulus_if q ≡ true
modulus_if_is None q e = subst (λ m. is_modulus_if m ≡ true) (some_same None q e) refl
modulus_if_is (Some text) q e = given_is (table.modulus_of text) q (λ p f. if_modulus_is (number_of text) p f) e

-- ---- numbers between two bounds

between_is : (least most : ℕ) (o : Option ℕ) (n : ℕ) → if_between least most o ≡ Some n → lies_between least most n ≡ true
between_is least most None n e = absurd (cc)
between_is least most (Some m) n e = at (lies_between least most m) refl e
  where
    at : (b : Bool) → lies_between least most m ≡ b → (if b then Some m else None) ≡ Some n → lies_between least most n ≡ true
    at true f e = subst (λ k. lies_between least most k ≡ true) (some_same m n e) f
    at false f e = absurd (cc)

-- where one must be given
number_is : (least most : ℕ) (o : Option Text) (n : ℕ) → table.value_of (number_between least most) o ≡ Some n → lies_between least most n ≡ true
number_is least most None n e = absurd (cc)
number_is least most (Some text) n e = between_is least most (number_of text) n e

-- and where a default that lies between them stands for none
default_is : (least most default : ℕ) → lies_between least most default ≡ true → (o : Option Text) (n : ℕ) → table.value_or default (number_between least most) o ≡ Some n → lies_between least most n ≡ true
default_is least most default f None n e = subst (λ k. lies_between least most k ≡ true) (some_same default n e) f
default_is least most default f (Some text) n e = between_is least most (number_of text) n e

-- ---- spots

pub lies : (least most n : ℕ) → least ≤ n → n ≤ most → lies_between least most n ≡ true
lies least most n low high = both (leb least n) (leb n most) (le-leb least n low) (le-leb n most high)

all_lie : (ns : List ℕ) → All (λ n. (1 ≤ n) × (n ≤ 8)) ns → list_all (lies_between 1 8) ns ≡ true
all_lie [] h = refl
all_lie (n ∷ ns) h =
    let k : (1 ≤ n) × (n ≤ 8) = h 0 0 (omega arith) in
    both (lies_between 1 8 n) (list_all (lies_between 1 8) ns) (lies 1 8 n k.0 k.1) (all_lie ns (All-tail (λ n. (1 ≤ n) × (n ≤ 8)) n ns h))

has_cells_is : (ns : List ℕ) → 1 ≤ length ns → All (λ n. (1 ≤ n) × (n ≤ 8)) ns → has_cells ns ≡ true
has_cells_is [] l h = absurd (omega arith)
has_cells_is (n ∷ ns) l h = all_lie (n ∷ ns) h

or_true : (a b : Bool) → b ≡ true → (a || b) ≡ true
or_true true b e = refl
or_true false b e = e

spot_is : (o : Option Text) (s : SearchSpot) → table.value_or {A = SearchSpot} (1, 0, []) spot_from o ≡ Some s → is_spot s ≡ true
spot_is None s e = subst (λ t. is_spot t ≡ true) (some_same {A = SearchSpot} (1, 0, []) s e) refl
spot_is (Some text) s e =
    let k = spot-is text s.0 s.1 s.2 e in
    or_true (is_start s) (is_placed s)
    (both (is_component s.0) (is_sheets s.1 && has_cells s.2) (lies 1 60000 s.0 k.0 k.1)
    (both (is_sheets s.1) (has_cells s.2) (lies 1 8 s.1 k.2.some_sheet k.2.most_sheets) (has_cells_is s.2 k.2.some_cell k.2.within)))

-- ---- commands

has : (a b : Asked) → a ≡ b → is_in_range a ≡ true → is_in_range b ≡ true
has a b e h = subst (λ x. is_in_range x ≡ true) e h

field_is : (given : Given) (a : FieldAsked) → table.field_asked given ≡ Some a → is_modulus a.modulus ≡ true
field_is given a e =
    let s = with_some (table.source given) _ a e in let p = with_some (table.modulus given) _ a s.2 in
    subst (λ x. is_modulus x.modulus ≡ true) (some_same _ a p.2) (modulus_is (given name.Mod) p.0 p.1)

covers_is : (given : Given) (a : CoversAsked) → table.covers_asked given ≡ Some a → is_in_range (covers a) ≡ true
covers_is given a e =
    let s = with_some (table.source given) _ a e in let n = with_some (table.sheets given) _ a s.2 in let b = with_some (table.budget given) _ a n.2 in
    let t = with_some (table.from given) _ a b.2 in
    subst (λ x. is_in_range (covers x) ≡ true) (some_same _ a t.2)
    (both (is_sheets n.0) (is_budget b.0 && is_spot t.0) (number_is 1 8 (given name.Sheets) n.0 n.1)
    (both (is_budget b.0) (is_spot t.0) (default_is 1 1000000000000000 10000000 refl (given name.Budget) b.0 b.1)
    (spot_is (given name.From) t.0 t.1)))

cover_is : (given : Given) (a : CoverAsked) → table.cover_asked given ≡ Some a → is_in_range (cover a) ≡ true
cover_is given a e =
    let s = with_some (table.source given) _ a e in let n = with_some (table.sheets given) _ a s.2 in let i = with_some (table.index given) _ a n.2 in
    let c = with_some (table.component given) _ a i.2 in let b = with_some (table.budget given) _ a c.2 in let p = with_some (table.modulus_if given) _ a b.2 in
    subst (λ x. is_in_range (cover x) ≡ true) (some_same _ a p.2)
    (both (is_sheets n.0) (is_index i.0 && (is_component c.0 && (is_budget b.0 && is_modulus_if p.0))) (number_is 1 8 (given name.Sheets) n.0 n.1)
    (both (is_index i.0) (is_component c.0 && (is_budget b.0 && is_modulus_if p.0)) (number_is 1 1000000000 (given name.Index) i.0 i.1)
    (both (is_component c.0) (is_budget b.0 && is_modulus_if p.0) (default_is 1 60000 1 refl (given name.Component) c.0 c.1)
    (both (is_budget b.0) (is_modulus_if p.0) (default_is 1 1000000000000000 10000000 refl (given name.Budget) b.0 b.1)
    (modulus_if_is (given name.Mod) p.0 p.1)))))

report_is : (given : Given) (a : ReportAsked) → table.report_asked given ≡ Some a → is_in_range (report a) ≡ true
report_is given a e =
    let s = with_some (table.source given) _ a e in let p = with_some (table.modulus given) _ a s.2 in let n = with_some (table.sheets given) _ a p.2 in
    let b = with_some (table.budget given) _ a n.2 in let t = with_some (table.from given) _ a b.2 in
    subst (λ x. is_in_range (report x) ≡ true) (some_same _ a t.2)
    (both (is_modulus p.0) (is_sheets n.0 && (is_budget b.0 && is_spot t.0)) (modulus_is (given name.Mod) p.0 p.1)
    (both (is_sheets n.0) (is_budget b.0 && is_spot t.0) (number_is 1 8 (given name.Sheets) n.0 n.1)
    (both (is_budget b.0) (is_spot t.0) (default_is 1 1000000000000000 10000000 refl (given name.Budget) b.0 b.1)
    (spot_is (given name.From) t.0 t.1))))

make_is : (given : Given) (a : MakeAsked) → table.make_asked given ≡ Some a → is_in_range (make a) ≡ true
make_is given a e =
    let n = with_some (table.size given) _ a e in let p = with_some (table.modulus_if given) _ a n.2 in
    subst (λ x. is_in_range (make x) ≡ true) (some_same _ a p.2)
    (both (is_size n.0) (is_modulus_if p.0) (number_is 2 19 (given name.Size) n.0 n.1) (modulus_if_is (given name.Mod) p.0 p.1))

asked_by_is : (v : Verb) (given : Given) (a : Asked) → table.asked_by v given ≡ Some a → is_in_range a ≡ true
asked_by_is verb.Cells given a e = let k = map_some cells (table.input_asked given) a e in has (cells k.0) a k.2 refl
asked_by_is verb.Check given a e = let k = map_some check (table.input_asked given) a e in has (check k.0) a k.2 refl
asked_by_is verb.Betti given a e = let k = map_some betti (table.field_asked given) a e in has (betti k.0) a k.2 (field_is given k.0 k.1)
asked_by_is verb.Cup given a e = let k = map_some cup (table.field_asked given) a e in has (cup k.0) a k.2 (field_is given k.0 k.1)
asked_by_is verb.Verify given a e = let k = map_some verify (table.name_asked given) a e in has (verify k.0) a k.2 refl
asked_by_is verb.Migrate given a e = let k = map_some migrate (table.name_asked given) a e in has (migrate k.0) a k.2 refl
asked_by_is verb.Group given a e = let k = map_some group (table.input_asked given) a e in has (group k.0) a k.2 refl
asked_by_is verb.Covers given a e = let k = map_some covers (table.covers_asked given) a e in has (covers k.0) a k.2 (covers_is given k.0 k.1)
asked_by_is verb.Cover given a e = let k = map_some cover (table.cover_asked given) a e in has (cover k.0) a k.2 (cover_is given k.0 k.1)
asked_by_is verb.Report given a e = let k = map_some report (table.report_asked given) a e in has (report k.0) a k.2 (report_is given k.0 k.1)
asked_by_is verb.Make given a e = let k = map_some make (table.make_asked given) a e in has (make k.0) a k.2 (make_is given k.0 k.1)

asked_given_is : (rows : List Row) (a : Asked) → table.asked_given rows ≡ Some a → is_in_range a ≡ true
asked_given_is rows a e = let v = with_some (table.verb_given rows) _ a e in asked_by_is v.0 (table.text_under rows) a (if_some (table.fits v.0 (table.text_under rows)) (table.asked_by v.0 (table.text_under rows)) a v.2)

faultless_is : (faults : List ErrorKind) (o : Option Asked) (a : Asked) → ((b : Asked) → o ≡ Some b → is_in_range b ≡ true) → table.unless_faulty faults o ≡ Some a → is_in_range a ≡ true
faultless_is [] o a f e = f a e
faultless_is (fault ∷ faults) o a f e = absurd (cc)

pub asked_is : (words : List Text) (a : Asked) → table.asked words ≡ Some a → is_in_range a ≡ true
asked_is words a e = faultless_is (fault_of hap_app words) (table.asked_given (matches_of hap_app words)) a (asked_given_is (matches_of hap_app words)) e
