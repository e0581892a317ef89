-- The words of a command are read as that command.
use Rattle.std.proofs.Common.{◌≡◌, ◌⊎◌, ◌≤◌, ◌<◌, ◌∙◌, ◌+◌, ◌-◌, ◌*◌, ◌^◌, ◌++◌, ap, sym, ℕ, Bool, true, false, leb, eqb, List, [], ◌∷◌, length, All, None, Some, refl, arith, inl, inr, codes, decimal}
use Rattle.std.specs.Prelude.{if◌then◌else◌, option_map, ◌&&◌, ◌||◌}
use Rattle.std.specs.List.{list_all, list_any}
use Rattle.std.specs.declared.option.Option.{Option}
use Rattle.std.proofs.lemmas.Bool.{le-leb, leb-true, false≢true}
use Rattle.std.proofs.lemmas.Bool.Decides.{eqb_tells}
use Rattle.std.proofs.lemmas.Fmt.{digits_decimal, digits_value-decimal, decimal_nonempty, length-decimal-le}
use Rattle.std.proofs.lemmas.List.Elements.{All-nil, All-cons}
use Rattle.std.proofs.lemmas.Str.Parse.{IsDigitsTest, FoldsDigits, IsNumeralModel, numerals_by_fold}
use Rattle.clap.specs.Words.{Text}
use Rattle.clap.proofs.OnLiterals.{clap_on_literals}
use Rattle.sheet_tables.specs.Spots.{spot_from, spot_text}
use Rattle.sheet_tables.proofs.CallerLemmas.{spot-back}
use Rattle.hap_words.specs.declared.command.Kind.{Kind}
use Rattle.hap_words.specs.declared.command.Kind.TheVariants.{Boundary, Cubical, Permutahedral, Arcs, Simplices, Poset}
use Rattle.hap_words.specs.declared.table.Name.TheVariants as name
use Rattle.hap_words.specs.Asked.{Asked, Source, SearchSpot, InputAsked, FieldAsked, CoversAsked, CoverAsked, ReportAsked, MakeAsked, cells, check, betti, cup, verify, migrate, group, covers, cover, report, make}
use Rattle.hap_words.specs.Line.{hap_app}
use Rattle.hap_words.specs.Ranges.{lies_between, is_modulus_if, is_sheets, is_budget, is_index, is_component, is_size, is_empty, is_start, has_cells, is_placed, is_spot, is_in_range}
use Rattle.small_field.specs.Modulus.{is_modulus, moduli}
use Rattle.hap_words.specs.Texts.{named, is_decimal_digit, number_from, number_of, if_between, number_between}
use Rattle.hap_words.specs.Table.{kinds, with, value_or, value_if, if_modulus, modulus_of, asked}
use Rattle.hap_words.specs.Laws.{joined, joined_if, kind_word, from_text, words_of}

and-parts : (a b : Bool) → (a && b) ≡ true → (a ≡ true) × (b ≡ true)
and-parts true b h = (refl, h)
and-parts false b h = absurd (false≢true h)

or-parts : (a b : Bool) → (a || b) ≡ true → (a ≡ true) ⊎ (b ≡ true)
or-parts true b h = inl refl
or-parts false b h = inr h

if-true : {A : Type 0} (b : Bool) (x y : A) → b ≡ true → (if b then x else y) ≡ x
if-true b x y e = ap (λ c. if c then x else y) e

-- ---- numbers

tells : IsDigitsTest (λ ds. list_all is_decimal_digit ds ≡ true)
tells = record {
  empty = refl;
  parts = λ c cs e. let k = and-parts (is_decimal_digit c) (list_all is_decimal_digit cs) e in let m = and-parts (leb 48 c) (leb c 57) k.0 in ((leb-true 48 c m.0, leb-true c 57 m.1), k.1);
  more = λ c cs k e. ap (λ (b : Bool). b && leb c 57 && list_all is_decimal_digit cs) (le-leb 48 c k.0) ∙ (ap (λ (b : Bool). b && list_all is_decimal_digit cs) (le-leb c 57 k.1) ∙ e);
}

folds : FoldsDigits number_from
folds = record { empty = λ n. refl; more = λ n c cs k. ap (λ (m : ℕ). number_from m cs) (let e : 10 * n + (c - 48) ≡ n * 10 + (c - 48) = omega arith in e) }

numerals : IsNumeralModel (λ ds. list_all is_decimal_digit ds ≡ true) (number_from 0)
numerals = numerals_by_fold (λ ds. list_all is_decimal_digit ds ≡ true) tells number_from folds

all_three : (a b c : Bool) → a ≡ true → b ≡ true → c ≡ true → (a && b && c) ≡ true
all_three true true c e f g = g
all_three true false c e f g = absurd (false≢true f)
all_three false b c e f g = absurd (false≢true e)

number-read : (n : ℕ) → n < 1000000000000000000 → number_of (decimal n) ≡ Some n
number-read n small =
    let fits : n < 2 ^ 64 = omega arith in
    let below : n < 10 ^ 18 = omega arith in
    let some : 1 ≤ length (decimal n) = decimal_nonempty n fits in
    let few : length (decimal n) ≤ 18 = length-decimal-le 18 n (omega arith) below fits in
    if-true (leb 1 (length (decimal n)) && leb (length (decimal n)) 18 && list_all is_decimal_digit (decimal n)) (Some (number_from 0 (decimal n))) None
    (all_three (leb 1 (length (decimal n))) (leb (length (decimal n)) 18) (list_all is_decimal_digit (decimal n)) (le-leb 1 (length (decimal n)) some) (le-leb (length (decimal n)) 18 few)
    (digits_decimal numerals n fits))
    ∙ ap (λ (m : ℕ). Some m) (digits_value-decimal numerals n fits)

between-read : (least most n : ℕ) → most < 1000000000000000000 → lies_between least most n ≡ true → number_between least most (decimal n) ≡ Some n
between-read least most n small h =
    let high : n ≤ most = leb-true n most (and-parts (leb least n) (leb n most) h).1 in
    ap (if_between least most) (number-read n (omega arith)) ∙ if-true (lies_between least most n) (Some n) None h

-- ---- moduli

-- each modulus is small
all-small : (p : ℕ) (xs : List ℕ) → list_all (λ x. leb x 100) xs ≡ true → list_any (λ x. eqb p x) xs ≡ true → p ≤ 100
all-small p [] small h = absurd (false≢true h)
all-small p (x ∷ xs) small h =
    let k = and-parts (leb x 100) (list_all (λ x. leb x 100) xs) small in
    elim (or-parts (eqb p x) (list_any (λ x. eqb p x) xs) h) [
      | inl here ↦ elim (eqb_tells p x) [ inl e ↦ omega (arith, e.1, leb-true x 100 k.0) | inr e ↦ absurd (false≢true (sym e.0 ∙ here)) ]
      | inr later ↦ all-small p xs k.1 later
    ]

modulus-small : (p : ℕ) → is_modulus p ≡ true → p ≤ 100
modulus-small p e = all-small p moduli refl e

modulus-read : (p : ℕ) → is_modulus p ≡ true → modulus_of (decimal p) ≡ Some p
modulus-read p e =
    let small : p ≤ 100 = modulus-small p e in
    ap if_modulus (number-read p (omega arith)) ∙ if-true (is_modulus p) (Some p) None e

modulus-read-if : (o : Option ℕ) → is_modulus_if o ≡ true → value_if modulus_of (option_map decimal o) ≡ Some o
modulus-read-if None e = refl
modulus-read-if (Some p) e = ap (λ (q : Option ℕ). option_map Some q) (modulus-read p e)

-- ---- spots

cells-lie : (ns : List ℕ) → list_all (lies_between 1 8) ns ≡ true → All (λ n. (1 ≤ n) × (n ≤ 8)) ns
cells-lie [] h = All-nil (λ n. (1 ≤ n) × (n ≤ 8))
cells-lie (n ∷ ns) h =
    let k = and-parts (lies_between 1 8 n) (list_all (lies_between 1 8) ns) h in
    let m = and-parts (leb 1 n) (leb n 8) k.0 in
    All-cons (λ n. (1 ≤ n) × (n ≤ 8)) n ns (leb-true 1 n m.0, leb-true n 8 m.1) (cells-lie ns k.1)

some-cells : (ns : List ℕ) → has_cells ns ≡ true → (1 ≤ length ns) × All (λ n. (1 ≤ n) × (n ≤ 8)) ns
some-cells [] h = absurd (false≢true h)
some-cells (n ∷ ns) h = (omega arith, cells-lie (n ∷ ns) h)

no-cells : (ns : List ℕ) → is_empty ns ≡ true → ns ≡ []
no-cells [] h = refl
no-cells (n ∷ ns) h = absurd (false≢true h)

start-is : (c m : ℕ) (ns : List ℕ) → is_start (c, m, ns) ≡ true → (c ≡ 1) × (m ≡ 0) × (ns ≡ [])
start-is c m ns h =
    let k = and-parts (eqb c 1) (eqb m 0 && is_empty ns) h in
    let l = and-parts (eqb m 0) (is_empty ns) k.1 in
    (same c 1 k.0, same m 0 l.0, no-cells ns l.1)
  where
    same : (a b : ℕ) → eqb a b ≡ true → a ≡ b
    same a b e = elim (eqb_tells a b) [ inl k ↦ k.1 | inr k ↦ absurd (false≢true (sym k.0 ∙ e)) ]

placed-read : (c m : ℕ) (ns : List ℕ) → is_placed (c, m, ns) ≡ true → (1 ≤ m) × (spot_from (spot_text c m ns) ≡ Some (c, m, ns))
placed-read c m ns h =
    let k = and-parts (is_component c) (is_sheets m && has_cells ns) h in
    let l = and-parts (is_sheets m) (has_cells ns) k.1 in
    let component = and-parts (leb 1 c) (leb c 60000) k.0 in
    let sheets = and-parts (leb 1 m) (leb m 8) l.0 in
    let some = some-cells ns l.1 in (
      leb-true 1 m sheets.0,
      spot-back (spot_text c m ns) c m ns (
        leb-true 1 c component.0,
        leb-true c 60000 component.1,
        record { some_sheet = leb-true 1 m sheets.0; most_sheets = leb-true m 8 sheets.1; some_cell = some.0; within = some.1 },
        refl,
      ),
    )

abbrev from_read : Option Text → Option SearchSpot
from_read o = value_or {A = SearchSpot} (1, 0, []) spot_from o

from-read : (spot : SearchSpot) → is_spot spot ≡ true → from_read (from_text spot) ≡ Some spot
from-read spot h = elim (or-parts (is_start spot) (is_placed spot) h) [
  | inl here ↦
      let k = start-is spot.0 spot.1 spot.2 here in
      ap (λ (n : ℕ). from_read (if eqb n 0 then None else Some (spot_text spot.0 spot.1 spot.2))) k.1
      ∙ (ap (λ (c : ℕ). Some (c, 0, [])) (sym k.0) ∙ (ap (λ (m : ℕ). Some (spot.0, m, [])) (sym k.1) ∙ ap (λ (ns : List ℕ). Some (spot.0, spot.1, ns)) (sym k.2)))
  | inr later ↦
      let k = placed-read spot.0 spot.1 spot.2 later in
      ap (λ (b : Bool). from_read (if b then None else Some (spot_text spot.0 spot.1 spot.2))) (some-sheet spot.1 k.0) ∙ k.1
]
  where
    some-sheet : (m : ℕ) → 1 ≤ m → eqb m 0 ≡ false
    some-sheet m l = elim (eqb_tells m 0) [ inl k ↦ absurd (omega (arith, k.1)) | inr k ↦ k.0 ]

-- ---- sources

abbrev source_at : Text → Option Text → Option Source
source_at k file = option_map (λ kind. record { kind = kind; name = file }) (named kinds k)

kind-read : (k : Kind) → named kinds (kind_word k) ≡ Some k
kind-read Boundary = refl
kind-read Cubical = refl
kind-read Permutahedral = refl
kind-read Arcs = refl
kind-read Simplices = refl
kind-read Poset = refl

source-read : (s : Source) → source_at (kind_word s.kind) s.name ≡ Some s
source-read s = ap (option_map (λ kind. record { kind = kind; name = s.name })) (kind-read s.kind)

-- ---- the values of the options, from their texts

abbrev input_at : (k : Text) (file : Option Text) → Option InputAsked
input_at k file = with (source_at k file) (λ s. Some (record { source = s }))

abbrev field_at : (k : Text) (file : Option Text) (p : Option ℕ) → Option FieldAsked
field_at k file p = with (source_at k file) (λ s. with p (λ p. Some (record { source = s; modulus = p })))

abbrev covers_at : (k : Text) (file : Option Text) (n b : Option ℕ) (t : Option SearchSpot) → Option CoversAsked
covers_at k file n b t =
    with (source_at k file) (λ s. with n (λ n. with b (λ b. with t (λ t. Some (record { source = s; sheets = n; budget = b; from = t })))))

abbrev cover_at : (k : Text) (file : Option Text) (n i c b : Option ℕ) (p : Option (Option ℕ)) → Option CoverAsked
cover_at k file n i c b p =
    with (source_at k file) (λ s. with n (λ n. with i (λ i. with c (λ c. with b (λ b. with p (λ p.
    Some (record { source = s; sheets = n; index = i; component = c; budget = b; modulus = p })))))))

abbrev report_at : (k : Text) (file : Option Text) (p n b : Option ℕ) (t : Option SearchSpot) → Option ReportAsked
report_at k file p n b t =
    with (source_at k file) (λ s. with p (λ p. with n (λ n. with b (λ b. with t (λ t.
    Some (record { source = s; modulus = p; sheets = n; budget = b; from = t }))))))

abbrev make_at : (n : Option ℕ) (p : Option (Option ℕ)) → Option MakeAsked
make_at n p = with n (λ n. with p (λ p. Some (record { size = n; modulus = p })))

-- ---- what `clap` makes of such words

cells-words : (k : Text) (file : Option Text) → asked (codes "cells" ∷ joined name.Kind k ∷ joined_if name.In file) ≡ option_map cells (input_at k file)
unfolding clap_on_literals hap_app
cells-words k None = refl
cells-words k (Some f) = refl

check-words : (k : Text) (file : Option Text) → asked (codes "check" ∷ joined name.Kind k ∷ joined_if name.In file) ≡ option_map check (input_at k file)
unfolding clap_on_literals hap_app
check-words k None = refl
check-words k (Some f) = refl

group-words : (k : Text) (file : Option Text) → asked (codes "group" ∷ joined name.Kind k ∷ joined_if name.In file) ≡ option_map group (input_at k file)
unfolding clap_on_literals hap_app
group-words k None = refl
group-words k (Some f) = refl

betti-words : (p k : Text) (file : Option Text) → asked (codes "betti" ∷ joined name.Mod p ∷ joined name.Kind k ∷ joined_if name.In file) ≡ option_map betti (field_at k file (modulus_of p))
unfolding clap_on_literals hap_app
betti-words p k None = refl
betti-words p k (Some f) = refl

cup-words : (p k : Text) (file : Option Text) → asked (codes "cup" ∷ joined name.Mod p ∷ joined name.Kind k ∷ joined_if name.In file) ≡ option_map cup (field_at k file (modulus_of p))
unfolding clap_on_literals hap_app
cup-words p k None = refl
cup-words p k (Some f) = refl

verify-words : (file : Option Text) → asked (codes "verify" ∷ joined_if name.In file) ≡ Some (verify (record { name = file }))
unfolding clap_on_literals hap_app
verify-words None = refl
verify-words (Some f) = refl

migrate-words : (file : Option Text) → asked (codes "migrate" ∷ joined_if name.In file) ≡ Some (migrate (record { name = file }))
unfolding clap_on_literals hap_app
migrate-words None = refl
migrate-words (Some f) = refl

covers-words : (n b : Text) (t : Option Text) (k : Text) (file : Option Text) →
    asked (codes "covers" ∷ joined name.Sheets n ∷ joined name.Budget b ∷ (joined_if name.From t ++ joined name.Kind k ∷ joined_if name.In file))
    ≡ option_map covers (covers_at k file (number_between 1 8 n) (number_between 1 1000000000000000 b) (from_read t))
unfolding clap_on_literals hap_app
covers-words n b None k None = refl
covers-words n b None k (Some f) = refl
covers-words n b (Some t) k None = refl
covers-words n b (Some t) k (Some f) = refl

cover-words : (n i c b : Text) (p : Option Text) (k : Text) (file : Option Text) →
    asked (codes "cover" ∷ joined name.Sheets n ∷ joined name.Index i ∷ joined name.Component c ∷ joined name.Budget b ∷ (joined_if name.Mod p ++ joined name.Kind k ∷ joined_if name.In file))
    ≡ option_map cover (cover_at k file (number_between 1 8 n) (number_between 1 1000000000 i) (number_between 1 60000 c) (number_between 1 1000000000000000 b) (value_if modulus_of p))
unfolding clap_on_literals hap_app
cover-words n i c b None k None = refl
cover-words n i c b None k (Some f) = refl
cover-words n i c b (Some p) k None = refl
cover-words n i c b (Some p) k (Some f) = refl

report-words : (p n b : Text) (t : Option Text) (k : Text) (file : Option Text) →
    asked (codes "report" ∷ joined name.Mod p ∷ joined name.Sheets n ∷ joined name.Budget b ∷ (joined_if name.From t ++ joined name.Kind k ∷ joined_if name.In file))
    ≡ option_map report (report_at k file (modulus_of p) (number_between 1 8 n) (number_between 1 1000000000000000 b) (from_read t))
unfolding clap_on_literals hap_app
report-words p n b None k None = refl
report-words p n b None k (Some f) = refl
report-words p n b (Some t) k None = refl
report-words p n b (Some t) k (Some f) = refl

make-words : (n : Text) (p : Option Text) → asked (codes "make" ∷ joined name.Size n ∷ joined_if name.Mod p) ≡ option_map make (make_at (number_between 2 19 n) (value_if modulus_of p))
unfolding clap_on_literals hap_app
make-words n None = refl
make-words n (Some p) = refl

-- ---- the values are those of the command

-- one value more is known
then-known : {A B : Type 0} (o : Option A) (a : A) (go : A → Option B) (b : B) → o ≡ Some a → go a ≡ Some b → with o go ≡ Some b
then-known o a go b e f = ap (λ p. with p go) e ∙ f

input-read : (a : InputAsked) → input_at (kind_word a.source.kind) a.source.name ≡ Some a
input-read a = then-known (source_at (kind_word a.source.kind) a.source.name) a.source _ a (source-read a.source) refl

field-read : (a : FieldAsked) → is_modulus a.modulus ≡ true → field_at (kind_word a.source.kind) a.source.name (modulus_of (decimal a.modulus)) ≡ Some a
field-read a h = then-known (source_at (kind_word a.source.kind) a.source.name) a.source _ a (source-read a.source)
    (then-known (modulus_of (decimal a.modulus)) a.modulus _ a (modulus-read a.modulus h) refl)

covers-read : (a : CoversAsked) → is_in_range (covers a) ≡ true →
    covers_at (kind_word a.source.kind) a.source.name (number_between 1 8 (decimal a.sheets)) (number_between 1 1000000000000000 (decimal a.budget)) (from_read (from_text a.from)) ≡ Some a
covers-read a h =
    let k = and-parts (is_sheets a.sheets) (is_budget a.budget && is_spot a.from) h in
    let l = and-parts (is_budget a.budget) (is_spot a.from) k.1 in
    then-known (source_at (kind_word a.source.kind) a.source.name) a.source _ a (source-read a.source)
    (then-known (number_between 1 8 (decimal a.sheets)) a.sheets _ a (between-read 1 8 a.sheets (omega arith) k.0)
    (then-known (number_between 1 1000000000000000 (decimal a.budget)) a.budget _ a (between-read 1 1000000000000000 a.budget (omega arith) l.0)
    (then-known (from_read (from_text a.from)) a.from _ a (from-read a.from l.1) refl)))

cover-read : (a : CoverAsked) → is_in_range (cover a) ≡ true →
    cover_at (kind_word a.source.kind) a.source.name (number_between 1 8 (decimal a.sheets)) (number_between 1 1000000000 (decimal a.index)) (number_between 1 60000 (decimal a.component)) (number_between 1 1000000000000000 (decimal a.budget)) (value_if modulus_of (option_map decimal a.modulus)) ≡ Some a
cover-read a h =
    let k = and-parts (is_sheets a.sheets) (is_index a.index && (is_component a.component && (is_budget a.budget && is_modulus_if a.modulus))) h in
    let l = and-parts (is_index a.index) (is_component a.component && (is_budget a.budget && is_modulus_if a.modulus)) k.1 in
    let m = and-parts (is_component a.component) (is_budget a.budget && is_modulus_if a.modulus) l.1 in
    let n = and-parts (is_budget a.budget) (is_modulus_if a.modulus) m.1 in
    then-known (source_at (kind_word a.source.kind) a.source.name) a.source _ a (source-read a.source)
    (then-known (number_between 1 8 (decimal a.sheets)) a.sheets _ a (between-read 1 8 a.sheets (omega arith) k.0)
    (then-known (number_between 1 1000000000 (decimal a.index)) a.index _ a (between-read 1 1000000000 a.index (omega arith) l.0)
    (then-known (number_between 1 60000 (decimal a.component)) a.component _ a (between-read 1 60000 a.component (omega arith) m.0)
    (then-known (number_between 1 1000000000000000 (decimal a.budget)) a.budget _ a (between-read 1 1000000000000000 a.budget (omega arith) n.0)
    (then-known (value_if modulus_of (option_map decimal a.modulus)) a.modulus _ a (modulus-read-if a.modulus n.1) refl)))))

report-read : (a : ReportAsked) → is_in_range (report a) ≡ true →
    report_at (kind_word a.source.kind) a.source.name (modulus_of (decimal a.modulus)) (number_between 1 8 (decimal a.sheets)) (number_between 1 1000000000000000 (decimal a.budget)) (from_read (from_text a.from)) ≡ Some a
report-read a h =
    let j = and-parts (is_modulus a.modulus) (is_sheets a.sheets && (is_budget a.budget && is_spot a.from)) h in
    let k = and-parts (is_sheets a.sheets) (is_budget a.budget && is_spot a.from) j.1 in
    let l = and-parts (is_budget a.budget) (is_spot a.from) k.1 in
    then-known (source_at (kind_word a.source.kind) a.source.name) a.source _ a (source-read a.source)
    (then-known (modulus_of (decimal a.modulus)) a.modulus _ a (modulus-read a.modulus j.0)
    (then-known (number_between 1 8 (decimal a.sheets)) a.sheets _ a (between-read 1 8 a.sheets (omega arith) k.0)
    (then-known (number_between 1 1000000000000000 (decimal a.budget)) a.budget _ a (between-read 1 1000000000000000 a.budget (omega arith) l.0)
    (then-known (from_read (from_text a.from)) a.from _ a (from-read a.from l.1) refl))))

make-read : (a : MakeAsked) → is_in_range (make a) ≡ true → make_at (number_between 2 19 (decimal a.size)) (value_if modulus_of (option_map decimal a.modulus)) ≡ Some a
make-read a h =
    let k = and-parts (is_size a.size) (is_modulus_if a.modulus) h in
    then-known (number_between 2 19 (decimal a.size)) a.size _ a (between-read 2 19 a.size (omega arith) k.0)
    (then-known (value_if modulus_of (option_map decimal a.modulus)) a.modulus _ a (modulus-read-if a.modulus k.1) refl)

-- ---- commands

pub asked-back : (a : Asked) → is_in_range a ≡ true → asked (words_of a) ≡ Some a
asked-back (cells a) h = cells-words (kind_word a.source.kind) a.source.name ∙ ap (option_map cells) (input-read a)
asked-back (check a) h = check-words (kind_word a.source.kind) a.source.name ∙ ap (option_map check) (input-read a)
asked-back (betti a) h = betti-words (decimal a.modulus) (kind_word a.source.kind) a.source.name ∙ ap (option_map betti) (field-read a h)
asked-back (cup a) h = cup-words (decimal a.modulus) (kind_word a.source.kind) a.source.name ∙ ap (option_map cup) (field-read a h)
asked-back (verify a) h = verify-words a.name
asked-back (migrate a) h = migrate-words a.name
asked-back (group a) h = group-words (kind_word a.source.kind) a.source.name ∙ ap (option_map group) (input-read a)
asked-back (covers a) h =
    covers-words (decimal a.sheets) (decimal a.budget) (from_text a.from) (kind_word a.source.kind) a.source.name ∙ ap (option_map covers) (covers-read a h)
asked-back (cover a) h =
    cover-words (decimal a.sheets) (decimal a.index) (decimal a.component) (decimal a.budget) (option_map decimal a.modulus) (kind_word a.source.kind) a.source.name
    ∙ ap (option_map cover) (cover-read a h)
asked-back (report a) h =
    report-words (decimal a.modulus) (decimal a.sheets) (decimal a.budget) (from_text a.from) (kind_word a.source.kind) a.source.name
    ∙ ap (option_map report) (report-read a h)
asked-back (make a) h = make-words (decimal a.size) (option_map decimal a.modulus) ∙ ap (option_map make) (make-read a h)
