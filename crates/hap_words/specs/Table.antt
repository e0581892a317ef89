-- The table of commands: their words, the options that each takes, the values and the defaults. given tells the text
-- that was given under an option, None where there is none.
--   verbs, kinds              the words of the commands and of the kinds of input
--   names_of verb             the options that a command takes
--   takes verb name           one of them
--   Given                     the text under each option
--   word_of name              the word of an option, behind two hyphens
--   fits verb given           only options that the command takes are given
--   value_or, value_if, value_of   an option with a default, one that may be left out, one that must be given
--   modulus, modulus_if, sheets, budget, index, component, size, from, kind, source   the value of each option
--   input_asked, field_asked, name_asked, covers_asked, cover_asked, report_asked, make_asked   the values of the
--                             options of a command, where each has one
--   asked_by verb given       the command with its values, where each has one
--   text_under rows           what is given by the rows that `clap` found: names of options with their texts
--   found_under matches       the same of its matches
--   verb_given rows           the command that is named
--   asked words               what the words ask for, where `clap` takes them and the table has it
--   verb_of asked             the command without its values
--   verb_is_built, is_built   the commands that are built
--   read words                what the words ask for, where that is built
--   number_of_name, names, fits_at, if_modulus, modulus_of, number_under, with, asked_given, unless_faulty, if_built:
--                             steps
use Rattle.std.specs.Prelude.{ℕ, List, [], ◌∷◌, Bool, true, false, ◌||◌, ◌==◌, codes, is_none, if◌then◌else◌, option_map}
use Rattle.std.specs.declared.option.Option.{Option}
use Rattle.std.specs.declared.option.Option.TheVariants.{Some, None}
use Rattle.std.specs.List.{list_all, list_any}
use Rattle.clap.specs.declared.error.kind.ErrorKind.{ErrorKind}
use Rattle.clap.specs.Words.{Row, Text, fault_of, first_of, found_of, matches_of, rows_of}
use Rattle.clap.specs.declared.parser.matches.ArgMatches.{ArgMatches}
use Rattle.sheet_tables.specs.Spots.{spot_from}
use Rattle.hap_words.specs.declared.command.Kind.{Kind}
use Rattle.hap_words.specs.declared.command.Kind.TheVariants.{Boundary, Cubical, Permutahedral, Arcs, Simplices, Poset}
use Rattle.hap_words.specs.declared.table.Verb.{Verb}
use Rattle.hap_words.specs.declared.table.Verb.TheVariants as verb
use Rattle.hap_words.specs.declared.table.Name.{Name}
use Rattle.hap_words.specs.declared.table.Name.TheVariants as name
use Rattle.hap_words.specs.Line.{hap_app}
use Rattle.hap_words.specs.Texts.{named, number_of, number_between}
use Rattle.small_field.specs.Modulus.{is_modulus}
use Rattle.hap_words.specs.Asked.{Source, SearchSpot}
use Rattle.hap_words.specs.Asked.{InputAsked, FieldAsked, NameAsked, CoversAsked, CoverAsked, ReportAsked, MakeAsked}
use Rattle.hap_words.specs.Asked.{Asked, cells, check, betti, cup, verify, migrate, group, covers, cover, report, make}

-- ---- the words

abbrev pub verbs : List (Text × Verb)
verbs =
    (codes "cells", verb.Cells) ∷ (codes "check", verb.Check) ∷ (codes "betti", verb.Betti) ∷ (codes "cup", verb.Cup)
    ∷ (codes "verify", verb.Verify) ∷ (codes "migrate", verb.Migrate) ∷ (codes "group", verb.Group)
    ∷ (codes "covers", verb.Covers) ∷ (codes "cover", verb.Cover) ∷ (codes "report", verb.Report)
    ∷ (codes "make", verb.Make) ∷ []

abbrev pub kinds : List (Text × Kind)
kinds =
    (codes "boundary", Boundary) ∷ (codes "cubical", Cubical) ∷ (codes "permutahedral", Permutahedral)
    ∷ (codes "arcs", Arcs) ∷ (codes "simplices", Simplices) ∷ (codes "poset", Poset) ∷ []

-- ---- the options that each command takes

abbrev pub names_of : Verb → List Name
names_of verb.Cells = name.Kind ∷ name.In ∷ []
names_of verb.Check = name.Kind ∷ name.In ∷ []
names_of verb.Betti = name.Kind ∷ name.In ∷ name.Mod ∷ []
names_of verb.Cup = name.Kind ∷ name.In ∷ name.Mod ∷ []
names_of verb.Verify = name.In ∷ []
names_of verb.Migrate = name.In ∷ []
names_of verb.Group = name.Kind ∷ name.In ∷ []
names_of verb.Covers = name.Kind ∷ name.In ∷ name.Sheets ∷ name.Budget ∷ name.From ∷ []
names_of verb.Cover = name.Kind ∷ name.In ∷ name.Sheets ∷ name.Index ∷ name.Budget ∷ name.Component ∷ name.Mod ∷ []
names_of verb.Report = name.Kind ∷ name.In ∷ name.Mod ∷ name.Sheets ∷ name.Budget ∷ name.From ∷ []
names_of verb.Make = name.Size ∷ name.Mod ∷ []

abbrev pub number_of_name : Name → ℕ
number_of_name name.Kind = 0
number_of_name name.In = 1
number_of_name name.Mod = 2
number_of_name name.Sheets = 3
number_of_name name.Budget = 4
number_of_name name.From = 5
number_of_name name.Index = 6
number_of_name name.Size = 7
number_of_name name.Component = 8

abbrev pub Given : Type 0
Given = Name → Option Text

abbrev pub takes : Verb → Name → Bool
takes v n = list_any (λ m. number_of_name m == number_of_name n) (names_of v)

abbrev pub names : List Name
names =
    name.Kind ∷ name.In ∷ name.Mod ∷ name.Sheets ∷ name.Budget ∷ name.From ∷ name.Index ∷ name.Size
    ∷ name.Component ∷ []

abbrev pub word_of : Name → Text
word_of name.Kind = codes "kind"
word_of name.In = codes "in"
word_of name.Mod = codes "mod"
word_of name.Sheets = codes "sheets"
word_of name.Budget = codes "budget"
word_of name.From = codes "from"
word_of name.Index = codes "index"
word_of name.Size = codes "size"
word_of name.Component = codes "component"

abbrev pub fits_at : Verb → Given → Name → Bool
fits_at v given n = is_none (given n) || takes v n

abbrev pub fits : Verb → Given → Bool
fits v given = list_all (fits_at v given) names

-- ---- the values

abbrev pub value_or : {A : Type 0} → A → (Text → Option A) → Option Text → Option A
value_or default read None = Some default
value_or default read (Some text) = read text

abbrev pub value_if : {A : Type 0} → (Text → Option A) → Option Text → Option (Option A)
value_if read None = Some None
value_if read (Some text) = option_map Some (read text)

abbrev pub value_of : {A : Type 0} → (Text → Option A) → Option Text → Option A
value_of read None = None
value_of read (Some text) = read text

abbrev pub if_modulus : Option ℕ → Option ℕ
if_modulus None = None
if_modulus (Some n) = if is_modulus n then Some n else None

abbrev pub modulus_of : Text → Option ℕ
modulus_of text = if_modulus (number_of text)

abbrev pub modulus : Given → Option ℕ
modulus given = value_or 2 modulus_of (given name.Mod)

abbrev pub modulus_if : Given → Option (Option ℕ)
modulus_if given = value_if modulus_of (given name.Mod)

abbrev pub number_under : Given → Name → (least most : ℕ) → Option ℕ
number_under given n least most = value_of (number_between least most) (given n)

abbrev pub sheets : Given → Option ℕ
sheets given = number_under given name.Sheets 1 8

abbrev pub budget : Given → Option ℕ
budget given = value_or 10000000 (number_between 1 1000000000000000) (given name.Budget)

abbrev pub index : Given → Option ℕ
index given = number_under given name.Index 1 1000000000

abbrev pub component : Given → Option ℕ
component given = value_or 1 (number_between 1 60000) (given name.Component)

abbrev pub size : Given → Option ℕ
size given = number_under given name.Size 2 19

abbrev pub from : Given → Option SearchSpot
from given = value_or (1, 0, []) spot_from (given name.From)

abbrev pub kind : Given → Option Kind
kind given = value_or Boundary (named kinds) (given name.Kind)

abbrev pub source : Given → Option Source
source given = option_map (λ k. record { kind = k; name = given name.In }) (kind given)

-- ---- the command with its values, where each has one

abbrev pub with : {A B : Type 0} → Option A → (A → Option B) → Option B
with None go = None
with (Some a) go = go a

abbrev pub input_asked : Given → Option InputAsked
input_asked given = with (source given) (λ s. Some (record { source = s }))

abbrev pub field_asked : Given → Option FieldAsked
field_asked given = with (source given) (λ s. with (modulus given) (λ p. Some (record { source = s; modulus = p })))

abbrev pub name_asked : Given → Option NameAsked
name_asked given = Some (record { name = given name.In })

abbrev pub covers_asked : Given → Option CoversAsked
covers_asked given =
    with (source given) (λ s. with (sheets given) (λ n. with (budget given) (λ b. with (from given) (λ t.
    Some (record { source = s; sheets = n; budget = b; from = t })))))

abbrev pub cover_asked : Given → Option CoverAsked
cover_asked given =
    with (source given) (λ s. with (sheets given) (λ n. with (index given) (λ i.
    with (component given) (λ c. with (budget given) (λ b. with (modulus_if given) (λ p.
    Some (record { source = s; sheets = n; index = i; component = c; budget = b; modulus = p })))))))

abbrev pub report_asked : Given → Option ReportAsked
report_asked given =
    with (source given) (λ s. with (modulus given) (λ p. with (sheets given) (λ n.
    with (budget given) (λ b. with (from given) (λ t.
    Some (record { source = s; modulus = p; sheets = n; budget = b; from = t }))))))

abbrev pub make_asked : Given → Option MakeAsked
make_asked given = with (size given) (λ n. with (modulus_if given) (λ p. Some (record { size = n; modulus = p })))

abbrev pub asked_by : Verb → Given → Option Asked
asked_by verb.Cells given = option_map cells (input_asked given)
asked_by verb.Check given = option_map check (input_asked given)
asked_by verb.Betti given = option_map betti (field_asked given)
asked_by verb.Cup given = option_map cup (field_asked given)
asked_by verb.Verify given = option_map verify (name_asked given)
asked_by verb.Migrate given = option_map migrate (name_asked given)
asked_by verb.Group given = option_map group (input_asked given)
asked_by verb.Covers given = option_map covers (covers_asked given)
asked_by verb.Cover given = option_map cover (cover_asked given)
asked_by verb.Report given = option_map report (report_asked given)
asked_by verb.Make given = option_map make (make_asked given)

-- ---- what `clap` found

abbrev pub text_under : List Row → Given
text_under rows n = first_of (word_of n) rows

abbrev pub found_under : ArgMatches → Given
found_under matches = text_under (rows_of (found_of matches))

abbrev pub verb_given : List Row → Option Verb
verb_given rows = with (first_of (codes "command") rows) (named verbs)

abbrev pub asked_given : List Row → Option Asked
asked_given rows = with (verb_given rows) (λ v. if fits v (text_under rows) then asked_by v (text_under rows) else None)

abbrev pub unless_faulty : List ErrorKind → Option Asked → Option Asked
unless_faulty [] asked = asked
unless_faulty (fault ∷ faults) asked = None

abbrev pub asked : List Text → Option Asked
asked words = unless_faulty (fault_of hap_app words) (asked_given (matches_of hap_app words))

-- ---- what is built

abbrev pub verb_is_built : Verb → Bool
verb_is_built verb.Cells = true
verb_is_built verb.Check = true
verb_is_built verb.Betti = true
verb_is_built verb.Group = true
verb_is_built verb.Covers = true
verb_is_built verb.Cover = true
verb_is_built verb.Make = true
verb_is_built other = false

abbrev pub verb_of : Asked → Verb
verb_of (cells a) = verb.Cells
verb_of (check a) = verb.Check
verb_of (betti a) = verb.Betti
verb_of (cup a) = verb.Cup
verb_of (verify a) = verb.Verify
verb_of (migrate a) = verb.Migrate
verb_of (group a) = verb.Group
verb_of (covers a) = verb.Covers
verb_of (cover a) = verb.Cover
verb_of (report a) = verb.Report
verb_of (make a) = verb.Make

abbrev pub is_built : Asked → Bool
is_built a = verb_is_built (verb_of a)

abbrev pub if_built : Option Asked → Option Asked
if_built None = None
if_built (Some a) = if is_built a then Some a else None

abbrev pub read : List Text → Option Asked
read words = if_built (asked words)
