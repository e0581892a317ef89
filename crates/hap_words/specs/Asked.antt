-- The commands with their options as values. Each case holds one record, so that an option more changes no match.
--   Source               the kind of an input and the name of its file, None for standard input
--   SearchSpot           a spot in the listing of covers: a component, and in it the number of sheets and the cells
--                        that were placed; the start is component 1 with no sheet and no cell
--   InputAsked, FieldAsked, NameAsked, CoversAsked, CoverAsked, ReportAsked, MakeAsked   the options, by name
--   Asked                a command with the values of its options
--   source_of input      what an `Input` of the code stands for
--   spot_of mark         the spot of a `Spot` of the code
--   input_of, field_of, name_of, covers_of, cover_of, report_of, make_of   what the options of the code stand for
--   asked_of command     what a `Command` of the code stands for
use Rattle.std.specs.Prelude.{ℕ, List, option_map, string_bytes}
use Rattle.std.specs.declared.option.Option.{Option}
use Rattle.sheet_tables.specs.Spots.{Mark}
use Rattle.hap_words.specs.declared.command.Kind.{Kind}
use Rattle.hap_words.specs.declared.command.Input.{Input}
use Rattle.hap_words.specs.declared.command.InputOptions.{InputOptions}
use Rattle.hap_words.specs.declared.command.FieldOptions.{FieldOptions}
use Rattle.hap_words.specs.declared.command.NameOptions.{NameOptions}
use Rattle.hap_words.specs.declared.command.CoversOptions.{CoversOptions}
use Rattle.hap_words.specs.declared.command.CoverOptions.{CoverOptions}
use Rattle.hap_words.specs.declared.command.ReportOptions.{ReportOptions}
use Rattle.hap_words.specs.declared.command.MakeOptions.{MakeOptions}
use Rattle.hap_words.specs.declared.command.Command.{Command}
use Rattle.hap_words.specs.declared.command.Command.TheVariants as command

pub record Source : Type 0 where
  pub kind : Kind
  pub name : Option (List ℕ)

abbrev pub SearchSpot : Type 0
SearchSpot = ℕ × ℕ × List ℕ

-- ---- the options of each command

pub record InputAsked : Type 0 where
  pub source : Source

pub record FieldAsked : Type 0 where
  pub source : Source
  pub modulus : ℕ

pub record NameAsked : Type 0 where
  pub name : Option (List ℕ)

pub record CoversAsked : Type 0 where
  pub source : Source
  pub sheets : ℕ
  pub budget : ℕ
  pub from : SearchSpot

pub record CoverAsked : Type 0 where
  pub source : Source
  pub sheets : ℕ
  pub index : ℕ
  pub component : ℕ
  pub budget : ℕ
  pub modulus : Option ℕ

pub record ReportAsked : Type 0 where
  pub source : Source
  pub modulus : ℕ
  pub sheets : ℕ
  pub budget : ℕ
  pub from : SearchSpot

pub record MakeAsked : Type 0 where
  pub size : ℕ
  pub modulus : Option ℕ

-- ---- the commands

pub data Asked : Type 0 where
  cells : InputAsked → Asked
  check : InputAsked → Asked
  betti : FieldAsked → Asked
  cup : FieldAsked → Asked
  verify : NameAsked → Asked
  migrate : NameAsked → Asked
  group : InputAsked → Asked
  covers : CoversAsked → Asked
  cover : CoverAsked → Asked
  report : ReportAsked → Asked
  make : MakeAsked → Asked

-- ---- what the values of the code stand for

abbrev pub source_of : Input → Source
source_of input = record { kind = input.kind; name = option_map string_bytes input.name }

abbrev pub spot_of : Mark → SearchSpot
spot_of m = (m.component, m.sheets, m.cells)

abbrev pub input_of : InputOptions → InputAsked
input_of o = record { source = source_of o.input }

abbrev pub field_of : FieldOptions → FieldAsked
field_of o = record { source = source_of o.input; modulus = o.modulus }

abbrev pub name_of : NameOptions → NameAsked
name_of o = record { name = option_map string_bytes o.name }

abbrev pub covers_of : CoversOptions → CoversAsked
covers_of o = record { source = source_of o.input; sheets = o.sheets; budget = o.budget; from = spot_of o.from }

abbrev pub cover_of : CoverOptions → CoverAsked
cover_of o = record {
  source = source_of o.input;
  sheets = o.sheets;
  index = o.index;
  component = o.component;
  budget = o.budget;
  modulus = o.modulus;
}

abbrev pub report_of : ReportOptions → ReportAsked
report_of o = record {
  source = source_of o.input;
  modulus = o.modulus;
  sheets = o.sheets;
  budget = o.budget;
  from = spot_of o.from;
}

abbrev pub make_of : MakeOptions → MakeAsked
make_of o = record { size = o.size; modulus = o.modulus }

abbrev pub asked_of : Command → Asked
asked_of (command.Cells options) = cells (input_of options)
asked_of (command.Check options) = check (input_of options)
asked_of (command.Betti options) = betti (field_of options)
asked_of (command.Cup options) = cup (field_of options)
asked_of (command.Verify options) = verify (name_of options)
asked_of (command.Migrate options) = migrate (name_of options)
asked_of (command.Group options) = group (input_of options)
asked_of (command.Covers options) = covers (covers_of options)
asked_of (command.Cover options) = cover (cover_of options)
asked_of (command.Report options) = report (report_of options)
asked_of (command.Make options) = make (make_of options)
