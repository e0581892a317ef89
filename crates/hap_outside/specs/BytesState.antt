-- What contracts see of a source in memory that has bytes under names.
--   NamedBytes                a name, None for standard input, with the bytes that were put under it
--   BytesState                entries: what was put, in order; listed: the numbers of the calls that fail; calls: how many were made;
--                             faults: how many failed; begun: whether begin was called; rest: what is then left to read
--   same_name name wanted     the two names are the same text, or both None
--   lookup entries name       the bytes that were put last under the name
--   counted source            one call more was made
--   counted_fault source      one call more was made, and it failed
--   begin_fails source name   a begin under the name fails: its number is listed, or nothing was put under the name
use Rattle.std.specs.Prelude.{ℕ, Bool, true, false, ◌||◌, List, [], ◌∷◌, is_none, if◌then◌else◌}
use Rattle.std.specs.Option.{option_or}
use Rattle.std.specs.declared.option.Option.{Option}
use Rattle.std.specs.declared.option.Option.TheVariants.{Some, None}
use Rattle.std.specs.Str.{bytes_eq}
use Rattle.hap_outside.specs.Causes.{next_count, next_fails}

abbrev pub NamedBytes : Type 0
NamedBytes = Option (List ℕ) × List ℕ

pub record BytesState : Type 0 where
  pub entries : List NamedBytes
  pub listed : List ℕ
  pub calls : ℕ
  pub faults : ℕ
  pub begun : Bool
  pub rest : List ℕ

abbrev pub same_name : Option (List ℕ) → Option (List ℕ) → Bool
same_name None None = true
same_name None (Some wanted) = false
same_name (Some name) None = false
same_name (Some name) (Some wanted) = bytes_eq name wanted

abbrev pub lookup : List NamedBytes → Option (List ℕ) → Option (List ℕ)
lookup [] wanted = None
lookup (entry ∷ entries) wanted =
    option_or (lookup entries wanted) (if same_name entry.0 wanted then Some entry.1 else None)

abbrev pub counted : BytesState → BytesState
counted source = record source { calls = next_count source.calls }

abbrev pub counted_fault : BytesState → BytesState
counted_fault source = record source { calls = next_count source.calls; faults = next_count source.faults }

abbrev pub begin_fails : BytesState → Option (List ℕ) → Bool
begin_fails source name = next_fails source.listed source.calls || is_none (lookup source.entries name)
