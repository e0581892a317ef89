-- What a command reads. asked is a command with its options. store is what a source tells: the bytes under each name, or
-- None where it tells nothing. A name is None for standard input.
--   input_name asked             the name that is handed to `begin`
--   limit_of asked               the most bytes that the input may have: 16,777,216, and 67,108,864 for a certificate
--   has_input asked              the command reads an input
--   reads_input words            the words ask for a command that reads an input
--   told_store asked store       the store as the command sees it: to one that reads no input every input is empty
--   Has store name bytes         the source has these bytes under the name, as far as it tells
--   OnNamed name store P         the source has bytes under the name of which P holds. Of one that tells nothing this says
--                                that there are such bytes; what was read are some
--   OnInput asked store P        the same of the input of the command
--   IsRead asked store bytes     these are the bytes of the input, and not too many
--   IsUnread asked store rose outcome    the input was not read, and the run ends so: it is too long, or the source failed
--                                (rose), or memory was wanting
--   IsReadUnder, IsUnreadUnder   the same under a name, with a limit
use Rattle.std.specs.Prelude.{◌≡◌, ◌≤◌, ◌<◌, ℕ, List, [], length, ⊤, Bool, true, false}
use Rattle.std.specs.declared.option.Option.{Option}
use Rattle.std.specs.declared.option.Option.TheVariants.{Some, None}
use Rattle.hap_outside.specs.Stores.{Store}
use Rattle.hap_words.specs.Asked.{Asked, cells, check, betti, cup, verify, migrate, group, covers, cover, report, make}
use Rattle.hap_ends.specs.declared.outcome.Outcome.{Outcome}
use Rattle.hap_ends.specs.declared.outcome.Outcome.TheVariants.{Refused, ReadFault, Memory}
use Rattle.hap_ends.specs.declared.refusal.Refusal.TheVariants.{TooLong}

abbrev pub input_name : Asked → Option (List ℕ)
input_name (cells o) = o.source.name
input_name (check o) = o.source.name
input_name (betti o) = o.source.name
input_name (cup o) = o.source.name
input_name (verify o) = o.name
input_name (migrate o) = o.name
input_name (group o) = o.source.name
input_name (covers o) = o.source.name
input_name (cover o) = o.source.name
input_name (report o) = o.source.name
input_name (make o) = None

abbrev pub limit_of : Asked → ℕ
limit_of (verify o) = 67108864
limit_of (migrate o) = 67108864
limit_of other = 16777216

abbrev pub has_input : Asked → Bool
has_input (make o) = false
has_input other = true

abbrev pub reads_input : Option Asked → Bool
reads_input None = false
reads_input (Some asked) = has_input asked

abbrev pub told_store : Asked → Option Store → Option Store
told_store (make o) store = Some (λ name. Some [])
told_store other store = store

-- ---- bytes under a name

abbrev pub Has : Option Store → Option (List ℕ) → List ℕ → Type 0
Has None name bytes = ⊤
Has (Some store) name bytes = store name ≡ Some bytes

pub record OnNamed (name : Option (List ℕ)) (store : Option Store) (P : List ℕ → Type 0) : Type 0 where
  pub bytes : List ℕ
  pub has : Has store name bytes
  pub holds : P bytes

abbrev pub OnInput : Asked → Option Store → (List ℕ → Type 0) → Type 0
OnInput asked store P = OnNamed (input_name asked) (told_store asked store) P

abbrev pub IsReadUnder : Option (List ℕ) → (limit : ℕ) → Option Store → List ℕ → Type 0
IsReadUnder name limit store bytes = Has store name bytes × (length bytes ≤ limit)

abbrev pub IsUnreadUnder : Option (List ℕ) → (limit : ℕ) → Option Store → (rose : Type 0) → Outcome → Type 0
IsUnreadUnder name limit store rose (Refused cause) = (cause ≡ TooLong limit) × OnNamed name store (λ bytes. limit < length bytes)
IsUnreadUnder name limit store rose ReadFault = rose
IsUnreadUnder name limit store rose Memory = ⊤
IsUnreadUnder name limit store rose other = ⊥

abbrev pub IsRead : Asked → Option Store → List ℕ → Type 0
IsRead asked store bytes = IsReadUnder (input_name asked) (limit_of asked) (told_store asked store) bytes

abbrev pub IsUnread : Asked → Option Store → (rose : Type 0) → Outcome → Type 0
IsUnread asked store rose outcome = IsUnreadUnder (input_name asked) (limit_of asked) (told_store asked store) rose outcome
