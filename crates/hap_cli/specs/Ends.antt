-- How a run ends, with the cause and with what is on the output. store is what the source tells; read and write say that the
-- count of faults of the source, and that of the output, rose; old and new are what the output holds before and after.
--   Answers asked bytes text     the text is an answer on an input that is not refused
--   ending asked bytes           the spot at which the search of a command is spent that writes while it searches; or None
--   writes_while asked           the command writes while it searches
--   status_for refusal ending    the status where nothing fails outside: that of the refusal, else 6 at a spot, else 0
--   may_write outcome            a run that ends so may have written
--   asks_cover words             the words ask for `cover`, which writes nothing where its budget is spent
--   Wrote asked bytes old new    an answer on these bytes was appended; WrotePart: less than all of it
--   EndsOn asked bytes write old new outcome        why the command ends so on these bytes, and what was then appended
--   IsEnd asked store read write old new outcome    why the command ends so, on its input
--   EndsBy words store read write old new outcome   the same of what the words ask for: where they are refused, that is the
--                                                   cause, or memory was wanting to read them. Nothing in it speaks of err
use Rattle.std.specs.Prelude.{◌≡◌, ◌⊎◌, ◌<◌, ℕ, List, Bool, true, false, length, take, MatchOption}
use Rattle.std.specs.declared.result.Result.{Result}
use Rattle.std.specs.declared.result.Result.TheVariants.{Ok, Err}
use Rattle.std.specs.declared.option.Option.{Option}
use Rattle.std.specs.declared.option.Option.TheVariants.{Some, None}
use Rattle.std.specs.Io.KnownBytes.{Appends, Keeps}
use Rattle.hap_outside.specs.Stores.{Store}
use Rattle.face_poset.specs.Poset.{Layers}
use Rattle.hap_words.specs.Asked.{Asked, CoversAsked, SearchSpot, covers, cover, spot_of}
use Rattle.hap_ends.specs.declared.outcome.Outcome.{Outcome}
use Rattle.hap_ends.specs.declared.outcome.Outcome.TheVariants.{Done, Spent, Usage, Refused, ReadFault, WriteFault, Memory}
use Rattle.hap_ends.specs.declared.refusal.Refusal.{Refusal}
use Rattle.hap_ends.specs.Refusals.{refusal_status, bare}
use Rattle.hap_inputs.specs.Input.{OnInput}
use Rattle.hap_inputs.specs.Spaces.{regular_in}
use Rattle.hap_cli.specs.Refusals.{refusal}
use Rattle.hap_cli.specs.CoverTexts.{spent_on}
use Rattle.hap_cli.specs.Answers.{IsAnswer}

abbrev pub Answers : Asked → List ℕ → List ℕ → Type 0
Answers asked bytes text = (refusal asked bytes ≡ None) × IsAnswer asked bytes text

abbrev pub ending_in : CoversAsked → Result Layers Refusal → Option SearchSpot
ending_in o (Ok space) = spent_on space o
ending_in o (Err refusal) = None

abbrev pub ending : Asked → List ℕ → Option SearchSpot
ending (covers o) bytes = ending_in o (regular_in o.source.kind bytes)
ending other bytes = None

abbrev pub writes_while : Asked → Bool
writes_while (covers o) = true
writes_while other = false

abbrev pub status_for : Option Refusal → Option SearchSpot → ℕ
status_for (Some cause) ending = refusal_status cause
status_for None (Some spot) = 6
status_for None None = 0

abbrev pub may_write : Outcome → Bool
may_write Done = true
may_write (Spent spot) = true
may_write WriteFault = true
may_write other = false

abbrev pub asks_cover : Option Asked → Bool
asks_cover (Some (cover o)) = true
asks_cover other = false

-- ---- the ends

pub record Wrote (asked : Asked) (bytes : List ℕ) (old new : Option (List ℕ)) : Type 0 where
  pub text : List ℕ
  pub answers : Answers asked bytes text
  pub appended : Appends old new text

pub record WrotePart (asked : Asked) (bytes : List ℕ) (old new : Option (List ℕ)) : Type 0 where
  pub text : List ℕ
  pub answers : Answers asked bytes text
  pub count : ℕ
  pub less : count < length text
  pub appended : Appends old new (take count text)

abbrev pub EndsOn : Asked → List ℕ → (write : Type 0) → (old new : Option (List ℕ)) → Outcome → Type 0
EndsOn asked bytes write old new Done = (ending asked bytes ≡ None) × Wrote asked bytes old new
EndsOn asked bytes write old new (Spent spot) = (ending asked bytes ≡ Some (spot_of spot)) × Wrote asked bytes old new
EndsOn asked bytes write old new (Refused cause) = (refusal asked bytes ≡ Some (bare cause)) × Keeps old new
EndsOn asked bytes write old new WriteFault = write × WrotePart asked bytes old new
EndsOn asked bytes write old new Memory = Keeps old new
EndsOn asked bytes write old new other = ⊥

abbrev pub IsEnd : Asked → Option Store → (read write : Type 0) → (old new : Option (List ℕ)) → Outcome → Type 0
IsEnd asked store read write old new ReadFault = read × Keeps old new
IsEnd asked store read write old new Memory = Keeps old new
IsEnd asked store read write old new outcome = OnInput asked store (λ bytes. EndsOn asked bytes write old new outcome)

abbrev pub EndsBy : Option Asked → Option Store → (read write : Type 0) → (old new : Option (List ℕ)) → Outcome → Type 0
EndsBy words store read write old new outcome =
    MatchOption words ((outcome ≡ Usage) ⊎ (outcome ≡ Memory)) (λ asked. IsEnd asked store read write old new outcome)
