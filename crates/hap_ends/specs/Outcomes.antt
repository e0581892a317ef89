-- How a run ends: its status and its line.
--   usage_line                the line where the words are refused
--   status_of outcome         the status
--   line_of outcome           the line for err, and nothing where the run is done
--   written_outcome answer    how a run ends after its answer was written, or was not
--   text_outcome, space_outcome, array_outcome, facet_outcome, regular_outcome, chain_outcome, word_outcome, search_outcome,
--   cover_outcome
--                             how it ends at a fault of these
--   Fails stage outcome       a stage that gives a value or a refusal refuses for this cause, or memory was wanting
--   Yields stage result       Ok comes with the value of the stage, and else the stage fails so
--   Tells old new line failed    the line was appended, or err failed; in any case a prefix of it was appended
use Rattle.std.specs.Prelude.{◌≡◌, ◌⊎◌, ◌≤◌, ℕ, List, [], codes, length, take, ⊤}
use Rattle.std.specs.declared.option.Option.{Option}
use Rattle.std.specs.declared.result.Result.{Result}
use Rattle.std.specs.declared.result.Result.TheVariants.{Ok, Err}
use Rattle.std.specs.Io.KnownBytes.{Appends}
use Rattle.hap_ends.specs.declared.outcome.Outcome.{Outcome}
use Rattle.hap_ends.specs.declared.outcome.Outcome.TheVariants.{Done, Spent, Usage, Refused, ReadFault, WriteFault, Memory}
use Rattle.hap_ends.specs.declared.refusal.Refusal.{Refusal}
use Rattle.hap_ends.specs.declared.refusal.Refusal.TheVariants.{Text, Space, Array, Facet, Irregular, Components, Chains, Word, Position, Index, TotalCells}
use Rattle.hap_ends.specs.declared.refusal.Refusal.TheVariants as refused
use Rattle.gap_text.specs.declared.fault.TextFault.{TextFault}
use Rattle.gap_text.specs.declared.fault.TextFault.TheVariants as in_text
use Rattle.face_poset.specs.declared.fault.SpaceFault.{SpaceFault}
use Rattle.face_poset.specs.declared.fault.SpaceFault.TheVariants as in_space
use Rattle.array_values.specs.declared.fault.ArrayFault.{ArrayFault}
use Rattle.array_values.specs.declared.fault.ArrayFault.TheVariants as in_array
use Rattle.facet_reader.specs.declared.fault.FacetFault.{FacetFault}
use Rattle.facet_reader.specs.declared.fault.FacetFault.TheVariants as in_facet
use Rattle.regular_check.specs.declared.fault.RegularFault.{RegularFault}
use Rattle.regular_check.specs.declared.fault.RegularFault.TheVariants as in_rules
use Rattle.order_complex.specs.declared.fault.ChainFault.{ChainFault}
use Rattle.order_complex.specs.declared.fault.ChainFault.TheVariants as in_chains
use Rattle.edge_words.specs.declared.fault.WordFault.{WordFault}
use Rattle.edge_words.specs.declared.fault.WordFault.TheVariants as in_words
use Rattle.cover_search.specs.declared.fault.SearchFault.{SearchFault}
use Rattle.cover_search.specs.declared.fault.SearchFault.TheVariants as in_search
use Rattle.part_covers.specs.declared.fault.CoverFault.{CoverFault}
use Rattle.part_covers.specs.declared.fault.CoverFault.TheVariants as in_covers
use Rattle.hap_ends.specs.Refusals.{refusal_status, refusal_line, spent_line, bare}

abbrev pub usage_line : List ℕ
usage_line = codes "hap: usage: hap COMMAND [--kind K] [--in NAME] [--mod P] [--sheets N] [--budget B] [--from T] [--index I] [--size N] [--component C]\n"

abbrev pub status_of : Outcome → ℕ
status_of Done = 0
status_of (Spent spot) = 6
status_of Usage = 2
status_of (Refused cause) = refusal_status cause
status_of ReadFault = 7
status_of WriteFault = 8
status_of Memory = 9

abbrev pub line_of : Outcome → List ℕ
line_of Done = []
line_of (Spent spot) = spent_line spot
line_of Usage = usage_line
line_of (Refused cause) = refusal_line cause
line_of ReadFault = codes "hap: read fault\n"
line_of WriteFault = codes "hap: write fault\n"
line_of Memory = codes "hap: want of memory\n"

abbrev pub written_outcome : {T E : Type 0} → Result T E → Outcome
written_outcome (Ok written) = Done
written_outcome (Err failed) = WriteFault

-- ---- faults of what a stage reads

abbrev pub text_outcome : TextFault → Outcome
text_outcome in_text.Memory = Memory
text_outcome fault = Refused (Text fault)

abbrev pub space_outcome : SpaceFault → Outcome
space_outcome in_space.Memory = Memory
space_outcome fault = Refused (Space fault)

abbrev pub array_outcome : ArrayFault → Outcome
array_outcome in_array.Memory = Memory
array_outcome fault = Refused (Array fault)

abbrev pub facet_outcome : FacetFault → Outcome
facet_outcome in_facet.Memory = Memory
facet_outcome fault = Refused (Facet fault)

abbrev pub regular_outcome : RegularFault → Outcome
regular_outcome in_rules.Memory = Memory
regular_outcome fault = Refused (Irregular fault)

abbrev pub chain_outcome : ChainFault → Outcome
chain_outcome in_chains.Memory = Memory
chain_outcome (in_chains.TooManyChains count) = Refused (Chains count)

abbrev pub word_outcome : WordFault → Outcome
word_outcome in_words.Memory = Memory
word_outcome (in_words.TooLong cell) = Refused (Word cell)

abbrev pub search_outcome : SearchFault → Outcome
search_outcome in_search.Memory = Memory
search_outcome in_search.BadPosition = Refused Position

abbrev pub cover_outcome : CoverFault → Outcome
cover_outcome in_covers.Memory = Memory
cover_outcome (in_covers.Components count) = Refused (Components count)
cover_outcome (in_covers.Word cell) = Refused (Word cell)
cover_outcome (in_covers.Spent spot) = Refused (refused.Spent spot)
cover_outcome (in_covers.Index count) = Refused (Index count)
cover_outcome in_covers.TotalCells = Refused TotalCells

abbrev pub Fails : {A : Type 0} → Result A Refusal → Outcome → Type 0
Fails stage (Refused cause) = stage ≡ Err (bare cause)
Fails stage Memory = ⊤
Fails stage other = ⊥

abbrev pub Yields : {A : Type 0} → Result A Refusal → Result A Outcome → Type 0
Yields stage (Ok value) = stage ≡ Ok value
Yields stage (Err outcome) = Fails stage outcome

-- ---- what err shows

pub record Tells (old new : Option (List ℕ)) (line : List ℕ) (failed : Type 0) : Type 0 where
  pub whole : failed ⊎ Appends old new line
  pub part : (n : ℕ) × (n ≤ length line) × Appends old new (take n line)
