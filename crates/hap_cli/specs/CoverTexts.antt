-- What `covers` writes. Ps are the relations of the parts of the components from that of the spot T on, n is the most sheets,
-- B the budget; several says whether the space has more than one component.
--   event_text several event   the lines of what a listing hands on: where a component begins its columns, with its number
--                              before them where there are several; a cover; where it ends, how many covers it has of each
--                              number of sheets
--   member_in spot, search_spot q   a spot of the words as a member of a listing, and back
--   spot_words spot            the text of a spot, `-` for the start
--   ending_text spent          `done`, or the spot where the budget is spent
--   listing_text several Ps n T B   the lines of a listing
--   has_several space          the space has more than one component
--   spent_on space o           the spot where the listing that is asked for is spent in the space
--   covers_text space o        the lines of that listing
-- and for the code
--   ended_outcome answer       how a run ends whose listing was written so, or was not
--   Plans, IsPlan stage first r   the presentations of the space that comes past the stage, from a component on; or why it does
--                              not come past it
--   ListsWhole, ListsPart      the listing may begin, and its text, or less than all of it, was appended
--   Lists several Ps o write old new outcome   how a listing ends, and what was then appended
use Rattle.std.specs.Prelude.{◌≡◌, ◌==◌, ◌≤◌, ◌<◌, ◌+◌, ℕ, List, [], ◌++◌, codes, decimal, length, take, option_map, Bool, true, false, nat_lt, if◌then◌else◌}
use Rattle.std.specs.List.{flat_map}
use Rattle.std.specs.declared.option.Option.{Option}
use Rattle.std.specs.declared.option.Option.TheVariants.{Some, None}
use Rattle.std.specs.declared.result.Result.{Result}
use Rattle.std.specs.declared.result.Result.TheVariants.{Ok, Err}
use Rattle.std.specs.Io.KnownBytes.{Appends, Keeps}
use Rattle.face_poset.specs.Poset.{Layers}
use Rattle.regular_check.specs.Components.{component_count}
use Rattle.live_laws.specs.Live.{Relations}
use Rattle.certificates.specs.Placed.{spot_or_start_text}
use Rattle.certificates.specs.Texts.{cover_text}
use Rattle.part_groups.specs.Groups.{presented_from}
use Rattle.cover_listing.specs.Listings.{Member, listing}
use Rattle.cover_listing.specs.Events.{Event, Begins, Finds, Ends, events}
use Rattle.cover_listing.specs.declared.listing.Ending.{Ending}
use Rattle.cover_listing.specs.declared.listing.Ending.TheVariants as ending
use Rattle.hap_words.specs.Asked.{CoversAsked, SearchSpot, spot_of}
use Rattle.hap_ends.specs.declared.outcome.Outcome.{Outcome}
use Rattle.hap_ends.specs.declared.outcome.Outcome.TheVariants.{Done, Spent, Refused, WriteFault, Memory}
use Rattle.hap_ends.specs.declared.refusal.Refusal.{Refusal}
use Rattle.hap_ends.specs.declared.refusal.Refusal.TheVariants.{Position}
use Rattle.hap_ends.specs.Refusals.{bare}
use Rattle.hap_ends.specs.Outcomes.{Fails}
use Rattle.cover_listing.specs.PartCovers.{relations_from}
use Rattle.hap_inputs.specs.Spaces.{position_in, is_begin}
use Rattle.hap_cli.specs.GroupTexts.{counted_line}
use Rattle.hap_cli.specs.declared.covers.CoverPlan.{CoverPlan}

abbrev pub counts_text : List ℕ → List ℕ
counts_text counts = codes "counts" ++ (flat_map (λ k. codes " " ++ decimal k) counts ++ codes "\n")

abbrev pub component_front : Bool → (component : ℕ) → List ℕ
component_front several component = if several then counted_line (codes "component ") component else []

abbrev pub event_text : Bool → Event → List ℕ
event_text several (Begins component columns) = component_front several component ++ counted_line (codes "columns ") columns
event_text several (Finds columns t) = cover_text t.0 columns t.1
event_text several (Ends counts) = counts_text counts

abbrev pub member_in : SearchSpot → Member
member_in spot = (spot.0, position_in spot)

abbrev pub search_spot : Member → SearchSpot
search_spot q = (q.0, q.1.0, q.1.1)

abbrev pub spot_words : Member → List ℕ
spot_words spot = spot_or_start_text (if spot.1.0 == 0 then None else Some (search_spot spot))

abbrev pub ending_text : Option Member → List ℕ
ending_text None = codes "done\n"
ending_text (Some spot) = codes "spent " ++ (spot_words spot ++ codes "\n")

abbrev pub listing_text : Bool → List Relations → (n : ℕ) → Member → (B : ℕ) → List ℕ
listing_text several Ps n T B = flat_map (event_text several) (events Ps n T B) ++ ending_text (listing Ps n T B).spent

abbrev pub has_several : Layers → Bool
has_several space = nat_lt 1 (component_count space)

abbrev pub spent_on : Layers → CoversAsked → Option SearchSpot
spent_on space o = option_map search_spot (listing (relations_from space o.from.0) o.sheets (member_in o.from) o.budget).spent

abbrev pub covers_text : Layers → CoversAsked → List ℕ
covers_text space o = listing_text (has_several space) (relations_from space o.from.0) o.sheets (member_in o.from) o.budget

-- ---- for the code

abbrev pub ended_outcome : {E : Type 0} → Result Ending E → Outcome
ended_outcome (Ok ending.Done) = Done
ended_outcome (Ok (ending.Spent spot)) = Spent spot
ended_outcome (Err failed) = WriteFault

pub record Plans (stage : Result Layers Refusal) (first : ℕ) (plan : CoverPlan) : Type 0 where
  pub space : Layers
  pub past : stage ≡ Ok space
  pub presentations : plan.presentations.items ≡ presented_from space first
  pub several : plan.several ≡ has_several space
  pub few : first + length plan.presentations.items ≤ 60001

abbrev pub IsPlan : Result Layers Refusal → (first : ℕ) → Result CoverPlan Outcome → Type 0
IsPlan stage first (Ok plan) = Plans stage first plan
IsPlan stage first (Err outcome) = Fails stage outcome

pub record ListsWhole (several : Bool) (Ps : List Relations) (o : CoversAsked) (stop : Option SearchSpot) (old new : Option (List ℕ)) : Type 0 where
  pub begins : is_begin Ps o.sheets (position_in o.from) ≡ true
  pub spent : option_map search_spot (listing Ps o.sheets (member_in o.from) o.budget).spent ≡ stop
  pub appended : Appends old new (listing_text several Ps o.sheets (member_in o.from) o.budget)

pub record ListsPart (several : Bool) (Ps : List Relations) (o : CoversAsked) (old new : Option (List ℕ)) : Type 0 where
  pub begins : is_begin Ps o.sheets (position_in o.from) ≡ true
  pub count : ℕ
  pub less : count < length (listing_text several Ps o.sheets (member_in o.from) o.budget)
  pub appended : Appends old new (take count (listing_text several Ps o.sheets (member_in o.from) o.budget))

abbrev pub Lists : Bool → List Relations → CoversAsked → (write : Type 0) → (old new : Option (List ℕ)) → Outcome → Type 0
Lists several Ps o write old new Done = ListsWhole several Ps o None old new
Lists several Ps o write old new (Spent spot) = ListsWhole several Ps o (Some (spot_of spot)) old new
Lists several Ps o write old new (Refused cause) = (bare cause ≡ Position) × (is_begin Ps o.sheets (position_in o.from) ≡ false) × Keeps old new
Lists several Ps o write old new WriteFault = write × ListsPart several Ps o old new
Lists several Ps o write old new Memory = Keeps old new
Lists several Ps o write old new other = ⊥
