-- The space that bytes stand for, stage by stage. A stage gives a value, or the refusal with which the run ends. kind says
-- how the bytes are to be read.
--   chain_limit                   the most chains of an order complex
--   space_of_kind kind value      the space of a value, or its first fault as what the kind says
--   space_in kind bytes           first the text is read, and then the space of its value
--   only_regular stage            after a stage: refused where the space breaks a rule of regularity
--   only_few stage                after a stage: refused where the order complex has more chains than are taken
--   only_worded stage             after a stage: refused where the word of a cell is too long in the part of a component
--   only_worded_from first stage  the same of the components from the first one on
--   is_begin Ps n t               a listing of the components with these relations, of at most n sheets, may begin at the position t
--                                 of the first: it is the start, or live there
--   position_in spot              the position of a spot in its component
--   only_begun n spot stage       after a stage: refused where the listing may not begin at the spot
--   cover_fault_of, cover_stage_of   a fault of a cover as a refusal, and a stage that gives a cover
--   only_cover w stage            after a stage: the cover that is wanted of the space, refused where there is no such component, a word
--                                 of its part is too long, the budget of the search is spent before it is found, there are fewer, or its
--                                 total space has too many cells, the first of these in this order
--   only_few_over modulus stage   after a stage that gives a cover: its total space, with a modulus refused where the order complex of that
--                                 has more chains than are taken
--   regular_in, few_in, worded_in kind bytes   the space of the bytes after these stages
--   begun_in kind bytes n spot    the same after the stages of a listing
--   wanted_by o                   the cover that is asked for
--   cover_in, total_in kind bytes o   that cover of the space of the bytes, and its total space, after their stages
--   fault_in stage                the refusal of a stage, if there is one
--   of_value, of_array, of_facets, of_text, unless_broken, unless_long, is_live_first, total_few: steps
use Rattle.std.specs.Prelude.{ℕ, List, [], ◌∷◌, length, Bool, false, ◌==◌, ◌&&◌, ◌||◌, nat_lt, nat_le, if◌then◌else◌}
use Rattle.std.specs.declared.result.Result.{Result}
use Rattle.std.specs.declared.result.Result.TheVariants.{Ok, Err}
use Rattle.std.specs.declared.option.Option.{Option}
use Rattle.std.specs.declared.option.Option.TheVariants.{Some, None}
use Rattle.face_poset.specs.Poset.{Layers}
use Rattle.gap_text.specs.declared.fault.TextFault.{TextFault}
use Rattle.gap_text.specs.Reading.{value_of}
use Rattle.gap_text.specs.Value.{Value}
use Rattle.face_poset.specs.declared.fault.SpaceFault.{SpaceFault}
use Rattle.face_poset.specs.Reader.{space_of}
use Rattle.array_values.specs.declared.fault.ArrayFault.{ArrayFault}
use Rattle.tuple_spaces.specs.Voxels.{cubical_of}
use Rattle.voxel_spaces.specs.ArcComplements.{arcs_space_of}
use Rattle.permutahedral_arrays.specs.Permutahedra.{permutahedral_of}
use Rattle.facet_reader.specs.declared.fault.FacetFault.{FacetFault}
use Rattle.facet_reader.specs.Simplices.{simplices_of}
use Rattle.facet_reader.specs.Orders.{poset_of}
use Rattle.hap_words.specs.declared.command.Kind.{Kind}
use Rattle.hap_words.specs.declared.command.Kind.TheVariants.{Boundary, Cubical, Permutahedral, Arcs, Simplices, Poset}
use Rattle.regular_check.specs.declared.fault.RegularFault.{RegularFault}
use Rattle.regular_check.specs.Rules.{first_fault}
use Rattle.order_complex.specs.Chains.{chain_count}
use Rattle.face_poset.specs.declared.cells.Cell.{Cell}
use Rattle.live_laws.specs.Live.{Relations, Position, is_live}
use Rattle.part_groups.specs.Groups.{long_word, long_from}
use Rattle.cover_listing.specs.PartCovers.{relations_from}
use Rattle.part_covers.specs.declared.wanted.Wanted.{Wanted}
use Rattle.part_covers.specs.declared.fault.CoverFault.{CoverFault}
use Rattle.part_covers.specs.declared.fault.CoverFault.TheVariants as in_covers
use Rattle.part_covers.specs.Covered.{Covering, covering_in}
use Rattle.hap_words.specs.Asked.{SearchSpot, CoverAsked}
use Rattle.hap_ends.specs.declared.refusal.Refusal.{Refusal}
use Rattle.hap_ends.specs.declared.refusal.Refusal.TheVariants as refused
use Rattle.hap_ends.specs.declared.refusal.Refusal.TheVariants.{Text, Space, Array, Facet, Irregular, Components, Chains, Word, Index, TotalCells}

abbrev pub chain_limit : ℕ
chain_limit = 700000

abbrev pub fault_in : {A : Type 0} → Result A Refusal → Option Refusal
fault_in (Ok value) = None
fault_in (Err refusal) = Some refusal

-- ---- the space of the bytes, by its kind

abbrev pub of_value : Result Layers SpaceFault → Result Layers Refusal
of_value (Ok space) = Ok space
of_value (Err fault) = Err (Space fault)

abbrev pub of_array : Result Layers ArrayFault → Result Layers Refusal
of_array (Ok space) = Ok space
of_array (Err fault) = Err (Array fault)

abbrev pub of_facets : Result Layers FacetFault → Result Layers Refusal
of_facets (Ok space) = Ok space
of_facets (Err fault) = Err (Facet fault)

abbrev pub space_of_kind : Kind → Value → Result Layers Refusal
space_of_kind Boundary value = of_value (space_of value)
space_of_kind Cubical value = of_array (cubical_of value)
space_of_kind Permutahedral value = of_array (permutahedral_of value)
space_of_kind Arcs value = of_array (arcs_space_of value)
space_of_kind Simplices value = of_facets (simplices_of value)
space_of_kind Poset value = of_facets (poset_of value)

abbrev pub of_text : Kind → Result Value TextFault → Result Layers Refusal
of_text kind (Ok value) = space_of_kind kind value
of_text kind (Err fault) = Err (Text fault)

abbrev pub space_in : Kind → List ℕ → Result Layers Refusal
space_in kind bytes = of_text kind (value_of bytes)

-- ---- the stages after it; each refuses what the ones before it let through

abbrev pub unless_broken : Layers → Option RegularFault → Result Layers Refusal
unless_broken space None = Ok space
unless_broken space (Some fault) = Err (Irregular fault)

abbrev pub only_regular : Result Layers Refusal → Result Layers Refusal
only_regular (Ok space) = unless_broken space (first_fault space)
only_regular (Err refusal) = Err refusal

abbrev pub only_few : Result Layers Refusal → Result Layers Refusal
only_few (Ok space) = if nat_lt chain_limit (chain_count space) then Err (Chains (chain_count space)) else Ok space
only_few (Err refusal) = Err refusal

abbrev pub unless_long : Layers → Option Cell → Result Layers Refusal
unless_long space None = Ok space
unless_long space (Some cell) = Err (Word cell)

abbrev pub only_worded : Result Layers Refusal → Result Layers Refusal
only_worded (Ok space) = unless_long space (long_word space)
only_worded (Err refusal) = Err refusal

abbrev pub only_worded_from : (first : ℕ) → Result Layers Refusal → Result Layers Refusal
only_worded_from first (Ok space) = unless_long space (long_from space first)
only_worded_from first (Err refusal) = Err refusal

abbrev pub is_live_first : List Relations → (n : ℕ) → Position → Bool
is_live_first [] n t = false
is_live_first (P ∷ Ps) n t = nat_le 1 t.0 && (nat_le t.0 n && is_live P t.0 t.1)

abbrev pub is_begin : List Relations → (n : ℕ) → Position → Bool
is_begin Ps n t = ((t.0 == 0) && (length t.1 == 0)) || is_live_first Ps n t

abbrev pub position_in : SearchSpot → Position
position_in spot = (spot.1, spot.2)

abbrev pub only_begun : (n : ℕ) → SearchSpot → Result Layers Refusal → Result Layers Refusal
only_begun n spot (Ok space) = if is_begin (relations_from space spot.0) n (position_in spot) then Ok space else Err refused.Position
only_begun n spot (Err refusal) = Err refusal

-- want of memory refuses no cover, so that its case is never met
abbrev pub cover_fault_of : CoverFault → Refusal
cover_fault_of (in_covers.Components count) = Components count
cover_fault_of (in_covers.Word cell) = Word cell
cover_fault_of (in_covers.Spent spot) = refused.Spent spot
cover_fault_of (in_covers.Index count) = Index count
cover_fault_of in_covers.TotalCells = TotalCells
cover_fault_of in_covers.Memory = TotalCells

abbrev pub cover_stage_of : {A : Type 0} → Result A CoverFault → Result A Refusal
cover_stage_of (Ok cover) = Ok cover
cover_stage_of (Err fault) = Err (cover_fault_of fault)

abbrev pub only_cover : Wanted → Result Layers Refusal → Result Covering Refusal
only_cover w (Ok space) = cover_stage_of (covering_in space w)
only_cover w (Err refusal) = Err refusal

abbrev pub total_few : (modulus : Option ℕ) → (total : Layers) → Result Layers Refusal
total_few None total = Ok total
total_few (Some p) total = only_few (Ok total)

abbrev pub only_few_over : (modulus : Option ℕ) → Result Covering Refusal → Result Layers Refusal
only_few_over modulus (Ok cover) = total_few modulus cover.total
only_few_over modulus (Err refusal) = Err refusal

abbrev pub regular_in : Kind → List ℕ → Result Layers Refusal
regular_in kind bytes = only_regular (space_in kind bytes)

abbrev pub few_in : Kind → List ℕ → Result Layers Refusal
few_in kind bytes = only_few (regular_in kind bytes)

abbrev pub worded_in : Kind → List ℕ → Result Layers Refusal
worded_in kind bytes = only_worded (regular_in kind bytes)

abbrev pub begun_in : Kind → List ℕ → (n : ℕ) → SearchSpot → Result Layers Refusal
begun_in kind bytes n spot = only_begun n spot (only_worded_from spot.0 (regular_in kind bytes))

abbrev pub wanted_by : CoverAsked → Wanted
wanted_by o = record { component = o.component; sheets = o.sheets; index = o.index; budget = o.budget }

abbrev pub cover_in : Kind → List ℕ → CoverAsked → Result Covering Refusal
cover_in kind bytes o = only_cover (wanted_by o) (regular_in kind bytes)

abbrev pub total_in : Kind → List ℕ → CoverAsked → Result Layers Refusal
total_in kind bytes o = only_few_over o.modulus (cover_in kind bytes o)
