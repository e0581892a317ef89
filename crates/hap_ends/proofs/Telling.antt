-- What err shows, and which statuses a refusal has.
use Rattle.std.proofs.Common.{◌≡◌, ℕ, ◌≤◌, List, length, Result, Ok, Err, refl, sym, subst, inl, inr, arith}
use Rattle.std.specs.declared.option.Option.{Option}
use Rattle.std.specs.Io.KnownBytes.{Appends}
use Rattle.std.proofs.lemmas.List.{take_all}
use Rattle.face_poset.specs.declared.fault.SpaceFault.{SpaceFault}
use Rattle.face_poset.specs.declared.fault.SpaceFault.TheVariants as in_space
use Rattle.array_values.specs.declared.fault.ArrayFault.{ArrayFault}
use Rattle.array_values.specs.declared.fault.ArrayFault.TheVariants as in_array
use Rattle.facet_reader.specs.declared.fault.FacetFault.{FacetFault}
use Rattle.facet_reader.specs.declared.fault.FacetFault.TheVariants as in_facet
use Rattle.hap_outside.specs.Causes.{Rose, HasCause}
use Rattle.hap_outside.specs.Writes.{Writes}
use Rattle.hap_ends.specs.declared.refusal.Refusal.{Refusal}
use Rattle.hap_ends.specs.declared.refusal.Refusal.TheVariants.{TooLong, Text, Space, Array, Facet, Irregular, Components, Chains, Classes, Word, Position, Spent, Index, TotalCells}
use Rattle.hap_ends.specs.Refusals.{refusal_status, space_status, array_status, facet_status, bare}
use Rattle.hap_ends.specs.Outcomes.{Tells}

-- what a call that wrote a line tells, whatever it answered
pub tells : {T E : Type 0} (old new : Option (List ℕ)) (line : List ℕ) (before now : ℕ) (r : Result T E) → Writes old new line r → HasCause before now r → Tells old new line (Rose before now)
tells old new line before now (Ok x) w h = record {
  whole = inr w.whole;
  part = (length line, omega arith, subst (Appends old new) (sym (take_all (length line) line (omega arith))) w.whole);
}
tells old new line before now (Err e) w h = record { whole = inl h.failed; part = (w.part.0, omega (arith, w.part.1), w.part.2) }

-- a refusal is told by 2 to 6
pub refused_range : (cause : Refusal) → (2 ≤ refusal_status cause) × (refusal_status cause ≤ 6)
refused_range (TooLong limit) = (omega arith, omega arith)
refused_range (Text fault) = (omega arith, omega arith)
refused_range (Space fault) = of_space fault
  where
    of_space : (fault : SpaceFault) → (2 ≤ space_status fault) × (space_status fault ≤ 6)
    of_space in_space.TooManyCells = (omega arith, omega arith)
    of_space (in_space.Shape p) = (omega arith, omega arith)
    of_space in_space.Empty = (omega arith, omega arith)
    of_space in_space.TooHigh = (omega arith, omega arith)
    of_space (in_space.BadCount c) = (omega arith, omega arith)
    of_space (in_space.FaceOutOfRange c) = (omega arith, omega arith)
    of_space (in_space.RepeatedFace c) = (omega arith, omega arith)
    of_space in_space.Memory = (omega arith, omega arith)
refused_range (Array fault) = of_array fault
  where
    of_array : (fault : ArrayFault) → (2 ≤ array_status fault) × (array_status fault ≤ 6)
    of_array in_array.TooManyCells = (omega arith, omega arith)
    of_array (in_array.Ragged p) = (omega arith, omega arith)
    of_array (in_array.NotBit p) = (omega arith, omega arith)
    of_array in_array.BadDimension = (omega arith, omega arith)
    of_array in_array.Empty = (omega arith, omega arith)
    of_array (in_array.BadPair r) = (omega arith, omega arith)
    of_array (in_array.ColumnCount c) = (omega arith, omega arith)
    of_array in_array.Memory = (omega arith, omega arith)
refused_range (Facet fault) = of_facet fault
  where
    of_facet : (fault : FacetFault) → (2 ≤ facet_status fault) × (facet_status fault ≤ 6)
    of_facet in_facet.TooManyCells = (omega arith, omega arith)
    of_facet (in_facet.Shape p) = (omega arith, omega arith)
    of_facet in_facet.Empty = (omega arith, omega arith)
    of_facet (in_facet.BadLabel p) = (omega arith, omega arith)
    of_facet (in_facet.Repeated p) = (omega arith, omega arith)
    of_facet in_facet.Memory = (omega arith, omega arith)
refused_range (Irregular fault) = (omega arith, omega arith)
refused_range (Components count) = (omega arith, omega arith)
refused_range (Chains count) = (omega arith, omega arith)
refused_range (Classes count) = (omega arith, omega arith)
refused_range (Word cell) = (omega arith, omega arith)
refused_range Position = (omega arith, omega arith)
refused_range (Spent spot) = (omega arith, omega arith)
refused_range (Index count) = (omega arith, omega arith)
refused_range TotalCells = (omega arith, omega arith)

-- the room of a spot changes no status
pub bare_status : (cause : Refusal) → refusal_status (bare cause) ≡ refusal_status cause
bare_status (TooLong limit) = refl
bare_status (Text fault) = refl
bare_status (Space fault) = refl
bare_status (Array fault) = refl
bare_status (Facet fault) = refl
bare_status (Irregular fault) = refl
bare_status (Components count) = refl
bare_status (Chains count) = refl
bare_status (Classes count) = refl
bare_status (Word cell) = refl
bare_status Position = refl
bare_status (Spent spot) = refl
bare_status (Index count) = refl
bare_status TotalCells = refl
