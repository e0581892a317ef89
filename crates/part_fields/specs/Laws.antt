-- What fields of pairs on a space and on its parts say of one another: the contracts of the laws in src/lib.rt. A regular space is one that
-- keeps the rules of regular_check; components and cells are numbered from 1.
--   AreGoodParts space pairs       each pair has a facet with its cell, and the pairs of each component are a good field of its part
--   GoodInEachPart                 a good field of a regular space is good in each part
--   GoodWhereEachPartIs            pairs of a regular space that are good in each part are a good field
--   AreGoodFields space fields     as many fields as there are components, each of them good on its part
--   JoinedFieldsComeApart          of such fields, joined, the pairs of a component are those of its field
--   GoodTogether                   such fields, joined, are a good field
--   OnePartKeepsPairs              the pairs of a field in the only part of a space with one component are those of the field
use Rattle.std.specs.Prelude.{◌≡◌, ℕ, ◌≤◌, List, length, true}
use Rattle.number_lists.specs.Members.{In}
use Rattle.face_poset.specs.declared.cells.Pair.{Pair}
use Rattle.face_poset.specs.Poset.{Layers, IsSpace}
use Rattle.regular_check.specs.Rules.{IsRegular}
use Rattle.regular_check.specs.Components.{component_count}
use Rattle.vector_field.specs.Pairs.{is_incident, IsValid}
use Rattle.vector_field.specs.Maximal.{IsGood}
use Rattle.space_parts.specs.Parts.{part_of}
use Rattle.part_fields.specs.Fields.{field_in, field_at, joined}

pub record AreGoodParts (space : Layers) (pairs : List Pair) : Type 0 where
  pub incident : (p : Pair) → In p pairs → is_incident space p ≡ true
  pub good : (number : ℕ) → 1 ≤ number → number ≤ component_count space → IsGood (part_of space number) (field_in space pairs number)

abbrev pub GoodInEachPart : Type 0
GoodInEachPart = (space : Layers) (pairs : List Pair) → IsSpace space → IsRegular space → IsGood space pairs → AreGoodParts space pairs

abbrev pub GoodWhereEachPartIs : Type 0
GoodWhereEachPartIs = (space : Layers) (pairs : List Pair) → IsSpace space → IsRegular space → AreGoodParts space pairs → IsGood space pairs

pub record AreGoodFields (space : Layers) (fields : List (List Pair)) : Type 0 where
  pub each : length fields ≡ component_count space
  pub good : (number : ℕ) → 1 ≤ number → number ≤ component_count space → IsGood (part_of space number) (field_at fields number)

abbrev pub JoinedFieldsComeApart : Type 0
JoinedFieldsComeApart =
    (space : Layers) (fields : List (List Pair)) (number : ℕ)
    → IsSpace space
    → IsRegular space
    → AreGoodFields space fields
    → 1 ≤ number
    → number ≤ component_count space
    → field_in space (joined space fields) number ≡ field_at fields number

abbrev pub GoodTogether : Type 0
GoodTogether = (space : Layers) (fields : List (List Pair)) → IsSpace space → IsRegular space → AreGoodFields space fields → IsGood space (joined space fields)

abbrev pub OnePartKeepsPairs : Type 0
OnePartKeepsPairs = (space : Layers) (pairs : List Pair) → IsSpace space → component_count space ≡ 1 → IsValid space pairs → field_in space pairs 1 ≡ pairs
