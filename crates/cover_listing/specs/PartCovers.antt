-- The listing over the components of a regular space, with the chosen field of each part. i is a component, n the most sheets.
--   relations_in space i       the relations of the part of a component
--   components_from space i    the components from i to the last
--   relations_from space i     their relations
--   covers_in space n i        the covers of the part of a component: tables of 1 to n sheets
--   covers_from space n i      those of the components from i on, one component after another
--   ListingsAreOfCovers        the law: what is listed for these relations are the covers of the parts
use Rattle.std.specs.Prelude.{◌≡◌, ℕ, suc, ◌-◌, ◌≤◌, List, map}
use Rattle.std.specs.List.{flat_map}
use Rattle.face_poset.specs.Poset.{Layers, IsSpace}
use Rattle.regular_check.specs.Rules.{IsRegular}
use Rattle.regular_check.specs.Components.{component_count}
use Rattle.space_parts.specs.Parts.{part_of}
use Rattle.chosen_field.specs.Chosen.{chosen}
use Rattle.live_laws.specs.Trees.{from}
use Rattle.live_laws.specs.Live.{Relations, Position}
use Rattle.cover_laws.specs.Covers.{relations_at, covers}
use Rattle.cover_listing.specs.Listings.{Member, tables}

abbrev pub relations_in : Layers → (i : ℕ) → Relations
relations_in space i = relations_at (part_of space i) (chosen (part_of space i))

abbrev pub components_from : Layers → (i : ℕ) → List ℕ
components_from space i = from i (suc (component_count space) - i)

abbrev pub relations_from : Layers → (i : ℕ) → List Relations
relations_from space i = map (relations_in space) (components_from space i)

abbrev pub covers_in : Layers → (n i : ℕ) → List Position
covers_in space n i = covers (part_of space i) (chosen (part_of space i)) n

abbrev pub covers_from : Layers → (n i : ℕ) → List Member
covers_from space n i = flat_map (λ j. map (λ t. (j, t)) (covers_in space n j)) (components_from space i)

abbrev pub ListingsAreOfCovers : Type 0
ListingsAreOfCovers =
    (space : Layers) (n i : ℕ)
    → IsSpace space
    → IsRegular space
    → 1 ≤ n
    → 1 ≤ i
    → tables n i (relations_from space i) ≡ covers_from space n i
