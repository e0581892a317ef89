-- The search for what the pairs lead from to a cell. space is the lists of a graded set, pairs a list of pairs, found a list of cells.
--   IsLed space pairs dim last found              exactly the cells were found from which the pairs lead to `last`
--   IsStep space pairs dim facet lower            the lower is that of a pair of a coface of the facet, and not the facet
--   HasSteps space pairs dim facet old new        all that lead to the facet by one pair were put last
--   reaches_found found lower facets              whether some other facet was found
use Rattle.std.specs.Prelude.{◌≡◌, ◌≢◌, ◌⊎◌, ℕ, ◌<◌, ◌≤◌, ◌&&◌, ◌==◌, List, length, not, Bool, true, slice_index_or}
use Rattle.std.specs.List.{list_any}
use Rattle.number_lists.specs.Members.{In}
use Rattle.face_poset.specs.declared.cells.Pair.{Pair}
use Rattle.number_lists.specs.Words.{holds}
use Rattle.face_poset.specs.Poset.{Layers, cofaces_of}
use Rattle.vector_field.specs.Pairs.{pair}
use Rattle.vector_field.specs.Paths.{leads_to}

abbrev pub IsLed : Layers → List Pair → (dim last : ℕ) → (found : List ℕ) → Type 0
IsLed space pairs dim last found = (f : ℕ) → holds found f ≡ leads_to space pairs dim last f

pub record IsStep (space : Layers) (pairs : List Pair) (dim facet lower : ℕ) : Type 0 where
  pub upper : ℕ
  pub coface : holds (cofaces_of space dim facet) upper ≡ true
  pub paired : In (pair dim lower upper) pairs
  pub other : lower ≢ facet

pub record HasSteps (space : Layers) (pairs : List Pair) (dim facet : ℕ) (old new : List ℕ) : Type 0 where
  pub long : length old ≤ length new
  pub begins : (k : ℕ) → k < length old → slice_index_or new k 0 ≡ slice_index_or old k 0
  pub kept : (lower : ℕ) → holds old lower ≡ true → holds new lower ≡ true
  pub added : (lower : ℕ) → IsStep space pairs dim facet lower → holds new lower ≡ true
  pub only : (lower : ℕ) → holds new lower ≡ true → (holds old lower ≡ true) ⊎ IsStep space pairs dim facet lower

abbrev pub reaches_found : (found : List ℕ) → (lower : ℕ) → (facets : List ℕ) → Bool
reaches_found found lower facets = list_any (λ f. not (f == lower) && holds found f) facets
