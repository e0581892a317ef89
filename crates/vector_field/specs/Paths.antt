-- Gradient paths: from an upper down to a facet, from there to its upper, and so on down to a lower. space is the lists of a graded set,
-- pairs a list of pairs, dim the dimension of facets and lowers, last the lower at which a path ends.
--   Leads space pairs dim last f                 the pairs lead from the facet f to `last`: it is f itself, or f is the lower of a pair, and
--                                                the pairs lead on from another facet of its upper
--   GradientPath space pairs dim upper lower     a path from the upper to the lower by a first facet other than the lower
-- The same, computed:
--   leads_step space pairs dim next cell         whether some pair leads to `next` from its lower `cell`
--   lowers_of pairs dim                          the lowers of the pairs of a dimension
--   leads_to space pairs dim last f              whether the pairs lead from f to `last`: by steps backward from `last` among it and the lowers
--   has_path space pairs dim upper lower         whether there is a gradient path
--   PathIsExact                                  the test tells whether there is one
use Rattle.std.specs.Prelude.{◌≡◌, ◌≢◌, ◌↔◌, ℕ, ◌+◌, ◌&&◌, ◌==◌, List, ◌∷◌, Bool, true, not, filter, map}
use Rattle.std.specs.List.{list_any}
use Rattle.number_lists.specs.Members.{In}
use Rattle.face_poset.specs.declared.cells.Pair.{Pair}
use Rattle.number_lists.specs.Words.{holds}
use Rattle.face_poset.specs.Poset.{Layers, facets_of}
use Rattle.number_lists.specs.Reach.{reaches}
use Rattle.vector_field.specs.Pairs.{has_lower, others}

pub data Leads (space : Layers) (pairs : List Pair) (dim last : ℕ) : ℕ → Type 0 where
  arrived : Leads space pairs dim last last
  along : {next : ℕ} (p : Pair) → In p pairs → p.dim ≡ dim → In next (others space p) → Leads space pairs dim last next → Leads space pairs dim last p.lower

pub record GradientPath (space : Layers) (pairs : List Pair) (dim upper lower : ℕ) : Type 0 where
  pub first : ℕ
  pub facet : In first (facets_of space (dim + 1) upper)
  pub other : first ≢ lower
  pub leads : Leads space pairs dim lower first

abbrev pub leads_step : Layers → List Pair → (dim next cell : ℕ) → Bool
leads_step space pairs dim next cell = list_any (λ (p : Pair). has_lower dim cell p && holds (others space p) next) pairs

abbrev pub lowers_of : List Pair → (dim : ℕ) → List ℕ
lowers_of pairs dim = map (λ (p : Pair). p.lower) (filter (λ (p : Pair). p.dim == dim) pairs)

abbrev pub leads_to : Layers → List Pair → (dim last facet : ℕ) → Bool
leads_to space pairs dim last facet = reaches (leads_step space pairs dim) (last ∷ lowers_of pairs dim) last facet

abbrev pub has_path : Layers → List Pair → (dim upper lower : ℕ) → Bool
has_path space pairs dim upper lower = list_any (λ f. not (f == lower) && leads_to space pairs dim lower f) (facets_of space (dim + 1) upper)

abbrev pub PathIsExact : Type 0
PathIsExact = (space : Layers) (pairs : List Pair) (dim upper lower : ℕ) → (has_path space pairs dim upper lower ≡ true) ↔ GradientPath space pairs dim upper lower
