-- The pairs inside all cells, by numbers of chains. (A discrete vector field on the barycentric subdivision.) space is
-- the lists of a regular space, collapse solid face a collapse of the boundary of a 3-cell less one of its 2-cells; t is
-- a tower, p a pair of towers. A tower read from its end is a chain; chains of a degree are numbered from 1.
--   number_of space t              the number of a tower, as a chain
--   numbered space p               the pair of the numbers of two towers
--   all_inside space collapse      the pairs inside all cells, by dimension, then by number
--   local_pairs space collapse     these by numbers of chains
--   local_field_of space collapse  the field of these pairs on the chains
--   flag_numbers space dim         the numbers of the flags of the cells of a dimension
--   LeavesFlags space field        the critical chains of each degree are the flags of the cells of this dimension
--   IsLocalField space field       the field is that of some collapses of the 3-cells, one on the chains, and leaves the
--                                  flags
--   LocalPairsAreFields            so is that of any collapses
use Rattle.std.specs.Prelude.{◌≡◌, ℕ, ◌-◌, ◌≤◌, List, [], ◌∷◌, map, reverse, length}
use Rattle.std.specs.List.{flat_map}
use Rattle.number_lists.specs.Words.{upto, holds}
use Rattle.face_poset.specs.declared.cells.Pair.{Pair}
use Rattle.face_poset.specs.Poset.{Layers, IsSpace, count}
use Rattle.regular_check.specs.Rules.{IsRegular}
use Rattle.order_complex.specs.Chains.{chains_of}
use Rattle.order_complex.specs.Complex.{complex_of, number_or_zero}
use Rattle.vector_field.specs.Pairs.{pair, Field, counts_of, critical_of, IsFieldOf}
use Rattle.local_field.specs.Towers.{TowerPair}
use Rattle.local_field.specs.Buildings.{IsCollapsing, flag_of, pairs_inside}

abbrev pub number_of : Layers → (t : List ℕ) → ℕ
number_of space t = number_or_zero (chains_of space (length t - 1)) (reverse t)

abbrev pub numbered : Layers → TowerPair → Pair
numbered space p = pair (length p.low - 1) (number_of space p.low) (number_of space p.up)

abbrev pub all_inside : Layers → (collapse : (solid face : ℕ) → List Pair) → List TowerPair
all_inside space collapse = flat_map (λ dim. flat_map (pairs_inside space collapse dim) (upto (count space dim))) (1 ∷ 2 ∷ 3 ∷ [])

abbrev pub local_pairs : Layers → (collapse : (solid face : ℕ) → List Pair) → List Pair
local_pairs space collapse = map (numbered space) (all_inside space collapse)

abbrev pub local_field_of : Layers → (collapse : (solid face : ℕ) → List Pair) → Field
local_field_of space collapse = record { pairs = local_pairs space collapse; counts = counts_of (complex_of space) }

abbrev pub flag_numbers : Layers → (dim : ℕ) → List ℕ
flag_numbers space dim = map (λ number. number_of space (flag_of space dim number)) (upto (count space dim))

abbrev pub LeavesFlags : Layers → Field → Type 0
LeavesFlags space field = (dim n : ℕ) → dim ≤ 3 → holds (critical_of field dim) n ≡ holds (flag_numbers space dim) n

pub record IsLocalField (space : Layers) (field : Field) : Type 0 where
  pub collapse : (solid face : ℕ) → List Pair
  pub collapsing : IsCollapsing space collapse
  pub is : field ≡ local_field_of space collapse
  pub valid : IsFieldOf (complex_of space) field
  pub leaves : LeavesFlags space field

abbrev pub LocalPairsAreFields : Type 0
LocalPairsAreFields =
    (space : Layers) (collapse : (solid face : ℕ) → List Pair)
    → IsSpace space
    → IsRegular space
    → IsCollapsing space collapse
    → IsLocalField space (local_field_of space collapse)
