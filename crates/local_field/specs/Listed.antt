-- How the pairs inside all cells are listed, cell by cell. space is the lists of a space; over is a list of cells, each
-- a face of the next, t a tower whose top is a face of the first of these, p a pair of such towers; built is a building,
-- collapse solid face a collapse of the boundary of a 3-cell less one of its 2-cells.
--   number_under space over t          the number of the chain that goes up the tower and on along `over`
--   numbered_under space over p        the pair of these numbers
--   IsBuilt space collapse t built     a building of the boundary of the top without the next cell of the tower, if it
--                                      has one
--   FitsCell space g built             each pair is one of two faces of the cell, the first a facet of the second
--   FitsTop space t built              so for the top of a tower
--   step_pair space step               the end of a step and its edge
--   IsOnEdge space step                the step goes along an edge that is there, and has two ends
--   IsPut space depth over t built old new     the pairs inside the top were put behind the old ones
--   pairs_of space collapse dim n      the pairs inside the first n cells of a dimension, by numbers
--   ArePut space dim old new           those inside all cells of a dimension were put behind the old ones, whatever the
--                                      collapses
--   first_disk space solid             the first 2-cell of a 3-cell
--   IsSolidPut space solid old new     those inside a 3-cell were put behind the old ones, with some collapse
--   AreSolidsPut space n old new       those inside the first n 3-cells were put behind the old ones, with some collapses
--   AreListed space pairs              the pairs inside all cells, with some collapses
use Rattle.std.specs.Prelude.{◌≡◌, ⊤, ℕ, ◌+◌, ◌-◌, ◌≤◌, List, [], ◌∷◌, ◌++◌, map, reverse, length, slice_index, true}
use Rattle.std.specs.List.{AllByRecursion, flat_map}
use Rattle.number_lists.specs.Words.{upto}
use Rattle.face_poset.specs.declared.cells.Pair.{Pair}
use Rattle.face_poset.specs.Poset.{Layers, count, facets_of}
use Rattle.face_poset.specs.Below.{cell_at}
use Rattle.regular_check.specs.declared.cycles.Step.{Step}
use Rattle.regular_check.specs.Cycle.{end_of}
use Rattle.sphere_collapses.specs.Collapses.{boundary_less, collapses}
use Rattle.order_complex.specs.Chains.{chains_of, id_of}
use Rattle.order_complex.specs.Complex.{number_or_zero}
use Rattle.vector_field.specs.Pairs.{pair}
use Rattle.local_field.specs.Towers.{top_of, TowerPair, Building, local}
use Rattle.local_field.specs.Inside.{FitsIn}
use Rattle.local_field.specs.Buildings.{dim_at, is_below, flag_at, building_at, pairs_inside, IsCollapsing}
use Rattle.local_field.specs.Numbered.{numbered, local_pairs}

abbrev pub number_under : Layers → (over t : List ℕ) → ℕ
number_under space over t = number_or_zero (chains_of space (length t + length over - 1)) (reverse t ++ over)

abbrev pub numbered_under : Layers → (over : List ℕ) → TowerPair → Pair
numbered_under space over p = pair (length p.low + length over - 1) (number_under space over p.low) (number_under space over p.up)

abbrev pub IsBuilt : Layers → (collapse : (solid face : ℕ) → List Pair) → (t : List ℕ) → Building → Type 0
IsBuilt space collapse [] built = ⊤
IsBuilt space collapse (g ∷ []) built = ⊤
IsBuilt space collapse (g ∷ f ∷ rest) built = building_at space collapse g f ≡ built

abbrev pub FitsCell : Layers → (g : ℕ) → Building → Type 0
FitsCell space g built = AllByRecursion (FitsIn (is_below space) (dim_at space) g) built.pairs

abbrev pub FitsTop : Layers → (t : List ℕ) → Building → Type 0
FitsTop space t built = FitsCell space (top_of t) built

abbrev pub step_pair : Layers → Step → ℕ × ℕ
step_pair space step = (end_of space step, id_of space (cell_at 1 step.edge))

pub record IsOnEdge (space : Layers) (step : Step) : Type 0 where
  pub low : 1 ≤ step.edge
  pub high : step.edge ≤ count space 1
  pub two : length (facets_of space 1 step.edge) ≡ 2

abbrev pub IsPut : Layers → (depth : ℕ) → (over t : List ℕ) → Building → (old new : List Pair) → Type 0
IsPut space depth over t built old new =
    (collapse : (solid face : ℕ) → List Pair)
    → IsBuilt space collapse t built
    → new ≡ old ++ map (numbered_under space over) (local (building_at space collapse) (flag_at space) depth t)

abbrev pub pairs_of : Layers → (collapse : (solid face : ℕ) → List Pair) → (dim n : ℕ) → List Pair
pairs_of space collapse dim n = map (numbered space) (flat_map (pairs_inside space collapse dim) (upto n))

abbrev pub ArePut : Layers → (dim n : ℕ) → (old new : List Pair) → Type 0
ArePut space dim n old new = (collapse : (solid face : ℕ) → List Pair) → new ≡ old ++ pairs_of space collapse dim n

abbrev pub first_disk : Layers → (solid : ℕ) → ℕ
first_disk space solid = slice_index (facets_of space 3 solid) 0

pub record IsSolidPut (space : Layers) (solid : ℕ) (old new : List Pair) : Type 0 where
  pub chosen : List Pair
  pub collapsing : collapses space (boundary_less space solid (first_disk space solid)) chosen ≡ true
  pub put :
      (collapse : (solid face : ℕ) → List Pair)
      → collapse solid (first_disk space solid) ≡ chosen
      → new ≡ old ++ map (numbered space) (pairs_inside space collapse 3 solid)

pub record AreSolidsPut (space : Layers) (n : ℕ) (old new : List Pair) : Type 0 where
  pub chosen : (solid : ℕ) → List Pair
  pub collapsing :
      (solid : ℕ)
      → 1 ≤ solid
      → solid ≤ n
      → collapses space (boundary_less space solid (first_disk space solid)) (chosen solid) ≡ true
  pub put :
      (collapse : (solid face : ℕ) → List Pair)
      → ((solid : ℕ) → 1 ≤ solid → solid ≤ n → collapse solid (first_disk space solid) ≡ chosen solid)
      → new ≡ old ++ pairs_of space collapse 3 n

pub record AreListed (space : Layers) (pairs : List Pair) : Type 0 where
  pub collapse : (solid face : ℕ) → List Pair
  pub collapsing : IsCollapsing space collapse
  pub are : pairs ≡ local_pairs space collapse
