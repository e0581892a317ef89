-- What is proved of these words: the contracts of the laws in src/laws.rt. f e and g e move a sheet along the edge e, forward and backward;
-- `is` tells what a sheet is; the walk round a 2-cell goes along its cycle.
--   IsFaceOf space cell face              the 3-cell is one of the space, and the 2-cell is one of its facets
--   SpheresHaveTrees                      a 3-cell of a regular space has a tree of 2-cells from each of its 2-cells and a tree of vertices
--                                         from each of its vertices, which share out its edges
--   BoundariesCollapse                    the boundary of a 3-cell of a regular space less one 2-cell has a collapse
--   IsClosedList space rest               the cells are cells of the space, and with each cell its facets are there
--   RoundsClose space rest f g is         the walk round each 2-cell of the rest closes on all sheets
--   HasSection space rest f is v x        a choice of one sheet over each vertex, the sheet x over v, along which each edge of the rest leads
--   WalksClose space rest f g is          there is such a choice for each vertex of the rest and each sheet, and each closed walk along edges
--                                         of the rest closes
--   CollapsedWalksClose                   in a closed list of cells that collapses, where the walks round its 2-cells close, the walks close
--   LastFaceCloses                        where the walks round all 2-cells of a 3-cell but one close on all sheets, the last one closes
use Rattle.std.specs.Prelude.{◌≡◌, ◌≢◌, ℕ, suc, ◌≤◌, List, Contains, Bool, true}
use Rattle.face_poset.specs.declared.cells.Cell.{Cell}
use Rattle.face_poset.specs.declared.cells.Pair.{Pair}
use Rattle.face_poset.specs.Poset.{Layers, IsSpace, count, facets_of}
use Rattle.face_poset.specs.Below.{cell_at}
use Rattle.regular_check.specs.Rules.{IsRegular}
use Rattle.regular_check.specs.Cycle.{cycle}
use Rattle.regular_check.specs.declared.cycles.Step.{Step}
use Rattle.pair_laws.specs.Joins.{Chain, AreInverse, Flat, walk}
use Rattle.pair_laws.specs.Sphere.{HasTrees}
use Rattle.sphere_collapses.specs.Collapses.{collapses, boundary_less}
use Rattle.sphere_collapses.specs.Spheres.{edges_below, vertices_below, first_end, last_end, first_side, last_side, edges_of}

pub record IsFaceOf (space : Layers) (cell face : ℕ) : Type 0 where
  pub first : 1 ≤ cell
  pub last : cell ≤ count space 3
  pub facet : Contains (facets_of space 3 cell) face

abbrev pub SpheresHaveTrees : Type 0
SpheresHaveTrees =
    (space : Layers) (cell face vertex : ℕ)
    → IsSpace space
    → IsRegular space
    → IsFaceOf space cell face
    → Contains (vertices_below space cell) vertex
    → HasTrees (vertices_below space cell) (edges_below space cell) (facets_of space 3 cell) (first_end space) (last_end space)
    (first_side space cell) (last_side space cell) (edges_of space cell) face vertex

abbrev pub BoundariesCollapse : Type 0
BoundariesCollapse =
    (space : Layers) (cell face : ℕ)
    → IsSpace space
    → IsRegular space
    → IsFaceOf space cell face
    → (pairs : List Pair) × (collapses space (boundary_less space cell face) pairs ≡ true)

pub record IsClosedList (space : Layers) (rest : List Cell) : Type 0 where
  pub there : (dim n : ℕ) → Contains rest (cell_at dim n) → (1 ≤ n) × (n ≤ count space dim)
  pub facets :
      (dim n f : ℕ)
      → Contains rest (cell_at (suc dim) n)
      → Contains (facets_of space (suc dim) n) f
      → Contains rest (cell_at dim f)

abbrev pub RoundsClose : Layers → List Cell → (f g : ℕ → ℕ → ℕ) → (is : ℕ → Bool) → Type 0
RoundsClose space rest f g is = (c x : ℕ) → Contains rest (cell_at 2 c) → is x ≡ true → walk f g (cycle space c) x ≡ x

pub record HasSection (space : Layers) (rest : List Cell) (f : ℕ → ℕ → ℕ) (is : ℕ → Bool) (v x : ℕ) : Type 0 where
  pub over : ℕ → ℕ
  pub here : over v ≡ x
  pub sheet : (w : ℕ) → is (over w) ≡ true
  pub flat : (e : ℕ) → Contains rest (cell_at 1 e) → Flat (first_end space) (last_end space) f over e

pub record WalksClose (space : Layers) (rest : List Cell) (f g : ℕ → ℕ → ℕ) (is : ℕ → Bool) : Type 0 where
  pub sections : (v x : ℕ) → Contains rest (cell_at 0 v) → is x ≡ true → HasSection space rest f is v x
  pub closes :
      (v x : ℕ) (steps : List Step)
      → Contains rest (cell_at 0 v)
      → is x ≡ true
      → Chain (first_end space) (last_end space) v steps v
      → ((s : Step) → Contains steps s → Contains rest (cell_at 1 s.edge))
      → walk f g steps x ≡ x

abbrev pub CollapsedWalksClose : Type 0
CollapsedWalksClose =
    (space : Layers) (rest : List Cell) (pairs : List Pair) (f g : ℕ → ℕ → ℕ) (is : ℕ → Bool)
    → IsSpace space
    → IsRegular space
    → IsClosedList space rest
    → collapses space rest pairs ≡ true
    → AreInverse f g is
    → RoundsClose space rest f g is
    → WalksClose space rest f g is

abbrev pub LastFaceCloses : Type 0
LastFaceCloses =
    (space : Layers) (cell face : ℕ) (f g : ℕ → ℕ → ℕ) (is : ℕ → Bool)
    → IsSpace space
    → IsRegular space
    → IsFaceOf space cell face
    → AreInverse f g is
    → ((c x : ℕ) → Contains (facets_of space 3 cell) c → c ≢ face → is x ≡ true → walk f g (cycle space c) x ≡ x)
    → (x : ℕ)
    → is x ≡ true
    → walk f g (cycle space face) x ≡ x
