-- The chosen field of a regular space with one component, made in three parts: pairs of free faces, more pairs where no gradient path
-- forbids them, and a tree of edges. (Discrete vector fields: R. Forman; free faces and collapses: J. H. C. Whitehead.) space is the lists
-- of a space, pairs a list of pairs, cells an increasing list of cells of dimension dim + 1; cells are numbered from 1 in each dimension.
-- Pairs of free faces:
--   has_facet space dim facet cell          whether a cell of dimension dim + 1 has the facet
--   is_free space dim cells facet           whether just one of the cells has the facet
--   least_free space dim cells              the least such facet, if there is one
--   free_pair space dim cells               it, paired with the cell that has it
--   without cells cell                      the cells but one
--   collapse space dim turns cells          the pairs made in so many turns. In each turn one of the cells goes: the one in the free pair,
--                                           which is made, or the first, in no pair, where no facet is free
--   collapsed space dim cells               the pairs made until no cell is left
--   free_pairs space dim pairs              so with the cells that are in none of the pairs; the pair made last comes first
-- Both steps, for dimension 2 and then for dimension 1:
--   stage space dim pairs                   these pairs more, and then those that no gradient path forbids
--   high space                              the pairs of dimensions 2 and 1
-- The tree:
--   loose space                             the edges that are in no pair of these
--   joined_by space edges x y               whether some of the edges has both vertices
--   distances space edges                   for each vertex the least number of the edges on a path from vertex 1
--   distance_in distances vertex            that of a vertex
--   goes_nearer space distances vertex edge whether the edge joins the vertex to one whose distance is smaller by one
--   tree_edge space edges distances vertex  the least of the edges that does, if there is one
--   tree space                              the pairs of each vertex with this edge
-- The list:
--   upper_of pairs dim lower                the upper of the pair with this lower; 0 where there is none
--   lowers_in space pairs dim               the lowers of a dimension, in increasing order
--   link lower upper                        the two as a link
--   links space pairs dim                   the lowers of a dimension with their uppers
--   listed space pairs dim                  these pairs, one after another: the next is that with the least lower among those that may come
--                                           before all that are left
--   chosen space                            the chosen field: dimension 0, then 1, then 2
use Rattle.std.specs.Prelude.{ℕ, zero, suc, ◌+◌, ◌-◌, ◌==◌, ◌&&◌, List, [], ◌∷◌, ◌++◌, length, drop, reverse, map, filter, not, slice_index, Bool, Option, Some, None}
use Rattle.std.specs.List.{find, list_any, flat_map}
use Rattle.face_poset.specs.declared.cells.Pair.{Pair}
use Rattle.number_lists.specs.Words.{upto, holds}
use Rattle.face_poset.specs.Poset.{Layers, count, facets_of}
use Rattle.regular_check.specs.Components.{vertices}
use Rattle.pair_laws.specs.Tree.{Link}
use Rattle.pair_laws.specs.Ranks.{arranged}
use Rattle.pair_laws.specs.Distance.{distance_to}
use Rattle.vector_field.specs.Pairs.{pair, has_lower, unpaired}
use Rattle.vector_field.specs.Stages.{filled}

abbrev pub has_facet : Layers → (dim facet cell : ℕ) → Bool
has_facet space dim facet cell = holds (facets_of space (dim + 1) cell) facet

abbrev pub is_free : Layers → (dim : ℕ) → (cells : List ℕ) → (facet : ℕ) → Bool
is_free space dim cells facet = length (filter (has_facet space dim facet) cells) == 1

abbrev pub least_free : Layers → (dim : ℕ) → (cells : List ℕ) → Option ℕ
least_free space dim cells = find (is_free space dim cells) (upto (count space dim))

abbrev pub free_pair : Layers → (dim : ℕ) → (cells : List ℕ) → Option Pair
free_pair space dim cells = elim (least_free space dim cells) [
  | None ↦ None
  | Some facet ↦ elim (find (has_facet space dim facet) cells) [ None ↦ None | Some cell ↦ Some (pair dim facet cell) ]
]

abbrev pub without : List ℕ → (cell : ℕ) → List ℕ
without cells cell = filter (λ c. not (c == cell)) cells

abbrev pub collapse : Layers → (dim turns : ℕ) → (cells : List ℕ) → List Pair
collapse space dim zero cells = []
collapse space dim (suc turns) cells = elim (free_pair space dim cells) [
  | None ↦ collapse space dim turns (drop 1 cells)
  | Some p ↦ p ∷ collapse space dim turns (without cells p.upper)
]

abbrev pub collapsed : Layers → (dim : ℕ) → (cells : List ℕ) → List Pair
collapsed space dim cells = collapse space dim (length cells) cells

abbrev pub free_pairs : Layers → (dim : ℕ) → List Pair → List Pair
free_pairs space dim pairs = reverse (collapsed space dim (unpaired pairs (dim + 1) (count space (dim + 1))))

abbrev pub stage : Layers → (dim : ℕ) → List Pair → List Pair
stage space dim pairs = filled space dim (pairs ++ free_pairs space dim pairs)

abbrev pub high : Layers → List Pair
high space = stage space 1 (stage space 2 [])

abbrev pub loose : Layers → List ℕ
loose space = unpaired (high space) 1 (count space 1)

abbrev pub joined_by : Layers → (edges : List ℕ) → (x y : ℕ) → Bool
joined_by space edges x y = list_any (λ e. holds (facets_of space 1 e) x && holds (facets_of space 1 e) y) edges

abbrev pub distances : Layers → (edges : List ℕ) → List ℕ
distances space edges = map (distance_to (joined_by space edges) (vertices space) 1) (vertices space)

abbrev pub distance_in : (distances : List ℕ) → (vertex : ℕ) → ℕ
distance_in distances vertex = slice_index distances (vertex - 1)

abbrev pub goes_nearer : Layers → (distances : List ℕ) → (vertex edge : ℕ) → Bool
goes_nearer space distances vertex edge =
    holds (facets_of space 1 edge) vertex
    && list_any (λ w. (distance_in distances w + 1) == distance_in distances vertex) (facets_of space 1 edge)

abbrev pub tree_edge : Layers → (edges distances : List ℕ) → (vertex : ℕ) → Option ℕ
tree_edge space edges distances vertex = find (goes_nearer space distances vertex) edges

abbrev pub tree_pair : (vertex : ℕ) → (edge : Option ℕ) → List Pair
tree_pair vertex None = []
tree_pair vertex (Some edge) = pair 0 vertex edge ∷ []

abbrev pub tree_along : Layers → (edges distances : List ℕ) → List Pair
tree_along space edges distances = flat_map (λ v. tree_pair v (tree_edge space edges distances v)) (vertices space)

abbrev pub tree : Layers → List Pair
tree space = tree_along space (loose space) (distances space (loose space))

abbrev pub upper_of : List Pair → (dim lower : ℕ) → ℕ
upper_of pairs dim lower = elim (find (has_lower dim lower) pairs) [ None ↦ 0 | Some p ↦ p.upper ]

abbrev pub lowers_in : Layers → List Pair → (dim : ℕ) → List ℕ
lowers_in space pairs dim = filter (λ f. list_any (has_lower dim f) pairs) (upto (count space dim))

abbrev pub link : (lower upper : ℕ) → Link
link lower upper = record { lower = lower; upper = upper }

abbrev pub links : Layers → List Pair → (dim : ℕ) → List Link
links space pairs dim = map (λ f. link f (upper_of pairs dim f)) (lowers_in space pairs dim)

abbrev pub in_turn : Layers → (dim : ℕ) → List Link → List Pair
in_turn space dim ls = map (λ (l : Link). pair dim l.lower l.upper) (arranged (facets_of space (dim + 1)) (length ls) ls)

abbrev pub listed : Layers → List Pair → (dim : ℕ) → List Pair
listed space pairs dim = in_turn space dim (links space pairs dim)

abbrev pub chosen : Layers → List Pair
chosen space = listed space (tree space) 0 ++ (listed space (high space) 1 ++ listed space (high space) 2)
