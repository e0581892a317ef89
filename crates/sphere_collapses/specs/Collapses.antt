-- Collapses: cells go by pairs of a cell and its only coface until one vertex is left. (Collapses of CW-complexes, Whitehead.) space is the
-- lists of a space, rest a list of its cells, which stands for the set of them; cells are numbered from 1.
--   same c d                        whether two cells are the same
--   has_facet space c d             whether the cell c has the cell d as a facet
--   lower_of p, upper_of p          the two cells of a pair
--   is_only space rest p            whether the cells of the rest that have the lower as a facet are the upper alone
--   is_free space rest p            whether the pair may go: both cells are in the rest, the lower is a facet of the upper and of no other
--                                   cell of the rest, and the upper of none
--   without rest p                  the rest without both cells
--   is_point rest                   whether one vertex is left, and nothing else
--   collapses space rest pairs      whether each of the pairs may go when its turn comes, and one vertex is left at the end
--   boundary_less space cell face   the vertices, edges and 2-cells below a 3-cell without one of its 2-cells
use Rattle.std.specs.Prelude.{ℕ, suc, ◌==◌, ◌&&◌, ◌||◌, not, List, [], ◌∷◌, filter, Bool}
use Rattle.std.specs.List.{list_all, list_any}
use Rattle.number_lists.specs.Words.{holds}
use Rattle.face_poset.specs.declared.cells.Cell.{Cell}
use Rattle.face_poset.specs.declared.cells.Pair.{Pair}
use Rattle.face_poset.specs.Poset.{Layers, facets_of}
use Rattle.face_poset.specs.Below.{cell_at, closed_cell}

abbrev pub same : Cell → Cell → Bool
same c d = (c.dim == d.dim) && (c.number == d.number)

abbrev pub has_facet : Layers → (c d : Cell) → Bool
has_facet space c d = (c.dim == suc d.dim) && holds (facets_of space c.dim c.number) d.number

abbrev pub lower_of : Pair → Cell
lower_of p = cell_at p.dim p.lower

abbrev pub upper_of : Pair → Cell
upper_of p = cell_at (suc p.dim) p.upper

abbrev pub is_only : Layers → List Cell → Pair → Bool
is_only space rest p = list_all (λ c. not (has_facet space c (lower_of p)) || same c (upper_of p)) rest

abbrev pub is_free : Layers → List Cell → Pair → Bool
is_free space rest p =
    list_any (same (lower_of p)) rest
    && (list_any (same (upper_of p)) rest
    && (has_facet space (upper_of p) (lower_of p) && (is_only space rest p && not (list_any (λ c. has_facet space c (upper_of p)) rest))))

abbrev pub without : List Cell → Pair → List Cell
without rest p = filter (λ c. not (same (lower_of p) c || same (upper_of p) c)) rest

abbrev pub is_point : List Cell → Bool
is_point rest = list_any (λ v. (v.dim == 0) && list_all (same v) rest) rest

abbrev pub collapses : Layers → List Cell → List Pair → Bool
collapses space rest [] = is_point rest
collapses space rest (p ∷ pairs) = is_free space rest p && collapses space (without rest p) pairs

abbrev pub boundary_less : Layers → (cell face : ℕ) → List Cell
boundary_less space cell face = filter (λ c. not (same (cell_at 3 cell) c || same (cell_at 2 face) c)) (closed_cell space 3 cell)
