-- A total space in the making, cell by cell, one dimension after another, and what is inside a closed cell. space is the lists of
-- the space below, of is a labelling of it, m the number of sheets, dim a dimension, cell a cell, s a sheet.
--   leasts space dim                    the least vertices of the cells of a dimension
--   leasts_below space dim              those of the cells one dimension below; none below dimension 0
--   stage space of dim n                the total space, where the dimensions below dim are done, and the first n cells of dim stand
--   HasLabelling space of               a regular space of at most 60,000 cells and a labelling of it
--   numbers_in cells dim                the numbers of those of the cells that have the dimension
--   IsInside space dim cell ..          the vertices and the edges of a closed cell, in increasing order, the ends of the edges by
--                                       their places among the vertices, and a tree of the vertices from the least one on
--   IsAgreeing vertices f over          what stands at the places of the vertices is what f gives of them
--   AreSheets space of dim cell s over  so it is with the sheets of a cell
--   led_by of edge ends node y          the sheet over the end `node` of an edge, where y is the sheet over its other end
use Rattle.std.specs.Prelude.{◌≡◌, ℕ, zero, suc, ◌<◌, ◌==◌, List, [], length, filter, map, take, true, slice_index, if◌then◌else◌}
use Rattle.number_lists.specs.Words.{upto}
use Rattle.face_poset.specs.declared.cells.Cell.{Cell}
use Rattle.face_poset.specs.Poset.{Layers, IsLimited, IsSpace, count}
use Rattle.regular_check.specs.Rules.{IsRegular}
use Rattle.sphere_collapses.specs.declared.tree.Taken.{Taken}
use Rattle.sphere_collapses.specs.Places.{AreFacetPlaces}
use Rattle.sphere_collapses.specs.Trees.{IsTree}
use Rattle.space_parts.specs.Making.{made}
use Rattle.sheet_laws.specs.Permutations.{at, back}
use Rattle.sheet_laws.specs.Labellings.{label, is_labelling}
use Rattle.edge_words.specs.Labels.{Labelled}
use Rattle.cover_space.specs.Total.{least_vertex, below, sheet, layer_over}

abbrev pub leasts : Layers → (dim : ℕ) → List ℕ
leasts space dim = map (least_vertex space dim) (upto (count space dim))

abbrev pub leasts_below : Layers → (dim : ℕ) → List ℕ
leasts_below space zero = []
leasts_below space (suc dim) = leasts space dim

abbrev pub stage : Layers → Labelled → (dim n : ℕ) → Layers
stage space of dim n =
    made (layer_over space of.sheets of.labels) (λ d. take n (layer_over space of.sheets of.labels d)) dim

pub record HasLabelling (space : Layers) (of : Labelled) : Type 0 where
  pub valid : IsSpace space
  pub limited : IsLimited space
  pub regular : IsRegular space
  pub labelling : is_labelling space of.sheets of.labels ≡ true

abbrev pub numbers_in : List Cell → (dim : ℕ) → List ℕ
numbers_in cells dim = map (λ (c : Cell). c.number) (filter (λ (c : Cell). c.dim == dim) cells)

pub record IsInside (space : Layers) (dim cell : ℕ) (vertices edges : List ℕ) (ends : List (List ℕ)) (tree : List Taken) : Type 0 where
  pub vertices_are : vertices ≡ below space dim cell 0
  pub edges_are : edges ≡ below space dim cell 1
  pub ends_are : AreFacetPlaces space 1 vertices edges ends
  pub tree_is : IsTree ends (length vertices) 1 tree

abbrev pub IsAgreeing : (vertices : List ℕ) → (ℕ → ℕ) → (over : List ℕ) → Type 0
IsAgreeing vertices f over = (k : ℕ) → k < length vertices → slice_index over k ≡ f (slice_index vertices k)

abbrev pub AreSheets : Layers → Labelled → (dim cell s : ℕ) → (over : List ℕ) → Type 0
AreSheets space of dim cell s over =
    IsAgreeing (below space dim cell 0) (sheet space of.sheets of.labels dim cell s) over

abbrev pub led_by : Labelled → (edge : ℕ) → (ends : List ℕ) → (node y : ℕ) → ℕ
led_by of edge ends node y =
    if slice_index ends 0 == node then back (label of.labels edge) y else at (label of.labels edge) y
