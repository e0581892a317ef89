-- How the code makes the cubical space of voxels in a box: cells by the places of their tuples.
-- strides says how many places a step in each direction is; places are those of the cells, in increasing order.
--   dim_at strides place                 the dimension of the cell at a place
--   voxel_place sides strides index      the place of the voxel whose index stands at a place of the box of voxels, where a step in each
--                                        direction is as many places as the sides say
--   face_places strides place            the places of a voxel and its faces
--   facets_from strides place rest       the places of the facets of the cell at a place, in the directions that are left
--   facet_places strides place           the places of its facets
--   number_among strides places place    the number of the cell at a place among those of its dimension
--   layer_at strides all dim places      the cells of a dimension at these places, of all, each as the list of its facets
--   stage strides all dim done           the space in the making, where all lower dimensions are done, and these places of one
--   IsClosed strides places              a box that has an odd number of coordinates in each direction, and places in it that have all
--                                        their facets among them
--   count_at strides places dim          how many cells of a dimension stand at these places
use Rattle.std.specs.Prelude.{◌≡◌, ◌≤◌, ◌<◌, ℕ, ◌+◌, ◌-◌, ◌*◌, ◌/◌, ◌%◌, ◌==◌, ◌&&◌, List, [], ◌∷◌, ◌++◌, length, filter, map, if◌then◌else◌, nat_lt, Contains}
use Rattle.std.specs.List.{All}
use Rattle.face_poset.specs.Poset.{Layers}
use Rattle.array_values.specs.Bits.{volume}
use Rattle.tuple_spaces.specs.Tuples.{dim_of, is_odd, cells_in, numbers_in}
use Rattle.tuple_spaces.specs.Making.{made}
use Rattle.tuple_spaces.specs.Voxels.{facets}
use Rattle.voxel_spaces.specs.BoxTuples.{strides_of, tuple_at}

abbrev pub dim_at : (strides : List ℕ) → (place : ℕ) → ℕ
dim_at strides place = dim_of (tuple_at strides place)

abbrev pub voxel_place : (sides strides : List ℕ) → (index : ℕ) → ℕ
voxel_place [] strides index = 0
voxel_place (side ∷ sides) [] index = 0
voxel_place (side ∷ sides) (stride ∷ strides) index = (2 * (index / side) + 1) * stride + voxel_place sides strides (index % side)

abbrev pub face_places : (strides : List ℕ) → (place : ℕ) → List ℕ
face_places [] place = place ∷ []
face_places (stride ∷ strides) place = face_places strides (place - stride) ++ (face_places strides place ++ face_places strides (place + stride))

abbrev pub facets_from : (strides : List ℕ) → (place rest : ℕ) → List ℕ
facets_from [] place rest = []
facets_from (stride ∷ strides) place rest = (if is_odd (rest / stride) then (place - stride) ∷ (place + stride) ∷ [] else []) ++ facets_from strides place (rest % stride)

abbrev pub facet_places : (strides : List ℕ) → (place : ℕ) → List ℕ
facet_places strides place = facets_from strides place place

abbrev pub number_among : (strides places : List ℕ) → (place : ℕ) → ℕ
number_among strides places place = length (filter (λ p. nat_lt p place && (dim_at strides p == dim_at strides place)) places) + 1

abbrev pub layer_at : (strides all : List ℕ) → (dim : ℕ) → (places : List ℕ) → List (List ℕ)
layer_at strides all dim places =
    map (λ p. numbers_in (cells_in (map (tuple_at strides) all) (dim - 1)) (facets (tuple_at strides p))) (filter (λ p. dim_at strides p == dim) places)

abbrev pub stage : (strides all : List ℕ) → (dim : ℕ) → (done : List ℕ) → Layers
stage strides all dim done = made (λ d. layer_at strides all d all) (λ d. layer_at strides all d done) dim

pub record IsClosed (strides places : List ℕ) : Type 0 where
  pub limits : List ℕ
  pub strides_are : strides ≡ strides_of limits
  pub some : All (λ limit. 1 ≤ limit) limits
  pub odd : All (λ limit. limit % 2 ≡ 1) limits
  pub few : volume limits < 1099511627776
  pub below : (p : ℕ) → Contains places p → p < volume limits
  pub facets_there : (p : ℕ) → Contains places p → (k : ℕ) → Contains (facet_places strides p) k → Contains places k

abbrev pub count_at : (strides places : List ℕ) → (dim : ℕ) → ℕ
count_at strides places dim = length (filter (λ p. dim_at strides p == dim) places)
