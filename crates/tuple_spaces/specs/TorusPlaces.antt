-- How the code makes the torus: triples of coordinates below a side, by their places in lexicographic order, which are counted from 0.
--   volume side                               how many triples there are
--   triple_at side place                      the triple at a place
--   dim_at side place                         its dimension
--   before side dim place                     how many of the triples at the first places have the dimension
--   number_at side place                      the number of the triple at a place among those of its dimension
--   moved stride place from to                where the triple stands whose coordinate in a direction is another one; the places of two
--                                             neighbors in that direction differ by the stride
--   pair_places side stride place coordinate  the places of the two facets in a direction, going round
--   facet_places side place                   the places of all facets
--   facets_at side dim place                  the facets of the cell at a place, where its dimension is this one
--   cells_before side dim place               the cells of a dimension at the first places, each as the list of its facets
--   stage side dim place                      the space in the making, where all lower dimensions are done, and the first places of one
use Rattle.std.specs.Prelude.{ℕ, ◌+◌, ◌-◌, ◌*◌, ◌/◌, ◌%◌, ◌==◌, List, [], ◌∷◌, ◌++◌, length, filter, map, if◌then◌else◌}
use Rattle.std.specs.List.{range_with_len}
use Rattle.face_poset.specs.Poset.{Layers}
use Rattle.tuple_spaces.specs.Tuples.{tuples, dim_of, is_odd, cells_in, numbers_in}
use Rattle.tuple_spaces.specs.Torus.{facets_round}
use Rattle.tuple_spaces.specs.Making.{made}

abbrev pub volume : (side : ℕ) → ℕ
volume side = side * side * side

abbrev pub triple_at : (side place : ℕ) → List ℕ
triple_at side place = (place / (side * side)) ∷ (place % (side * side) / side) ∷ (place % (side * side) % side) ∷ []

abbrev pub dim_at : (side place : ℕ) → ℕ
dim_at side place = dim_of (triple_at side place)

abbrev pub before : (side dim place : ℕ) → ℕ
before side dim place = length (filter (λ p. dim_at side p == dim) (range_with_len 0 place))

abbrev pub number_at : (side place : ℕ) → ℕ
number_at side place = before side (dim_at side place) place + 1

abbrev pub moved : (stride place from to : ℕ) → ℕ
moved stride place from to = place - from * stride + to * stride

abbrev pub pair_places : (side stride place coordinate : ℕ) → List ℕ
pair_places side stride place coordinate =
    if is_odd coordinate then moved stride place coordinate (coordinate - 1) ∷ moved stride place coordinate ((coordinate + 1) % side) ∷ [] else []

abbrev pub facet_places : (side place : ℕ) → List ℕ
facet_places side place =
    pair_places side (side * side) place (place / (side * side))
    ++ (pair_places side side place (place % (side * side) / side) ++ pair_places side 1 place (place % (side * side) % side))

abbrev pub facets_at : (side dim place : ℕ) → List ℕ
facets_at side dim place = numbers_in (cells_in (tuples 3 side) (dim - 1)) (facets_round side (triple_at side place))

abbrev pub cells_before : (side dim place : ℕ) → List (List ℕ)
cells_before side dim place = map (facets_at side dim) (filter (λ p. dim_at side p == dim) (range_with_len 0 place))

abbrev pub stage : (side dim place : ℕ) → Layers
stage side dim place = made (λ d. cells_before side d (volume side)) (λ d. cells_before side d place) dim
