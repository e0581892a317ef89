-- Spaces whose cells are tuples of coordinates. (Cubical cells, each coordinate doubled: an even one is a point, an odd one the interval
-- between two points. Textbook.)
-- all is a list of tuples, which is the order of the cells: those of one dimension are numbered from 1 as they stand there. facets gives
-- the facets of a tuple as tuples.
--   boxed limits               all tuples of coordinates, each below a limit of its own, in lexicographic order
--   tuples size limit          all tuples of so many coordinates below a limit, in lexicographic order
--   is_odd c                   whether a coordinate is odd
--   dim_of tuple               the dimension of a cell: the number of its odd coordinates
--   same cs ds                 whether two tuples are the same
--   cells_in all dim           the cells of a dimension
--   numbers_in cells among     the numbers, in increasing order, of those of the cells that are among the tuples
--   layer_of facets all dim    the cells of a dimension, each as the list of the numbers of its facets
--   space_of facets all        the space of the tuples
use Rattle.std.specs.Prelude.{ℕ, zero, suc, ◌-◌, ◌%◌, ◌==◌, ◌&&◌, List, [], ◌∷◌, length, filter, map, slice_index_or, Bool, true, false}
use Rattle.std.specs.List.{flat_map, list_any, range_with_len}
use Rattle.face_poset.specs.Poset.{Layers}
use Rattle.face_poset.specs.Words.{upto}

abbrev pub boxed : (limits : List ℕ) → List (List ℕ)
boxed [] = [] ∷ []
boxed (limit ∷ limits) = flat_map (λ c. map (λ t. c ∷ t) (boxed limits)) (range_with_len 0 limit)

abbrev pub tuples : (size limit : ℕ) → List (List ℕ)
tuples zero limit = [] ∷ []
tuples (suc size) limit = flat_map (λ c. map (λ t. c ∷ t) (tuples size limit)) (range_with_len 0 limit)

abbrev pub is_odd : ℕ → Bool
is_odd c = c % 2 == 1

abbrev pub dim_of : List ℕ → ℕ
dim_of tuple = length (filter is_odd tuple)

abbrev pub same : List ℕ → List ℕ → Bool
same [] [] = true
same [] (d ∷ ds) = false
same (c ∷ cs) [] = false
same (c ∷ cs) (d ∷ ds) = (c == d) && same cs ds

abbrev pub cells_in : List (List ℕ) → (dim : ℕ) → List (List ℕ)
cells_in all dim = filter (λ t. dim_of t == dim) all

abbrev pub numbers_in : (cells among : List (List ℕ)) → List ℕ
numbers_in cells among = filter (λ n. list_any (same (slice_index_or cells (n - 1) [])) among) (upto (length cells))

abbrev pub layer_of : (List ℕ → List (List ℕ)) → (all : List (List ℕ)) → (dim : ℕ) → List (List ℕ)
layer_of facets all dim = map (λ t. numbers_in (cells_in all (dim - 1)) (facets t)) (cells_in all dim)

abbrev pub space_of : (List ℕ → List (List ℕ)) → (all : List (List ℕ)) → Layers
space_of facets all = layer_of facets all 0 ∷ layer_of facets all 1 ∷ layer_of facets all 2 ∷ layer_of facets all 3 ∷ []
