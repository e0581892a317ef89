-- How the code finds the space of Permutahedra; that the two are the same for every value is proved (proofs/Equal).
--
-- Points by their places. A box with so many planes, rows and columns of bits has the points with coordinates from -1 to the number of
-- these in each direction. Its points are numbered from 1 in lexicographic order: the number is the place of the point. The steps are the
-- differences of places from one plane (slab) and one row to the next. An array of two levels is one plane, and its cells stay in it.
-- A 0/1 vector is named by its place among all in lexicographic order, from 0 to 7, or to 3 where it stays in the plane; a shape is the
-- list of the vectors from the first point of a cell to each of its points. marks says of each place whether its point is present.
--   step slab row vector                      what a vector adds to a place
--   is_below vector other                     whether the other vector is this one with a 0/1 vector that is not zero added
--   last_of shape                             the last vector of a shape
--   longer vectors shape                      the shapes with one vector more, above the last
--   shapes_of vectors k                       the shapes of k + 1 vectors, from the zero vector on, each vector above the one before, in
--                                             lexicographic order
--   shapes_in depth dim                       the shapes of the cells of a dimension, of points of two or three dimensions
--   cell_at slab row first shape              the places of the points of a shape at a first point
--   is_present marks place                    whether the point at a place is present
--   cells_at slab row marks shapes first      the cells of these shapes with a first point
--   cells_of slab row marks shapes            the cells of these shapes, in lexicographic order
--   holds_all above cell                      whether a cell holds all points of another
--   facets_of above cell                      the numbers of the facets of a cell among the cells with one point more
--   layer_of above cells                      the cells, each as the list of the numbers of its facets
--   space_of v e f s                          the space of the cells of dimensions 0 to 3; no cell has one point more than a vertex
--   limited v e f s                           the space, where it has not too many cells
--   is_inside size c                          whether a coordinate, written higher by one, is one of a bit
--   mark_at planes rows columns bits x y z    the mark of a point, whose plane, row and column are counted from -1 and written higher by one
--   mark_of planes rows columns bits place    the mark of the point at a place
--   box_points planes rows columns            how many points a box has
--   marks_of planes rows columns bits         the marks of all places
--   space_with depth slab row marks           the space of the marked points
--   solid depth planes rows columns bits      the space of the points of the bits that are 1
--   from_end sizes index                      how many there are of columns, rows and planes, for the indices 0, 1 and 2
--   space_in array                            the space of an array
--   places_of v                               the space of an array of two or three levels, outer indices first, or its first fault
use Rattle.std.specs.Prelude.{ℕ, zero, suc, ◌+◌, ◌-◌, ◌*◌, ◌/◌, ◌%◌, ◌==◌, ◌&&◌, List, [], ◌∷◌, ◌++◌, length, map, filter, slice_index_or, Bool, false, if◌then◌else◌, nat_le, nat_lt, Result, Ok, Err}
use Rattle.std.specs.List.{flat_map, list_all, list_any, range_with_len}
use Rattle.gap_text.specs.Value.{Value}
use Rattle.face_poset.specs.Poset.{Layers}
use Rattle.number_lists.specs.Words.{holds, upto}
use Rattle.array_values.specs.declared.fault.ArrayFault.{ArrayFault}
use Rattle.array_values.specs.declared.fault.ArrayFault.TheVariants.{TooManyCells}
use Rattle.array_values.specs.Answers.{and_then}
use Rattle.array_values.specs.Bits.{Bits, array_of}

abbrev pub step : (slab row vector : ℕ) → ℕ
step slab row vector = vector / 4 % 2 * slab + vector / 2 % 2 * row + vector % 2

abbrev pub is_below : (vector other : ℕ) → Bool
is_below vector other = nat_le (vector / 4 % 2) (other / 4 % 2) && (nat_le (vector / 2 % 2) (other / 2 % 2) && (nat_le (vector % 2) (other % 2) && nat_lt vector other))

abbrev pub last_of : List ℕ → ℕ
last_of shape = slice_index_or shape (length shape - 1) 0

abbrev pub longer : (vectors : ℕ) → (shape : List ℕ) → List (List ℕ)
longer vectors shape = map (λ vector. shape ++ vector ∷ []) (filter (is_below (last_of shape)) (range_with_len 0 vectors))

abbrev pub shapes_of : (vectors k : ℕ) → List (List ℕ)
shapes_of vectors zero = (0 ∷ []) ∷ []
shapes_of vectors (suc k) = flat_map (longer vectors) (shapes_of vectors k)

abbrev pub shapes_in : (depth dim : ℕ) → List (List ℕ)
shapes_in depth dim = if nat_le dim depth then shapes_of (if depth == 3 then 8 else 4) (depth - dim) else []

abbrev pub cell_at : (slab row first : ℕ) → (shape : List ℕ) → List ℕ
cell_at slab row first shape = map (λ vector. first + step slab row vector) shape

abbrev pub is_present : (marks : List Bool) → (place : ℕ) → Bool
is_present marks place = slice_index_or marks (place - 1) false

abbrev pub cells_at : (slab row : ℕ) → (marks : List Bool) → (shapes : List (List ℕ)) → (first : ℕ) → List (List ℕ)
cells_at slab row marks shapes first = filter (list_any (is_present marks)) (map (cell_at slab row first) shapes)

abbrev pub cells_of : (slab row : ℕ) → (marks : List Bool) → (shapes : List (List ℕ)) → List (List ℕ)
cells_of slab row marks shapes = flat_map (cells_at slab row marks shapes) (range_with_len 1 (length marks))

abbrev pub holds_all : (above cell : List ℕ) → Bool
holds_all above cell = list_all (holds above) cell

abbrev pub facets_of : (above : List (List ℕ)) → (cell : List ℕ) → List ℕ
facets_of above cell = filter (λ n. holds_all (slice_index_or above (n - 1) []) cell) (upto (length above))

abbrev pub layer_of : (above cells : List (List ℕ)) → List (List ℕ)
layer_of above cells = map (facets_of above) cells

abbrev pub space_of : (v e f s : List (List ℕ)) → Layers
space_of v e f s = layer_of [] v ∷ layer_of v e ∷ layer_of e f ∷ layer_of f s ∷ []

abbrev pub limited : (v e f s : List (List ℕ)) → Result Layers ArrayFault
limited v e f s = if nat_lt 60000 (length v + length e + length f + length s) then Err TooManyCells else Ok (space_of v e f s)

abbrev pub is_inside : (size c : ℕ) → Bool
is_inside size c = nat_lt 0 c && nat_le c size

abbrev pub mark_at : (planes rows columns : ℕ) → (bits : List Bool) → (x y z : ℕ) → Bool
mark_at planes rows columns bits x y z =
    if is_inside planes x && (is_inside rows y && is_inside columns z) then slice_index_or bits (((x - 1) * rows + (y - 1)) * columns + (z - 1)) false else false

abbrev pub mark_of : (planes rows columns : ℕ) → (bits : List Bool) → (place : ℕ) → Bool
mark_of planes rows columns bits place =
    mark_at planes rows columns bits (place / ((rows + 2) * (columns + 2))) (place % ((rows + 2) * (columns + 2)) / (columns + 2)) (place % (columns + 2))

abbrev pub box_points : (planes rows columns : ℕ) → ℕ
box_points planes rows columns = (planes + 2) * ((rows + 2) * (columns + 2))

abbrev pub marks_of : (planes rows columns : ℕ) → (bits : List Bool) → List Bool
marks_of planes rows columns bits = map (mark_of planes rows columns bits) (range_with_len 0 ((planes + 2) * ((rows + 2) * (columns + 2))))

abbrev pub space_with : (depth slab row : ℕ) → (marks : List Bool) → Result Layers ArrayFault
space_with depth slab row marks =
    limited (cells_of slab row marks (shapes_in depth 0)) (cells_of slab row marks (shapes_in depth 1)) (cells_of slab row marks (shapes_in depth 2)) (cells_of slab row marks (shapes_in depth 3))

abbrev pub solid : (depth planes rows columns : ℕ) → (bits : List Bool) → Result Layers ArrayFault
solid depth planes rows columns bits = space_with depth ((rows + 2) * (columns + 2)) (columns + 2) (marks_of planes rows columns bits)

abbrev pub from_end : (sizes : List ℕ) → (index : ℕ) → ℕ
from_end sizes index = if nat_lt index (length sizes) then slice_index_or sizes (length sizes - 1 - index) 0 else 1

abbrev pub space_in : Bits → Result Layers ArrayFault
space_in a = solid (length a.sizes) (from_end a.sizes 2) (from_end a.sizes 1) (from_end a.sizes 0) a.bits

abbrev pub places_of : Value → Result Layers ArrayFault
places_of v = and_then (array_of 2 3 v) space_in
