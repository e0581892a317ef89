-- The permutahedral space of points with whole coordinates. A cell of dimension d - k, where d is the dimension of the points, is a
-- sequence of k + 1 different points of which at least one is present. Each step of the sequence adds a 0/1 vector, and the last point
-- less the first is a 0/1 vector. A facet of a cell has one point more, and holds all its points.
-- (The dual of the Freudenthal, or Kuhn, triangulation: textbook.)
--
-- The present points have coordinates from 0, and all points coordinates from -1. A coordinate is written higher by one here: -1 as 0.
-- A point and a vector are the list of their coordinates, a cell the list of its points; sizes says how many points may be present in
-- each direction, present is the list of those that are, above the cells with one point more. All points with coordinates below limits are boxed of tuple_spaces.
--   vectors d                the 0/1 vectors with so many coordinates, in lexicographic order
--   moved point vector       a point moved by a vector
--   is_within vector other   whether no coordinate is above that of the other
--   is_below vector other    whether the other vector is this one with a 0/1 vector that is not zero added
--   chains count all vector  so many vectors one after another, each above the one before and the first above this one, in
--                            lexicographic order
--   still d                  the vector without a step
--   sequences d k first      the sequences of k + 1 points of dimension d that begin with a point
--   is_among points point    whether a point is one of these
--   cells_of sizes present k the cells that are sequences of k + 1 points, in lexicographic order of their coordinates
--   facets_of above cell     the numbers of the facets of a cell
--   layer_of sizes present k the cells that are sequences of k + 1 points, each as the list of the numbers of its facets
--   layer_in sizes present dim  the cells of a dimension, which is at most that of the points
--   space_of sizes present   the space
--   limited space            the space, where it has not too many cells
--   present_of sizes bits    the points of the bits that are 1
--   permutahedral_of v       the space of an array of two or three levels, outer indices first, or its first fault
use Rattle.std.specs.Prelude.{ℕ, zero, suc, ◌+◌, ◌-◌, ◌&&◌, List, [], ◌∷◌, length, map, filter, slice_index_or, Bool, true, false, not, if◌then◌else◌, nat_le, nat_lt, Result, Ok, Err}
use Rattle.std.specs.List.{flat_map, list_all, list_any, items_where_true}
use Rattle.gap_text.specs.Value.{Value}
use Rattle.face_poset.specs.Poset.{Layers}
use Rattle.face_poset.specs.Words.{upto}
use Rattle.array_values.specs.declared.fault.ArrayFault.{ArrayFault}
use Rattle.array_values.specs.declared.fault.ArrayFault.TheVariants.{TooManyCells}
use Rattle.array_values.specs.Answers.{and_then}
use Rattle.array_values.specs.Bits.{array_of}
use Rattle.tuple_spaces.specs.Tuples.{boxed, tuples, same}

abbrev pub vectors : (d : ℕ) → List (List ℕ)
vectors d = tuples d 2

abbrev pub moved : (point vector : List ℕ) → List ℕ
moved [] vector = []
moved (c ∷ cs) [] = []
moved (c ∷ cs) (b ∷ bs) = (c + b) ∷ moved cs bs

abbrev pub is_within : (vector other : List ℕ) → Bool
is_within [] others = true
is_within (b ∷ bs) [] = false
is_within (b ∷ bs) (c ∷ cs) = nat_le b c && is_within bs cs

abbrev pub is_below : (vector other : List ℕ) → Bool
is_below vector other = is_within vector other && not (same vector other)

abbrev pub chains : (count : ℕ) → (all : List (List ℕ)) → (vector : List ℕ) → List (List (List ℕ))
chains zero all vector = [] ∷ []
chains (suc count) all vector = flat_map (λ next. map (λ rest. next ∷ rest) (chains count all next)) (filter (is_below vector) all)

abbrev pub still : (d : ℕ) → List ℕ
still zero = []
still (suc d) = 0 ∷ still d

abbrev pub sequences : (d k : ℕ) → (first : List ℕ) → List (List (List ℕ))
sequences d k first = map (λ chain. first ∷ map (moved first) chain) (chains k (vectors d) (still d))

abbrev pub is_among : (points : List (List ℕ)) → (point : List ℕ) → Bool
is_among points point = list_any (same point) points

abbrev pub cells_of : (sizes : List ℕ) → (present : List (List ℕ)) → (k : ℕ) → List (List (List ℕ))
cells_of sizes present k = filter (list_any (is_among present)) (flat_map (sequences (length sizes) k) (boxed (map (λ size. size + 1) sizes)))

abbrev pub facets_of : (above : List (List (List ℕ))) → (cell : List (List ℕ)) → List ℕ
facets_of above cell = filter (λ n. list_all (is_among (slice_index_or above (n - 1) [])) cell) (upto (length above))

abbrev pub layer_of : (sizes : List ℕ) → (present : List (List ℕ)) → (k : ℕ) → List (List ℕ)
layer_of sizes present k = map (facets_of (cells_of sizes present (suc k))) (cells_of sizes present k)

abbrev pub layer_in : (sizes : List ℕ) → (present : List (List ℕ)) → (dim : ℕ) → List (List ℕ)
layer_in sizes present dim = if nat_le dim (length sizes) then layer_of sizes present (length sizes - dim) else []

abbrev pub space_of : (sizes : List ℕ) → (present : List (List ℕ)) → Layers
space_of sizes present = layer_in sizes present 0 ∷ layer_in sizes present 1 ∷ layer_in sizes present 2 ∷ layer_in sizes present 3 ∷ []

abbrev pub limited : (space : Layers) → Result Layers ArrayFault
limited space = if nat_lt 60000 (length (flat_map (λ layer. layer) space)) then Err TooManyCells else Ok space

abbrev pub present_of : (sizes : List ℕ) → (bits : List Bool) → List (List ℕ)
present_of sizes bits = map (map suc) (items_where_true bits (boxed sizes))

abbrev pub permutahedral_of : Value → Result Layers ArrayFault
permutahedral_of v = and_then (array_of 2 3 v) (λ a. limited (space_of a.sizes (present_of a.sizes a.bits)))
