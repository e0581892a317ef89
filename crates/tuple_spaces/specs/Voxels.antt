-- The cubical space of voxels in a box. The voxel with index i in a direction, counted from 0, has the coordinate 2i + 1 there. A cell is a
-- tuple of coordinates, of which the even ones are points and the odd ones the intervals between two points.
-- (Elementary cubes, each coordinate doubled: textbook.)
-- sizes says how many voxels the box has in each direction; indices is a list of voxels, each by its index in each direction.
--   voxel index                the coordinates of a voxel
--   faces tuple                a voxel and all its faces: each coordinate stays, or moves by one
--   facets tuple               the facets of a cell: an odd coordinate c is replaced by c - 1 or c + 1
--   limits_of sizes            the coordinates of the box are below these
--   cells_of sizes indices     the cells: these voxels and all their faces, each once, in lexicographic order
--   limited cells              the space of the cells, where they are not too many
--   voxel_space sizes indices  the space of the voxels
--   cubical_of v               the space of an array of one to three levels, outer indices first, or its first fault
use Rattle.std.specs.Prelude.{ℕ, ◌+◌, ◌-◌, ◌*◌, List, [], ◌∷◌, ◌++◌, length, map, filter, if◌then◌else◌, nat_lt, Result, Ok, Err}
use Rattle.std.specs.List.{flat_map, list_any, items_where_true}
use Rattle.array_values.specs.Value.{Value}
use Rattle.face_poset.specs.Poset.{Layers}
use Rattle.array_values.specs.declared.fault.ArrayFault.{ArrayFault}
use Rattle.array_values.specs.declared.fault.ArrayFault.TheVariants.{TooManyCells}
use Rattle.array_values.specs.Answers.{and_then}
use Rattle.array_values.specs.Bits.{array_of}
use Rattle.tuple_spaces.specs.Tuples.{boxed, is_odd, same, space_of}

abbrev pub voxel : (indices : List ℕ) → List ℕ
voxel indices = map (λ i. 2 * i + 1) indices

abbrev pub faces : List ℕ → List (List ℕ)
faces [] = [] ∷ []
faces (c ∷ cs) = flat_map (λ d. map (λ t. d ∷ t) (faces cs)) ((c - 1) ∷ c ∷ (c + 1) ∷ [])

abbrev pub facets : List ℕ → List (List ℕ)
facets [] = []
facets (c ∷ cs) = (if is_odd c then ((c - 1) ∷ cs) ∷ ((c + 1) ∷ cs) ∷ [] else []) ++ map (λ t. c ∷ t) (facets cs)

abbrev pub limits_of : (sizes : List ℕ) → List ℕ
limits_of sizes = map (λ size. 2 * size + 1) sizes

abbrev pub cells_of : (sizes : List ℕ) → (indices : List (List ℕ)) → List (List ℕ)
cells_of sizes indices = filter (λ t. list_any (same t) (flat_map (λ i. faces (voxel i)) indices)) (boxed (limits_of sizes))

abbrev pub limited : (cells : List (List ℕ)) → Result Layers ArrayFault
limited cells = if nat_lt 60000 (length cells) then Err TooManyCells else Ok (space_of facets cells)

abbrev pub voxel_space : (sizes : List ℕ) → (indices : List (List ℕ)) → Result Layers ArrayFault
voxel_space sizes indices = limited (cells_of sizes indices)

abbrev pub cubical_of : Value → Result Layers ArrayFault
cubical_of v = and_then (array_of 1 3 v) (λ a. voxel_space a.sizes (items_where_true a.bits (boxed a.sizes)))
