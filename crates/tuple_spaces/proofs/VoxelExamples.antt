-- Worked examples of the definitions.
use Rattle.std.proofs.Common.{◌≡◌, refl, ◌∷◌, [], length, Ok, true, false}
use Rattle.array_values.specs.Value.{number, list, values}
use Rattle.tuple_spaces.specs.Voxels.{facets, cells_of, voxel_space, cubical_of}
use Rattle.tuple_spaces.specs.VoxelLaws.{lies_in}

-- an edge of a square has two ends, and the square four sides
ends : facets (2 ∷ 1 ∷ []) ≡ (2 ∷ 0 ∷ []) ∷ (2 ∷ 2 ∷ []) ∷ []
ends = refl

sides : facets (1 ∷ 3 ∷ []) ≡ (0 ∷ 3 ∷ []) ∷ (2 ∷ 3 ∷ []) ∷ (1 ∷ 2 ∷ []) ∷ (1 ∷ 4 ∷ []) ∷ []
sides = refl

-- one of two voxels in a row: an interval
interval : voxel_space (2 ∷ []) ((1 ∷ []) ∷ []) ≡ Ok (([] ∷ [] ∷ []) ∷ ((1 ∷ 2 ∷ []) ∷ []) ∷ [] ∷ [] ∷ [])
interval = refl

-- [[1]]: a square
square : cubical_of (list 0 (values (list 1 (values (number 2 1 ∷ [])) ∷ []))) ≡ Ok (([] ∷ [] ∷ [] ∷ [] ∷ []) ∷ ((1 ∷ 2 ∷ []) ∷ (1 ∷ 3 ∷ []) ∷ (2 ∷ 4 ∷ []) ∷ (3 ∷ 4 ∷ []) ∷ []) ∷ ((1 ∷ 2 ∷ 3 ∷ 4 ∷ []) ∷ []) ∷ [] ∷ [])
square = refl

-- two squares with a corner in common have 7 vertices and 8 edges
corner : length (cells_of (2 ∷ 2 ∷ []) ((0 ∷ 0 ∷ []) ∷ (1 ∷ 1 ∷ []) ∷ [])) ≡ 17
corner = refl

-- two cubes with a square in common have 12 vertices, 20 edges and 11 squares
neighbors : length (cells_of (1 ∷ 1 ∷ 2 ∷ []) ((0 ∷ 0 ∷ 0 ∷ []) ∷ (0 ∷ 0 ∷ 1 ∷ []) ∷ [])) ≡ 45
neighbors = refl

-- indices in a box of 2 by 1 voxels, and outside
in_box : lies_in (2 ∷ 1 ∷ []) (1 ∷ 0 ∷ []) ≡ true
in_box = refl

too_far : lies_in (2 ∷ 1 ∷ []) (0 ∷ 1 ∷ []) ≡ false
too_far = refl

too_short : lies_in (2 ∷ 1 ∷ []) (0 ∷ []) ≡ false
too_short = refl
