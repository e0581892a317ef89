-- Laws: each cubical space of voxels in a box is regular.
--   lies_in sizes index          whether an index has one entry for each direction of a box, below the size there
--   VoxelSpacesAreRegular        the space of any voxels in a box of at most three directions is regular
--   KeptVoxelSpacesAreRegular    the space of the voxels of such a box that a test keeps is regular
--   CubicalSpacesAreRegular      the space of an array is regular
use Rattle.std.specs.Prelude.{◌≡◌, ◌≤◌, ◌&&◌, ℕ, List, [], ◌∷◌, length, filter, Bool, true, false, nat_lt, Ok}
use Rattle.std.specs.List.{list_all}
use Rattle.array_values.specs.Value.{Value}
use Rattle.face_poset.specs.Poset.{Layers}
use Rattle.regular_check.specs.Rules.{IsRegular}
use Rattle.tuple_spaces.specs.Voxels.{voxel_space, cubical_of}
use Rattle.tuple_spaces.specs.Tuples.{boxed}

abbrev pub lies_in : (sizes index : List ℕ) → Bool
lies_in [] [] = true
lies_in [] (i ∷ index) = false
lies_in (size ∷ sizes) [] = false
lies_in (size ∷ sizes) (i ∷ index) = nat_lt i size && lies_in sizes index

abbrev pub VoxelSpacesAreRegular : Type 0
VoxelSpacesAreRegular =
    (sizes : List ℕ) (indices : List (List ℕ)) (space : Layers)
    → length sizes ≤ 3 → list_all (lies_in sizes) indices ≡ true → voxel_space sizes indices ≡ Ok space → IsRegular space

abbrev pub KeptVoxelSpacesAreRegular : Type 0
KeptVoxelSpacesAreRegular =
    (sizes : List ℕ) (keeps : List ℕ → Bool) (space : Layers)
    → length sizes ≤ 3 → voxel_space sizes (filter keeps (boxed sizes)) ≡ Ok space → IsRegular space

abbrev pub CubicalSpacesAreRegular : Type 0
CubicalSpacesAreRegular = (v : Value) (space : Layers) → cubical_of v ≡ Ok space → IsRegular space
