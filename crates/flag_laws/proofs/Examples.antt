-- The definitions on small spaces.
use Rattle.std.proofs.Common.{◌≡◌, [], ◌∷◌, refl}
use Rattle.face_poset.specs.Poset.{Layers}
use Rattle.small_field.specs.Modulus.{field_of}
use Rattle.cell_signs.specs.Along.{low_negative}
use Rattle.flag_laws.specs.Laws.{flag_rows, cell_rows_into}

-- an edge with its two ends, modulo 3: the flag of the edge goes down to its first end
edge : Layers
edge = ([] ∷ [] ∷ []) ∷ ((1 ∷ 2 ∷ []) ∷ []) ∷ [] ∷ [] ∷ []

edge_rows : flag_rows (field_of 3) edge (low_negative edge) 0 ≡ (2 ∷ []) ∷ (1 ∷ []) ∷ []
unfolding edge
edge_rows = refl

edge_into : cell_rows_into (field_of 3) edge (low_negative edge) 1 ≡ (2 ∷ []) ∷ (1 ∷ []) ∷ []
unfolding edge
edge_into = refl

-- a 2-cell with two edges between two vertices, modulo 5
disk : Layers
disk = ([] ∷ [] ∷ []) ∷ ((1 ∷ 2 ∷ []) ∷ (1 ∷ 2 ∷ []) ∷ []) ∷ ((1 ∷ 2 ∷ []) ∷ []) ∷ [] ∷ []

disk_low : flag_rows (field_of 5) disk (low_negative disk) 0 ≡ (4 ∷ 4 ∷ []) ∷ (1 ∷ 1 ∷ []) ∷ []
unfolding disk
disk_low = refl

disk_high : flag_rows (field_of 5) disk (low_negative disk) 1 ≡ (1 ∷ []) ∷ (4 ∷ []) ∷ []
unfolding disk
disk_high = refl
