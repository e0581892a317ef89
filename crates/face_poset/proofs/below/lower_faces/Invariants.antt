use Rattle.std.proofs.Common.{◌≡◌, ◌+◌, take}
use Rattle.std.specs.List.{flat_map}
use Rattle.face_poset.specs.Poset.{facets_of}
use Rattle.face_poset.proofs.below.lower_faces.Given as goal

abbrev pub invariant-loop-cell : goal.invariant-loop-cell
invariant-loop-cell l = l.facets.items ≡ flat_map (λ c. facets_of l.layers (l.dim + 1) c) (take l.cell-index l.cells)
