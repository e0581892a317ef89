use Rattle.std.proofs.Common.{◌≡◌, take}
use Rattle.std.specs.List.{flat_map}
use Rattle.face_poset.specs.Poset.{facets_of}
use Rattle.sphere_collapses.proofs.faces.facets_below.Given as goal

abbrev pub invariant-loop-cell : goal.invariant-loop-cell
invariant-loop-cell l = l.facets.items ≡ flat_map (facets_of l.space l.dim) (take l.cell-index l.cells)
