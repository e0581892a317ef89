use Rattle.std.proofs.Common.{take}
use Rattle.sphere_collapses.specs.Places.{AreFacetPlaces}
use Rattle.sphere_collapses.proofs.faces.facet_places.Given as goal

abbrev pub invariant-loop-cell : goal.invariant-loop-cell
invariant-loop-cell l = AreFacetPlaces l.space l.dim l.sorted (take l.cell-index l.cells) l.lists
