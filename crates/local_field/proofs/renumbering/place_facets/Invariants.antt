use Rattle.std.proofs.Common.{take}
use Rattle.sphere_collapses.specs.Places.{ArePlaces}
use Rattle.local_field.specs.Flags.{cells_at}
use Rattle.local_field.proofs.renumbering.place_facets.Given as goal

abbrev pub invariant-loop-cell : goal.invariant-loop-cell
invariant-loop-cell l = ArePlaces (cells_at l.numbering l.dim) (take l.cell-index l.cells) l.places.items
