use Rattle.std.proofs.Common.{◌≡◌}
use Rattle.vector_field.specs.Pairs.{counts_of}
use Rattle.vector_field.specs.Pairings.{lengths}
use Rattle.vector_field.specs.LastPlaces.{AreLast}
use Rattle.vector_field.proofs.checking.last_places.Given as goal

abbrev pub invariant-loop-index : goal.invariant-loop-index
invariant-loop-index g l = (lengths l.last ≡ counts_of (g.G.Graded.space l.graded)) × AreLast (g.G.Graded.space l.graded) l.pairs l.index l.last
