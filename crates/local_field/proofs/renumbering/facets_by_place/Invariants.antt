use Rattle.std.proofs.Common.{◌≡◌, map}
use Rattle.number_lists.specs.Words.{upto}
use Rattle.local_field.specs.Flags.{facets_at}
use Rattle.local_field.proofs.renumbering.facets_by_place.Given as goal

abbrev pub invariant-loop-index : goal.invariant-loop-index
invariant-loop-index g l = l.lists ≡ map (facets_at (g.G.Graded.space l.graded) l.numbering l.dim) (upto l.index)
