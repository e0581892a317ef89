use Rattle.cohomology.proofs.ReducedLines.{IsPutBefore}
use Rattle.cohomology.proofs.ranks.spread_values.Given as goal

abbrev pub invariant-loop-index : goal.invariant-loop-index
invariant-loop-index g l = IsPutBefore l.fn.reduced l.fn.dim l.places l.fn.values l.index l.spread
