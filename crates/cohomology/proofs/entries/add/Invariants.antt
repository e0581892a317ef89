use Rattle.cohomology.proofs.RowSteps.{IsAddedUpto}
use Rattle.cohomology.proofs.entries.add.Given as goal

abbrev pub invariant-loop-index : goal.invariant-loop-index
invariant-loop-index g l = IsAddedUpto g.F.Field.ops 1 l.index l.fn.x l.fn.y l.x
