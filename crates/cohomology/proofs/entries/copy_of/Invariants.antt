use Rattle.cohomology.proofs.RowSteps.{IsCopiedUpto}
use Rattle.cohomology.proofs.entries.copy_of.Given as goal

abbrev pub invariant-loop-index : goal.invariant-loop-index
invariant-loop-index g l = IsCopiedUpto l.count l.index l.fn.x l.copy
