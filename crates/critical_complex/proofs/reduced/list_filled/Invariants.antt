use Rattle.critical_complex.specs.Stages.{AreFilled}
use Rattle.critical_complex.proofs.reduced.list_filled.Given as goal

abbrev pub invariant-loop-dim : goal.invariant-loop-dim
invariant-loop-dim g l = AreFilled g.F.Field.ops l.stages l.dim l.filled.items
