use Rattle.std.proofs.Common.{length, map}
use Rattle.linear_laws.specs.Vectors.{dot}
use Rattle.chain_laws.specs.Lines.{cochain_of}
use Rattle.chain_laws.specs.AllLines.{right_sides}
use Rattle.cohomology.proofs.RowSteps.{IsCopiedUpto}
use Rattle.cohomology.proofs.written.dual_values.Given as goal

abbrev pub invariant-loop-index : goal.invariant-loop-index
invariant-loop-index g l = IsCopiedUpto l.count l.index (map (λ right. dot g.F.Field.ops l.fn.x (cochain_of (length l.fn.x) right)) (right_sides l.fn.lines)) l.values
