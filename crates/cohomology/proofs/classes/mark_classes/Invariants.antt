use Rattle.std.proofs.Common.{take}
use Rattle.linear_laws.specs.Marks.{identity}
use Rattle.split_laws.specs.Kinds.{criticals}
use Rattle.critical_complex.specs.Levels.{kinds_at}
use Rattle.cohomology.specs.Bases.{AreLinesFor}
use Rattle.cohomology.proofs.classes.mark_classes.Given as goal

abbrev pub invariant-loop-place : goal.invariant-loop-place
invariant-loop-place g l = AreLinesFor g.F.Field.ops l.fn.reduced l.fn.dim (take l.place (identity (criticals (kinds_at l.fn.reduced l.fn.dim)))) (take l.place (identity (criticals (kinds_at l.fn.reduced l.fn.dim)))) l.lines.items
