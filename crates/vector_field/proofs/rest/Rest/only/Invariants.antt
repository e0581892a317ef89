use Rattle.std.proofs.Common.{take}
use Rattle.vector_field.proofs.Only.{OnlySoFar}
use Rattle.vector_field.proofs.rest.Rest.only.Given as goal

abbrev pub invariant-loop-cell : goal.invariant-loop-cell
invariant-loop-cell l = OnlySoFar l.self.cells (take l.cell-index l.among) l.only
