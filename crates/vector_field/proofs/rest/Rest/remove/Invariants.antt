use Rattle.std.proofs.Common.{◌≡◌, ◌-◌, false, set}
use Rattle.vector_field.proofs.rest.Rest.remove.Given as goal

abbrev pub invariant-loop-facet : goal.invariant-loop-facet
invariant-loop-facet l = (l.self.most ≡ l.fn.self.most) × (l.self.cells ≡ set l.fn.self.cells (l.cell - 1) false)
