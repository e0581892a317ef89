use Rattle.std.proofs.Common.{◌≡◌}
use Rattle.vector_field.proofs.rest.Rest.new.Given as goal

abbrev pub invariant-loop-index : goal.invariant-loop-index
invariant-loop-index g l = (l.rest.most ≡ l.initial.rest.most) × (l.rest.cells ≡ l.initial.rest.cells)
