use Rattle.std.proofs.Common.{◌≡◌}
use Rattle.vector_field.proofs.rest.Rest.next_left.Given as goal

abbrev pub invariant-loop-index : goal.invariant-loop-index
invariant-loop-index l = (l.self-inside.cells.items ≡ l.initial.self-inside.cells.items) × (l.self-inside.shared.items ≡ l.initial.self-inside.shared.items) × (l.self-inside.free.items ≡ l.initial.self-inside.free.items)
