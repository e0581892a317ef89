use Rattle.std.proofs.Common.{◌≡◌}
use Rattle.chosen_field.specs.Rests.{IsGoneBelow}
use Rattle.chosen_field.proofs.rest.Rest.first_left.Given as goal

abbrev pub invariant-loop-index : goal.invariant-loop-index
invariant-loop-index l =
    (l.self-inside.cells.items ≡ l.initial.self-inside.cells.items)
    × (l.self-inside.shared ≡ l.initial.self-inside.shared)
    × IsGoneBelow l.self-inside.cells.items l.index
