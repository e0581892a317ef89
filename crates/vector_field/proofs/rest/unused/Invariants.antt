use Rattle.std.proofs.Common.{◌≡◌, ◌≤◌, ℕ, length, not}
use Rattle.vector_field.specs.Pairs.{is_used}
use Rattle.vector_field.specs.Stages.{is_left}
use Rattle.vector_field.proofs.rest.unused.Given as goal

abbrev pub invariant-loop-index : goal.invariant-loop-index
invariant-loop-index l =
    (length l.cells.items ≡ l.index)
    × ((cell : ℕ) → 1 ≤ cell → cell ≤ l.index → is_left l.cells.items cell ≡ not (is_used l.pairing.pairs l.dim cell))
