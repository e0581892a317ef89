use Rattle.std.proofs.Common.{◌≡◌}
use Rattle.gap_text.specs.Nest.{view}
use Rattle.gap_text.specs.Value.{depth}
use Rattle.array_values.specs.Bits.{sizes_of}
use Rattle.array_values.proofs.Levels.{sizes_onto}
use Rattle.array_values.proofs.bits.read_sizes.Given as goal

abbrev pub invariant-loop-first : goal.invariant-loop-first
invariant-loop-first l = sizes_of (view l.nest) ≡ sizes_onto l.sizes.items (view l.first)

abbrev pub decreases-loop-first : goal.decreases-loop-first
decreases-loop-first l = depth (view l.first)
