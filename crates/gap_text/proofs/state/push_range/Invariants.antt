use Rattle.std.proofs.Common.{◌≡◌, ◌++◌, map}
use Rattle.gap_text.specs.Nest.{view}
use Rattle.gap_text.specs.Reading.{counted}
use Rattle.gap_text.proofs.state.push_range.Given as goal

abbrev pub invariant-loop-index : goal.invariant-loop-index
invariant-loop-index l = map view l.so_far.items ≡ map view l.initial.so_far.items ++ counted l.place l.first l.index
