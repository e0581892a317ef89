use Rattle.std.proofs.Common.{◌≡◌, ◌≤◌, ◌-◌}
use Rattle.cert_text.proofs.LayerLemmas.{points}
use Rattle.cert_text.proofs.space.add_points.Given as goal

abbrev pub invariant-points : goal.invariant-points
invariant-points l = record { layers : l.builder ≡ points l.added; within : l.added ≤ l.points }

abbrev pub decreases-points : goal.decreases-points
decreases-points l = l.points - l.added
