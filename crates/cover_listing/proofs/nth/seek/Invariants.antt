use Rattle.std.proofs.Common.{◌≡◌, ◌<◌, length}
use Rattle.cover_listing.proofs.Running.{IsRunning, so_far}
use Rattle.cover_listing.proofs.nth.seek.Given as goal

abbrev pub invariant-turns : goal.invariant-turns
invariant-turns l = record {
  runs : IsRunning l.initial.search l.search l.initial.budget l.budget;
  counted : l.count ≡ length (so_far l.initial.search l.initial.budget l.budget);
  below : l.count < l.index;
}

abbrev pub decreases-turns : goal.decreases-turns
decreases-turns l = l.budget
