use Rattle.std.proofs.Common.{◌≡◌, ◌≤◌, ◌-◌, ◌++◌, length}
use Rattle.facet_reader.proofs.ChainPlaces.{places_first}
use Rattle.facet_reader.proofs.chains.+push_chains.Given as goal

abbrev pub decreases-push_chains : goal.decreases-push_chains
decreases-push_chains l = l.size

abbrev pub invariant-loop-point : goal.invariant-loop-point
invariant-loop-point l = record {
  places : l.places.items ≡ l.initial.places.items ++ places_first l.above (l.size - 1) l.high l.next l.point-index;
  few : length l.places.items ≤ 60000;
}
