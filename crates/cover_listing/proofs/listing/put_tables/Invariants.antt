use Rattle.std.proofs.Common.{◌≡◌, Ok, map}
use Rattle.std.specs.List.{flat_map}
use Rattle.hap_outside.specs.declared.source.Failed.{Failed}
use Rattle.hap_outside.specs.Gathers.{Gathers}
use Rattle.cover_listing.specs.Events.{Finds, counts_of}
use Rattle.cover_listing.proofs.Running.{IsRunning, so_far}
use Rattle.cover_listing.proofs.listing.put_tables.Given as goal

abbrev pub invariant-turns : goal.invariant-turns
invariant-turns g l = record {
  runs : IsRunning l.initial.search l.search l.initial.budget l.budget;
  counted : l.numbers ≡ counts_of 8 (so_far l.initial.search l.initial.budget l.budget);
  bytes : Gathers {T = Unit {0}} {E = Failed} (g.K.Sink.written l.initial.sink) (g.K.Sink.written l.sink) l.initial.held l.held
      (flat_map (g.T.Taker.text l.taker) (map (Finds l.initial.search.relations.generators) (so_far l.initial.search l.initial.budget l.budget))) (Ok tt);
  still : g.K.Sink.faults l.sink ≡ g.K.Sink.faults l.initial.sink;
}

abbrev pub decreases-turns : goal.decreases-turns
decreases-turns g l = l.budget
