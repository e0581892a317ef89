use Rattle.std.proofs.Common.{◌≡◌, ◌++◌, Ok, take, codes, decimal}
use Rattle.std.specs.List.{flat_map}
use Rattle.hap_outside.specs.declared.source.Failed.{Failed}
use Rattle.hap_outside.specs.Gathers.{Gathers}
use Rattle.hap_cli.proofs.covers.put_counts.Given as goal

abbrev pub invariant-loop-index : goal.invariant-loop-index
invariant-loop-index g l = record {
  bytes : Gathers {T = Unit {0}} {E = Failed} (g.K.Sink.written l.initial.sink) (g.K.Sink.written l.sink) l.initial.held l.held (flat_map (λ k. codes " " ++ decimal k) (take l.index l.counts)) (Ok tt);
  still : g.K.Sink.faults l.sink ≡ g.K.Sink.faults l.initial.sink;
}
