use Rattle.std.proofs.Common.{◌≡◌, Ok, take}
use Rattle.hap_outside.specs.declared.source.Failed.{Failed}
use Rattle.hap_outside.specs.Gathers.{Gathers}
use Rattle.certificates.specs.Written.{columns_text}
use Rattle.certificates.proofs.cover.put_columns.Given as goal

abbrev pub invariant-loop-index : goal.invariant-loop-index
invariant-loop-index g l = record {
  bytes : Gathers {T = Unit {0}} {E = Failed} (g.K.Sink.written l.initial.sink) (g.K.Sink.written l.sink) l.initial.held l.held (columns_text 1 (take l.index l.columns)) (Ok tt);
  still : g.K.Sink.faults l.sink ≡ g.K.Sink.faults l.initial.sink;
}
