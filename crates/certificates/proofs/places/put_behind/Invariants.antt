use Rattle.std.proofs.Common.{◌≡◌, Ok, take, ◌∷◌, []}
use Rattle.hap_outside.specs.declared.source.Failed.{Failed}
use Rattle.hap_outside.specs.Gathers.{Gathers}
use Rattle.certificates.specs.Written.{behind_text}
use Rattle.certificates.proofs.places.put_behind.Given as goal

abbrev pub invariant-loop-cell : goal.invariant-loop-cell
invariant-loop-cell g l = record {
  bytes : Gathers {T = Unit {0}} {E = Failed} (g.K.Sink.written l.initial.sink) (g.K.Sink.written l.sink) l.initial.held l.held (behind_text (44 ∷ []) (take l.cell-index l.cells)) (Ok tt);
  still : g.K.Sink.faults l.sink ≡ g.K.Sink.faults l.initial.sink;
}
