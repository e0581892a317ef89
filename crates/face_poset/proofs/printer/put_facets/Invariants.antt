use Rattle.std.proofs.Common.{◌≡◌, Ok, take}
use Rattle.hap_outside.specs.declared.source.Failed.{Failed}
use Rattle.hap_outside.specs.Gathers.{Gathers}
use Rattle.face_poset.specs.Text.{facet_texts}
use Rattle.face_poset.proofs.printer.put_facets.Given as goal

abbrev pub invariant-loop-facet : goal.invariant-loop-facet
invariant-loop-facet g l = record {
  bytes : Gathers {T = Unit {0}} {E = Failed} (g.K.Sink.written l.initial.sink) (g.K.Sink.written l.sink) l.initial.held l.held (facet_texts (take l.facet-index l.facets)) (Ok tt);
  still : g.K.Sink.faults l.sink ≡ g.K.Sink.faults l.initial.sink;
}
