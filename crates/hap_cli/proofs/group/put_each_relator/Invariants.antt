use Rattle.std.proofs.Common.{◌≡◌, Ok, take}
use Rattle.std.specs.List.{flat_map}
use Rattle.hap_outside.specs.declared.source.Failed.{Failed}
use Rattle.hap_outside.specs.Gathers.{Gathers}
use Rattle.hap_cli.specs.GroupTexts.{relator_line}
use Rattle.hap_cli.proofs.group.put_each_relator.Given as goal

abbrev pub invariant-loop-index : goal.invariant-loop-index
invariant-loop-index g l = record {
  bytes : Gathers {T = Unit {0}} {E = Failed} (g.K.Sink.written l.initial.out) (g.K.Sink.written l.out) l.initial.held l.held (flat_map relator_line (take l.index l.group.relators)) (Ok tt);
  still : g.K.Sink.faults l.out ≡ g.K.Sink.faults l.initial.out;
}
