use Rattle.std.proofs.Common.{◌≡◌, Ok, take}
use Rattle.hap_outside.specs.declared.source.Failed.{Failed}
use Rattle.hap_outside.specs.Gathers.{Gathers}
use Rattle.hap_cli.specs.GroupTexts.{later_letters}
use Rattle.hap_cli.proofs.group.put_later.Given as goal

abbrev pub invariant-loop-index : goal.invariant-loop-index
invariant-loop-index g l = record {
  bytes : Gathers {T = Unit {0}} {E = Failed} (g.K.Sink.written l.initial.out) (g.K.Sink.written l.out) l.initial.held l.held (later_letters (take l.index l.letters)) (Ok tt);
  still : g.K.Sink.faults l.out ≡ g.K.Sink.faults l.initial.out;
}
