use Rattle.std.proofs.Common.{◌≡◌, Ok, take}
use Rattle.hap_outside.specs.declared.source.Failed.{Failed}
use Rattle.hap_outside.specs.Gathers.{Gathers}
use Rattle.hap_ends.specs.Refusals.{later_cells}
use Rattle.hap_ends.proofs.spent.put_later.Given as goal

abbrev pub invariant-cells : goal.invariant-cells
invariant-cells g l = record {
  bytes : Gathers {T = Unit {0}} {E = Failed} (g.E.Sink.written l.initial.err) (g.E.Sink.written l.err) l.initial.held l.held (later_cells (take l.cell-index l.cells)) (Ok tt);
  still : g.E.Sink.faults l.err ≡ g.E.Sink.faults l.initial.err;
}
