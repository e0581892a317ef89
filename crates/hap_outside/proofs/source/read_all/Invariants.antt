use Rattle.std.proofs.Common.{◌≡◌, ◌≤◌, ◌-◌, ◌+◌, length, true}
use Rattle.std.specs.Io.KnownBytes.{Consumes}
use Rattle.hap_outside.proofs.source.read_all.Given as goal

abbrev pub invariant-turns : goal.invariant-turns
invariant-turns g l = record {
  begun : g.S.Source.begun l.source ≡ true;
  store : g.S.Source.store l.source ≡ g.S.Source.store l.initial.source;
  same : g.S.Source.faults l.source ≡ g.S.Source.faults l.initial.source;
  within : length l.bytes.items ≤ l.limit + 1;
  taken : Consumes (g.S.Source.left l.initial.source) (g.S.Source.left l.source) l.bytes.items;
}

abbrev pub decreases-turns : goal.decreases-turns
decreases-turns g l = l.limit + 1 - length l.bytes.items
