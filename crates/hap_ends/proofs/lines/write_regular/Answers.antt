use Rattle.std.proofs.Common.{sym, subst}
use Rattle.hap_outside.specs.Writes.{Writes}
use Rattle.hap_ends.specs.Refusals.{regular_line}
use Rattle.hap_ends.proofs.lines.write_regular.Goals as goal

pub returns-in-NotCycle-clause-bytes : goal.returns-in-NotCycle-clause-bytes
returns-in-NotCycle-clause-bytes g c =
    subst (λ fault. Writes (g.E.Sink.written c.args.err.now) (g.E.Sink.written c.write_rule-in-NotCycle.new.err) (regular_line fault) c.write_rule-in-NotCycle.result) (sym c.in-NotCycle.is) c.write_rule-in-NotCycle.ensures.bytes

pub returns-in-Memory-clause-bytes : goal.returns-in-Memory-clause-bytes
returns-in-Memory-clause-bytes g c =
    subst (λ fault. Writes (g.E.Sink.written c.args.err.now) (g.E.Sink.written c.write_all.new.sink) (regular_line fault) c.write_all.result) (sym c.in-Memory.is) c.write_all.ensures.bytes
