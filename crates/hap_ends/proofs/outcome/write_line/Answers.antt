use Rattle.std.proofs.Common.{sym, subst}
use Rattle.hap_outside.specs.Writes.{Writes}
use Rattle.hap_ends.specs.Outcomes.{line_of}
use Rattle.hap_ends.proofs.outcome.write_line.Goals as goal

pub returns-in-Usage-clause-bytes : goal.returns-in-Usage-clause-bytes
returns-in-Usage-clause-bytes g c =
    subst (λ outcome. Writes (g.E.Sink.written c.args.err.now) (g.E.Sink.written c.write_usage.new.err) (line_of outcome) c.write_usage.result) (sym c.in-Usage.is) c.write_usage.ensures.bytes

pub returns-in-ReadFault-clause-bytes : goal.returns-in-ReadFault-clause-bytes
returns-in-ReadFault-clause-bytes g c =
    subst (λ outcome. Writes (g.E.Sink.written c.args.err.now) (g.E.Sink.written c.write_all.new.sink) (line_of outcome) c.write_all.result) (sym c.in-ReadFault.is) c.write_all.ensures.bytes

pub returns-in-Memory-clause-bytes : goal.returns-in-Memory-clause-bytes
returns-in-Memory-clause-bytes g c =
    subst (λ outcome. Writes (g.E.Sink.written c.args.err.now) (g.E.Sink.written c.write_all-in-Memory.new.sink) (line_of outcome) c.write_all-in-Memory.result) (sym c.in-Memory.is) c.write_all-in-Memory.ensures.bytes
