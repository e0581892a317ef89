use Rattle.std.proofs.Common.{sym, subst, codes}
use Rattle.hap_outside.specs.Writes.{Writes}
use Rattle.hap_ends.specs.Refusals.{refusal_line, count_line}
use Rattle.hap_ends.proofs.refusal.write_refusal.Goals as goal

pub returns-in-TooLong-clause-bytes : goal.returns-in-TooLong-clause-bytes
returns-in-TooLong-clause-bytes g c =
    subst (λ r. Writes (g.E.Sink.written c.args.err.now) (g.E.Sink.written c.write_count.new.err) (refusal_line r) c.write_count.result) (sym c.in-TooLong.is) c.write_count.ensures.bytes

pub returns-in-Components-clause-bytes : goal.returns-in-Components-clause-bytes
returns-in-Components-clause-bytes g c =
    subst (λ r. Writes (g.E.Sink.written c.args.err.now) (g.E.Sink.written c.write_count-in-Components.new.err) (refusal_line r) c.write_count-in-Components.result) (sym c.in-Components.is)
    (subst (λ n. Writes (g.E.Sink.written c.args.err.now) (g.E.Sink.written c.write_count-in-Components.new.err) (count_line (codes "hap: limit: only ") n (codes " components\n")) c.write_count-in-Components.result)
    c.from.ensures c.write_count-in-Components.ensures.bytes)

pub returns-in-Position-clause-bytes : goal.returns-in-Position-clause-bytes
returns-in-Position-clause-bytes g c =
    subst (λ r. Writes (g.E.Sink.written c.args.err.now) (g.E.Sink.written c.write_all.new.sink) (refusal_line r) c.write_all.result) (sym c.in-Position.is) c.write_all.ensures.bytes

pub returns-in-TotalCells-clause-bytes : goal.returns-in-TotalCells-clause-bytes
returns-in-TotalCells-clause-bytes g c =
    subst (λ r. Writes (g.E.Sink.written c.args.err.now) (g.E.Sink.written c.write_all-in-TotalCells.new.sink) (refusal_line r) c.write_all-in-TotalCells.result) (sym c.in-TotalCells.is) c.write_all-in-TotalCells.ensures.bytes
