use Rattle.std.proofs.Common.{sym, subst}
use Rattle.hap_outside.specs.Writes.{Writes}
use Rattle.hap_ends.specs.Refusals.{facet_line}
use Rattle.hap_ends.proofs.lines.write_facet.Goals as goal

pub returns-in-Repeated-clause-bytes : goal.returns-in-Repeated-clause-bytes
returns-in-Repeated-clause-bytes g c =
    subst (λ fault. Writes (g.E.Sink.written c.args.err.now) (g.E.Sink.written c.write_facet_at-in-Repeated.new.err) (facet_line fault) c.write_facet_at-in-Repeated.result) (sym c.in-Repeated.is) c.write_facet_at-in-Repeated.ensures.bytes

pub returns-in-TooManyCells-clause-bytes : goal.returns-in-TooManyCells-clause-bytes
returns-in-TooManyCells-clause-bytes g c =
    subst (λ fault. Writes (g.E.Sink.written c.args.err.now) (g.E.Sink.written c.write_all-in-TooManyCells.new.sink) (facet_line fault) c.write_all-in-TooManyCells.result) (sym c.in-TooManyCells.is) c.write_all-in-TooManyCells.ensures.bytes

pub returns-in-Memory-clause-bytes : goal.returns-in-Memory-clause-bytes
returns-in-Memory-clause-bytes g c =
    subst (λ fault. Writes (g.E.Sink.written c.args.err.now) (g.E.Sink.written c.write_all-in-Memory.new.sink) (facet_line fault) c.write_all-in-Memory.result) (sym c.in-Memory.is) c.write_all-in-Memory.ensures.bytes
