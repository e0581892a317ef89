use Rattle.std.proofs.Common.{sym, subst, codes}
use Rattle.hap_outside.specs.Writes.{Writes}
use Rattle.hap_ends.specs.Refusals.{space_line, count_line}
use Rattle.hap_ends.proofs.lines.write_space.Goals as goal

pub returns-in-Shape-clause-bytes : goal.returns-in-Shape-clause-bytes
returns-in-Shape-clause-bytes g c =
    subst (λ fault. Writes (g.E.Sink.written c.args.err.now) (g.E.Sink.written c.write_count.new.err) (space_line fault) c.write_count.result) (sym c.in-Shape.is)
    (subst (λ n. Writes (g.E.Sink.written c.args.err.now) (g.E.Sink.written c.write_count.new.err) (count_line (codes "hap: space: shape at byte ") n (codes "\n")) c.write_count.result) c.from.ensures c.write_count.ensures.bytes)

pub returns-in-RepeatedFace-clause-bytes : goal.returns-in-RepeatedFace-clause-bytes
returns-in-RepeatedFace-clause-bytes g c =
    subst (λ fault. Writes (g.E.Sink.written c.args.err.now) (g.E.Sink.written c.write_cell-in-RepeatedFace.new.err) (space_line fault) c.write_cell-in-RepeatedFace.result) (sym c.in-RepeatedFace.is) c.write_cell-in-RepeatedFace.ensures.bytes

pub returns-in-TooManyCells-clause-bytes : goal.returns-in-TooManyCells-clause-bytes
returns-in-TooManyCells-clause-bytes g c =
    subst (λ fault. Writes (g.E.Sink.written c.args.err.now) (g.E.Sink.written c.write_all-in-TooManyCells.new.sink) (space_line fault) c.write_all-in-TooManyCells.result) (sym c.in-TooManyCells.is) c.write_all-in-TooManyCells.ensures.bytes

pub returns-in-Memory-clause-bytes : goal.returns-in-Memory-clause-bytes
returns-in-Memory-clause-bytes g c =
    subst (λ fault. Writes (g.E.Sink.written c.args.err.now) (g.E.Sink.written c.write_all-in-Memory.new.sink) (space_line fault) c.write_all-in-Memory.result) (sym c.in-Memory.is) c.write_all-in-Memory.ensures.bytes
