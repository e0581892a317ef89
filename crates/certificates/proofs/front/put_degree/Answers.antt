use Rattle.std.proofs.Common.{◌∙◌, take, drop, ◌+◌, arith}
use Rattle.hap_outside.proofs.CallerLemmas.{gathers_next, gathers_break}
use Rattle.std.specs.List.{flat_map}
use Rattle.certificates.proofs.ListLemmas.{part-more, part-split}
use Rattle.certificates.specs.Degrees.{at}
use Rattle.certificates.specs.Written.{side_line}
use Rattle.certificates.proofs.front.put_degree.Goals as goal

pub returns-in_err-put_listed_line-clause-bytes : goal.returns-in_err-put_listed_line-clause-bytes
returns-in_err-put_listed_line-clause-bytes g c =
    gathers_break _ _ _ _ _ _ (flat_map (side_line c.args.kind) (take c.loop-index.index (at c.args.lines.now c.args.degree))) ((side_line c.args.kind) (c.get-line.result.now)) (flat_map (side_line c.args.kind) (drop (c.loop-index.index + 1) (at c.args.lines.now c.args.degree))) (flat_map (side_line c.args.kind) (at c.args.lines.now c.args.degree)) _ _ c.from_residual.result
    c.loop-index.invariant.bytes c.from_residual.ensures.0 c.in_err-put_listed_line.ensures.bytes (part-split (side_line c.args.kind) (at c.args.lines.now c.args.degree) c.loop-index.index (c.get-line.result.now) (c.get-line.result.now) (omega (arith, c.len-index-end.ensures, c.loop-index-test.true)) (c.get-line.ensures))

pub loop-index-preserved : goal.loop-index-preserved
loop-index-preserved g c = record {
  bytes = gathers_next _ _ _ _ _ _ _ _ _ _ _ (part-more (side_line c.args.kind) (at c.args.lines.now c.args.degree) c.loop-index.index (c.get-line.result.now) (c.get-line.result.now) (omega (arith, c.len-index-end.ensures, c.loop-index-test.true)) (c.get-line.ensures)) c.loop-index.invariant.bytes c.in_ok-put_listed_line.ensures.bytes;
  still = c.in_ok-put_listed_line.ensures.cause.kept ∙ c.loop-index.invariant.still;
}
