use Rattle.std.proofs.Common.{◌∙◌, take, drop, ◌+◌, arith}
use Rattle.hap_outside.proofs.CallerLemmas.{gathers_next, gathers_break}
use Rattle.std.specs.List.{flat_map}
use Rattle.certificates.proofs.ListLemmas.{part-more, part-split}
use Rattle.certificates.specs.Written.{pair_text}
use Rattle.certificates.proofs.cover.put_each_pair.Goals as goal

pub returns-in_err-put_pair-clause-bytes : goal.returns-in_err-put_pair-clause-bytes
returns-in_err-put_pair-clause-bytes g c =
    gathers_break _ _ _ _ _ _ (flat_map (pair_text) (take c.loop-index.index (c.args.pairs.now))) ((pair_text) (c.get.result.now)) (flat_map (pair_text) (drop (c.loop-index.index + 1) (c.args.pairs.now))) (flat_map (pair_text) (c.args.pairs.now)) _ _ c.from_residual.result
    c.loop-index.invariant.bytes c.from_residual.ensures.0 c.in_err-put_pair.ensures.bytes (part-split (pair_text) (c.args.pairs.now) c.loop-index.index (c.get.result.now) (c.get.result.now) (omega (arith, c.len-index-end.ensures, c.loop-index-test.true)) (c.get.ensures))

pub loop-index-preserved : goal.loop-index-preserved
loop-index-preserved g c = record {
  bytes = gathers_next _ _ _ _ _ _ _ _ _ _ _ (part-more (pair_text) (c.args.pairs.now) c.loop-index.index (c.get.result.now) (c.get.result.now) (omega (arith, c.len-index-end.ensures, c.loop-index-test.true)) (c.get.ensures)) c.loop-index.invariant.bytes c.in_ok-put_pair.ensures.bytes;
  still = c.in_ok-put_pair.ensures.cause.kept ∙ c.loop-index.invariant.still;
}
