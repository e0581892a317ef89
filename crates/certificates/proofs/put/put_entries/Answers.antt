use Rattle.std.proofs.Common.{◌∙◌, take, drop, ◌+◌, map, arith}
use Rattle.hap_outside.proofs.CallerLemmas.{gathers_next, gathers_break}
use Rattle.certificates.specs.Parts.{entry}
use Rattle.certificates.specs.Written.{words_text}
use Rattle.certificates.proofs.LineLemmas.{entries-more, entries-split}
use Rattle.certificates.proofs.put.put_entries.Goals as goal

pub returns-in_err-put_token-clause-bytes : goal.returns-in_err-put_token-clause-bytes
returns-in_err-put_token-clause-bytes g c =
    gathers_break _ _ _ _ _ _ (words_text (map entry (take c.loop-index.index c.args.entries.now))) (_) (words_text (map entry (drop (c.loop-index.index + 1) c.args.entries.now))) (words_text (map entry c.args.entries.now)) _ _ c.from_residual.result
    c.loop-index.invariant.bytes c.from_residual.ensures.0 c.in_err-put_token.ensures.bytes (entries-split c.args.entries.now c.loop-index.index c.from.result c.from-in-loop-index.result (omega (arith, c.len-index-end.ensures.len, c.loop-index-test.true)) ((λ k. (c.from.ensures k, c.from-in-loop-index.ensures k)) ∙ c.get-entry.ensures))

pub loop-index-preserved : goal.loop-index-preserved
loop-index-preserved g c = record {
  bytes = gathers_next _ _ _ _ _ _ _ _ _ _ _ (entries-more c.args.entries.now c.loop-index.index c.from.result c.from-in-loop-index.result (omega (arith, c.len-index-end.ensures.len, c.loop-index-test.true)) ((λ k. (c.from.ensures k, c.from-in-loop-index.ensures k)) ∙ c.get-entry.ensures)) c.loop-index.invariant.bytes c.in_ok-put_token.ensures.bytes;
  still = c.in_ok-put_token.ensures.cause.kept ∙ c.loop-index.invariant.still;
}
