use Rattle.std.proofs.Common.{◌∷◌, ◌∙◌, take, drop, ◌+◌, decimal}
use Rattle.hap_outside.proofs.CallerLemmas.{gathers_next, gathers_break}
use Rattle.certificates.specs.Written.{numbers_text}
use Rattle.certificates.proofs.ListLemmas.{part-more, part-split}
use Rattle.certificates.proofs.put.put_numbers.Goals as goal

pub returns-in_err-put_token-clause-bytes : goal.returns-in_err-put_token-clause-bytes
returns-in_err-put_token-clause-bytes g c =
    gathers_break _ _ _ _ _ _ (numbers_text (take c.loop-number.number-index c.args.numbers.now)) (32 ∷ decimal c.from.result) (numbers_text (drop (c.loop-number.number-index + 1) c.args.numbers.now)) (numbers_text c.args.numbers.now) _ _ c.from_residual.result
    c.loop-number.invariant.bytes c.from_residual.ensures.0 c.in_err-put_token.ensures.bytes (part-split (λ n. 32 ∷ decimal n) c.args.numbers.now c.loop-number.number-index c.from.result 0 c.loop-number-test.true c.from.ensures)

pub loop-number-preserved : goal.loop-number-preserved
loop-number-preserved g c = record {
  bytes = gathers_next _ _ _ _ _ _ _ _ _ _ _ (part-more (λ n. 32 ∷ decimal n) c.args.numbers.now c.loop-number.number-index c.from.result 0 c.loop-number-test.true c.from.ensures) c.loop-number.invariant.bytes c.in_ok-put_token.ensures.bytes;
  still = c.in_ok-put_token.ensures.cause.kept ∙ c.loop-number.invariant.still;
}
