use Rattle.std.proofs.Common.{◌++◌, ◌∙◌, ◌+◌, take, drop, get_or, codes, refl, pos}
use Rattle.std.specs.Fmt.{signed_decimal}
use Rattle.hap_outside.proofs.CallerLemmas.{gathers_next, gathers_break}
use Rattle.hap_cli.specs.GroupTexts.{later_letters}
use Rattle.hap_cli.proofs.Texts.{flat-more, flat-split}
use Rattle.hap_cli.proofs.group.put_later.Goals as goal

pub returns-in_err-put_later_letter-clause-bytes : goal.returns-in_err-put_later_letter-clause-bytes
returns-in_err-put_later_letter-clause-bytes g c =
    gathers_break _ _ _ _ _ _ (later_letters (take c.loop-index.index c.args.letters.now)) (codes " " ++ signed_decimal (get_or c.args.letters.now c.loop-index.index (pos 0))) (later_letters (drop (c.loop-index.index + 1) c.args.letters.now)) (later_letters c.args.letters.now) _ _ c.from_residual.result
    c.loop-index.invariant.bytes c.from_residual.ensures.0 c.in_err-put_later_letter.ensures.bytes (flat-split (λ a. codes " " ++ signed_decimal a) c.args.letters.now c.loop-index.index (get_or c.args.letters.now c.loop-index.index (pos 0)) (pos 0) c.loop-index-test.true refl)

pub loop-index-preserved : goal.loop-index-preserved
loop-index-preserved g c = record {
  bytes = gathers_next _ _ _ _ _ _ _ _ _ _ _ (flat-more (λ a. codes " " ++ signed_decimal a) c.args.letters.now c.loop-index.index (get_or c.args.letters.now c.loop-index.index (pos 0)) (pos 0) c.loop-index-test.true refl) c.loop-index.invariant.bytes c.in_ok-put_later_letter.ensures.bytes;
  still = c.in_ok-put_later_letter.ensures.cause.kept ∙ c.loop-index.invariant.still;
}
