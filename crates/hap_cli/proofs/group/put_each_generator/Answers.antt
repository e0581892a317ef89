use Rattle.std.proofs.Common.{◌∙◌, ◌+◌, take, drop, get_or, refl}
use Rattle.hap_outside.proofs.CallerLemmas.{gathers_next, gathers_break}
use Rattle.hap_cli.specs.GroupTexts.{generator_line, numbered_text}
use Rattle.hap_cli.proofs.Texts.{numbered-more, numbered-split}
use Rattle.hap_cli.proofs.group.put_each_generator.Goals as goal

pub returns-in_err-put_generator-clause-bytes : goal.returns-in_err-put_generator-clause-bytes
returns-in_err-put_generator-clause-bytes g c =
    gathers_break _ _ _ _ _ _ (numbered_text generator_line 1 (take c.loop-index.index c.args.edges.now)) (generator_line (c.loop-index.index + 1) (get_or c.args.edges.now c.loop-index.index 0)) (numbered_text generator_line (c.loop-index.index + 1 + 1) (drop (c.loop-index.index + 1) c.args.edges.now)) (numbered_text generator_line 1 c.args.edges.now) _ _ c.from_residual.result
    c.loop-index.invariant.bytes c.from_residual.ensures.0 c.in_err-put_generator.ensures.bytes (numbered-split generator_line c.args.edges.now c.loop-index.index (get_or c.args.edges.now c.loop-index.index 0) 0 (c.loop-index-test.true) refl)

pub loop-index-preserved : goal.loop-index-preserved
loop-index-preserved g c = record {
  bytes = gathers_next _ _ _ _ _ _ _ _ _ _ _ (numbered-more generator_line c.args.edges.now c.loop-index.index (get_or c.args.edges.now c.loop-index.index 0) 0 (c.loop-index-test.true) refl) c.loop-index.invariant.bytes c.in_ok-put_generator.ensures.bytes;
  still = c.in_ok-put_generator.ensures.cause.kept ∙ c.loop-index.invariant.still;
}
