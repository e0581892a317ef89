use Rattle.std.proofs.Common.{◌∙◌}
use Rattle.hap_outside.proofs.CallerLemmas.{gathers_next, gathers_break}
use Rattle.std.specs.List.{flat_map}
use Rattle.certificates.specs.Written.{block_text, blocks_text}
use Rattle.certificates.proofs.ListLemmas.{after, range-more, range-split}
use Rattle.certificates.proofs.front.put_blocks.Goals as goal

pub returns-in_err-put_block-clause-bytes : goal.returns-in_err-put_block-clause-bytes
returns-in_err-put_block-clause-bytes g c =
    gathers_break _ _ _ _ _ _ (blocks_text c.args.head c.args.each c.args.lines.now c.loop-degree.degree) (block_text c.args.head c.args.each c.args.lines.now c.loop-degree.degree) (flat_map (block_text c.args.head c.args.each c.args.lines.now) (after c.loop-degree.degree c.args.degrees)) (blocks_text c.args.head c.args.each c.args.lines.now c.args.degrees) _ _ c.from_residual.result
    c.loop-degree.invariant.bytes c.from_residual.ensures.0 c.in_err-put_block.ensures.bytes (range-split (block_text c.args.head c.args.each c.args.lines.now) c.loop-degree.degree c.args.degrees c.loop-degree-test.true)

pub loop-degree-preserved : goal.loop-degree-preserved
loop-degree-preserved g c = record {
  bytes = gathers_next _ _ _ _ _ _ _ _ _ _ _ (range-more (block_text c.args.head c.args.each c.args.lines.now) c.loop-degree.degree) c.loop-degree.invariant.bytes c.in_ok-put_block.ensures.bytes;
  still = c.in_ok-put_block.ensures.cause.kept ∙ c.loop-degree.invariant.still;
}
