use Rattle.std.proofs.Common.{◌∙◌, ◌+◌, take, drop}
use Rattle.hap_outside.proofs.CallerLemmas.{gathers_next, gathers_break}
use Rattle.hap_cli.specs.GroupTexts.{component_lines, numbered_text}
use Rattle.hap_cli.proofs.Texts.{numbered-more, numbered-split}
use Rattle.hap_cli.proofs.group.put_components.Goals as goal

pub returns-in_err-put_component-clause-bytes : goal.returns-in_err-put_component-clause-bytes
returns-in_err-put_component-clause-bytes g c =
    gathers_break _ _ _ _ _ _ (numbered_text component_lines 1 (take c.loop-index.index c.args.groups.now)) (component_lines (c.loop-index.index + 1) c.index-groups-index.result) (numbered_text component_lines (c.loop-index.index + 1 + 1) (drop (c.loop-index.index + 1) c.args.groups.now)) (numbered_text component_lines 1 c.args.groups.now) _ _ c.from_residual.result
    c.loop-index.invariant.bytes c.from_residual.ensures.0 c.in_err-put_component.ensures.bytes (numbered-split component_lines c.args.groups.now c.loop-index.index c.index-groups-index.result c.index-groups-index.result (c.loop-index-test.true) c.index-groups-index.is)

pub loop-index-preserved : goal.loop-index-preserved
loop-index-preserved g c = record {
  bytes = gathers_next _ _ _ _ _ _ _ _ _ _ _ (numbered-more component_lines c.args.groups.now c.loop-index.index c.index-groups-index.result c.index-groups-index.result (c.loop-index-test.true) c.index-groups-index.is) c.loop-index.invariant.bytes c.in_ok-put_component.ensures.bytes;
  still = c.in_ok-put_component.ensures.cause.kept ∙ c.loop-index.invariant.still;
}
