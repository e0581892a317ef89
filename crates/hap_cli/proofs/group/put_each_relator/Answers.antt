use Rattle.std.proofs.Common.{◌∙◌, [], ◌+◌, take, drop, arith}
use Rattle.std.specs.List.{flat_map}
use Rattle.hap_outside.proofs.CallerLemmas.{gathers_next, gathers_break}
use Rattle.hap_cli.specs.GroupTexts.{relator_line}
use Rattle.hap_cli.proofs.Texts.{flat-more, flat-split}
use Rattle.hap_cli.proofs.group.put_each_relator.Goals as goal

pub returns-in_err-put_relator-clause-bytes : goal.returns-in_err-put_relator-clause-bytes
returns-in_err-put_relator-clause-bytes g c =
    gathers_break _ _ _ _ _ _ (flat_map relator_line (take c.loop-index.index c.args.group.now.relators)) (relator_line c.relator.result.now) (flat_map relator_line (drop (c.loop-index.index + 1) c.args.group.now.relators)) (flat_map relator_line c.args.group.now.relators) _ _ c.from_residual.result
    c.loop-index.invariant.bytes c.from_residual.ensures.0 c.in_err-put_relator.ensures.bytes (flat-split relator_line c.args.group.now.relators c.loop-index.index c.relator.result.now [] (omega (arith, c.relators-index-end.ensures, c.loop-index-test.true)) c.relator.ensures)

pub loop-index-preserved : goal.loop-index-preserved
loop-index-preserved g c = record {
  bytes = gathers_next _ _ _ _ _ _ _ _ _ _ _ (flat-more relator_line c.args.group.now.relators c.loop-index.index c.relator.result.now [] (omega (arith, c.relators-index-end.ensures, c.loop-index-test.true)) c.relator.ensures) c.loop-index.invariant.bytes c.in_ok-put_relator.ensures.bytes;
  still = c.in_ok-put_relator.ensures.cause.kept ∙ c.loop-index.invariant.still;
}
