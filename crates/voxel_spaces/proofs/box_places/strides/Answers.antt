use Rattle.std.proofs.Common.{◌<◌, ◌∙◌, length, arith}
use Rattle.std.proofs.lemmas.List.{take_all}
use Rattle.voxel_spaces.specs.BoxTuples.{strides_of}
use Rattle.voxel_spaces.proofs.BoxLevels.{length-strides, strides-more}
use Rattle.voxel_spaces.proofs.box_places.strides.Goals as goal

pub loop-level-preserved : goal.loop-level-preserved
loop-level-preserved c =
    let lt : c.loop-level.level < length c.args.limits.now = c.loop-level-test.true in
    c.in_ok-push.ensures.items ∙ strides-more c.args.limits.now c.loop-level.strides.items c.loop-level.level c.volume_from.result lt c.loop-level.invariant c.volume_from.ensures

pub returns : goal.returns
returns c =
    c.loop-level.invariant ∙ take_all c.loop-level.level (strides_of c.args.limits.now) (omega (arith, length-strides c.args.limits.now, c.loop-level-test.false))
