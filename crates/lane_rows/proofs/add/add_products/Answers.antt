use Rattle.std.proofs.Common.{◌*◌, ◌+◌, arith}
use Rattle.lane_rows.proofs.Steps.{more_steps, all_steps}
use Rattle.lane_rows.proofs.add.add_products.Goals as goal

pub loop-chunk-preserved : goal.loop-chunk-preserved
loop-chunk-preserved g c =
    more_steps _ c.args.target.now c.args.source.now c.loop-chunk.target c.step.new.target (c.loop-chunk.chunk * 16) ((c.loop-chunk.chunk + 1) * 16) (omega arith) c.loop-chunk.invariant c.step.ensures

pub returns : goal.returns
returns g c = all_steps _ c.args.target.now c.args.source.now c.loop-i.target c.loop-i.i (omega arith) c.requires.lengths (omega arith) c.loop-i.invariant
