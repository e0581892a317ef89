use Rattle.std.proofs.Common.{◌*◌, ◌+◌, arith}
use Rattle.lane_rows.proofs.Steps.{more_steps, replaced_steps}
use Rattle.lane_rows.proofs.product.replace.Goals as goal

pub loop-chunk-preserved : goal.loop-chunk-preserved
loop-chunk-preserved c =
    let s = c.replace_from.ensures in
    more_steps _ c.args.target.now c.args.target.now c.loop-chunk.target c.replace_from.new.target (c.loop-chunk.chunk * 16) ((c.loop-chunk.chunk + 1) * 16) (omega arith) c.loop-chunk.invariant
    (record { long = s.long; here = s.here; before = s.before; after = s.after })

pub returns : goal.returns
returns c = replaced_steps c.args.table.now c.args.target.now c.loop-i.target c.loop-i.i (omega arith) (omega arith) c.loop-i.invariant
