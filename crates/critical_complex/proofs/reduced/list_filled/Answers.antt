use Rattle.critical_complex.proofs.Kept.{filled_more}
use Rattle.critical_complex.proofs.reduced.list_filled.Goals as goal

pub loop-dim-preserved : goal.loop-dim-preserved
loop-dim-preserved g c =
    filled_more g.F.Field.ops c.args.stages.now c.loop-dim.dim c.loop-dim.filled.items c.push.new.self.items c.in_ok-filled.field-0 c.loop-dim.invariant c.in_ok-filled.ensures c.in_ok-push.ensures.items
