use Rattle.pair_stages.proofs.Matching.{stages_more}
use Rattle.pair_stages.proofs.stages.list_stages.Goals as goal

pub loop-dim-preserved : goal.loop-dim-preserved
loop-dim-preserved g c =
    let h = stages_more g.F.Field.ops (g.G.Graded.space c.args.graded.now) (g.G.Signed.negative c.args.graded.now) c.args.field.now.pairs c.loop-dim.stages.items c.push.new.self.items c.in_ok-of_signed.field-0 c.loop-dim.dim
    c.loop-dim.invariant.long c.loop-dim.invariant.each c.in_ok-of_signed.ensures c.in_ok-push.ensures.items in
    record { long = h.0; each = h.1 }
