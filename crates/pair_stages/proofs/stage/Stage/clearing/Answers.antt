use Rattle.pair_stages.proofs.Filling.{module_settled, clearing_is}
use Rattle.pair_stages.proofs.stage.Stage.clearing.Goals as goal

pub rest-requires-clause-below : goal.rest-requires-clause-below
rest-requires-clause-below g c =
    module_settled g.F.Field.ops g.met.F.Field.laws c.args.self.now c.args.next.now c.requires.paired c.args.x.now c.in_ok-y.y c.settle.new.x c.len.result c.in_ok-y.ensures c.len.ensures.len c.settle.ensures

pub returns : goal.returns
returns g c =
    clearing_is g.F.Field.ops g.met.F.Field.laws c.args.self.now c.args.next.now c.requires.paired c.args.x.now c.in_ok-y.y c.settle.new.x c.in_ok-w.w c.len.result c.requires.cochain c.len-elements.ensures.elements c.in_ok-y.ensures c.len.ensures.len c.settle.ensures c.in_ok-w.ensures
