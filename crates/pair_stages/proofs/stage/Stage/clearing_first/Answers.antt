use Rattle.pair_stages.proofs.Filling.{first_cleared}
use Rattle.pair_stages.proofs.stage.Stage.clearing_first.Goals as goal

pub returns : goal.returns
returns g c =
    first_cleared g.F.Field.ops g.met.F.Field.laws c.args.self.now.kinds c.args.x.now c.in_ok-y.y c.in_ok-w.w c.requires.first c.requires.cochain c.len-elements.ensures.elements c.in_ok-y.ensures c.in_ok-w.ensures
