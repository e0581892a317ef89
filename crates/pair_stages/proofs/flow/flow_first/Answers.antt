use Rattle.pair_stages.proofs.Flows.{first_flow, mapped}
use Rattle.pair_stages.proofs.flow.flow_first.Goals as goal

pub returns : goal.returns
returns g c = mapped c.spread.result _ _ (λ z e. first_flow g.F.Field.ops g.met.F.Field.laws c.args.stage.now.kinds c.args.c.now z c.requires c.len-elements.ensures.elements e) c.spread.ensures
