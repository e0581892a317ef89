use Rattle.std.proofs.Common.{ℕ, List, length, ap, ◌∙◌}
use Rattle.split_laws.proofs.CallerLemmas.{spread_long}
use Rattle.pair_stages.proofs.Flows.{flow_is}
use Rattle.pair_stages.proofs.flow.flow.Goals as goal

pub carry-requires-clause-above : goal.carry-requires-clause-above
carry-requires-clause-above g c = ap (λ (x : List ℕ). length x) c.in_ok-z.ensures ∙ spread_long c.args.next.now.kinds c.args.c.now

pub returns : goal.returns
returns g c =
    flow_is g.F.Field.ops g.met.F.Field.laws c.args.stage.now c.args.next.now c.requires.paired c.args.c.now c.in_ok-z.z c.carry.new.z c.requires.values c.len-elements.ensures.elements c.in_ok-z.ensures c.carry.ensures
