use Rattle.std.proofs.Common.{ℕ, List, length, ap, ◌∙◌}
use Rattle.split_laws.proofs.CallerLemmas.{spread_long}
use Rattle.pair_stages.proofs.Filling.{extension_is}
use Rattle.pair_stages.proofs.stage.Stage.extension.Goals as goal

pub settle-requires-clause-below : goal.settle-requires-clause-below
settle-requires-clause-below g c = ap (λ (x : List ℕ). length x) c.in_ok-x.ensures ∙ spread_long c.args.self.now.kinds c.args.w.now

pub returns : goal.returns
returns g c =
    extension_is g.F.Field.ops g.met.F.Field.laws c.args.self.now c.args.next.now c.requires.paired c.args.w.now c.in_ok-x.x c.in_ok-zeros.zeros c.settle.new.x c.len.result c.requires.values c.len-elements.ensures.elements c.in_ok-x.ensures c.in_ok-zeros.ensures c.len.ensures.len c.settle.ensures
