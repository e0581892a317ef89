use Rattle.std.proofs.Common.{ap, ◌∙◌, arith}
use Rattle.lane_rows.specs.Lanes.{replaced}
use Rattle.lane_rows.proofs.Steps.{replaced-multiples}
use Rattle.lane_rows.proofs.product.scale.Goals as goal

pub returns : goal.returns
returns c =
    c.replace.ensures
    ∙ (ap (λ t. replaced t c.args.target.now) c.multiples.ensures
    ∙ replaced-multiples c.args.p c.args.factor c.args.target.now (omega arith) c.requires.target)
