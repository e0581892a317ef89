use Rattle.std.proofs.Common.{sym, ◌∙◌}
use Rattle.lane_rows.proofs.VectorLemmas.{mask-others, none_in, some_in}
use Rattle.lane_rows.proofs.vectors.first_in.Goals as goal

pub returns-then-mask-eq0 : goal.returns-then-mask-eq0
returns-then-mask-eq0 c = none_in c.args.row.now c.args.at c.requires (sym (mask-others c.args.row.now c.args.at c.requires) ∙ c.if-mask-eq0.true)

pub returns-else-mask-eq0 : goal.returns-else-mask-eq0
returns-else-mask-eq0 c = some_in c.args.row.now c.args.at _ c.requires (mask-others c.args.row.now c.args.at c.requires) c.if-mask-eq0.false
