use Rattle.std.proofs.Common.{sym, ◌∙◌}
use Rattle.pair_stages.proofs.Rows.{none_filled, none_but_zeros, all_filled}
use Rattle.pair_stages.proofs.coboundary.filled_rows.Goals as goal

pub returns-then-criticals-eq0 : goal.returns-then-criticals-eq0
returns-then-criticals-eq0 g c =
    none_but_zeros g.F.Field.ops g.met.F.Field.laws c.args.stage.now c.args.next.now c.requires.paired c.in_ok-filled.filled c.in_ok-filled.ensures.places (c.in_ok-filled.ensures.cols ∙ c.criticals.ensures) c.in_ok-filled.ensures.rows
    (sym c.criticals-2.ensures ∙ c.if-criticals-eq0.true)

pub fill-requires-clause-none : goal.fill-requires-clause-none
fill-requires-clause-none g c =
    none_filled g.F.Field.ops g.met.F.Field.laws c.args.stage.now c.args.next.now c.in_ok-filled.filled c.in_ok-filled.ensures.places (c.in_ok-filled.ensures.cols ∙ c.criticals.ensures) c.in_ok-filled.ensures.rows

pub returns : goal.returns
returns g c = all_filled g.F.Field.ops g.met.F.Field.laws c.args.stage.now c.args.next.now c.requires.paired c.fill.new.filled c.in_ok-fill.ensures
