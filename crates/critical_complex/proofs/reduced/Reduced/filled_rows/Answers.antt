use Rattle.std.proofs.Common.{sym, ◌∙◌, subst}
use Rattle.critical_complex.specs.Levels.{AreFilledAt}
use Rattle.critical_complex.proofs.Kept.{cols_are, rows_are}
use Rattle.critical_complex.proofs.reduced.Reduced.filled_rows.Goals as goal

pub returns-clause-cols : goal.returns-clause-cols
returns-clause-cols g c =
    c.rows.ensures.cols
    ∙ cols_are g.F.Field.ops g.met.F.Field.laws c.self.inside.stages c.args.self.now c.self.view_is c.self.invariant.1 c.self.inside.filled.items c.self.invariant.2 c.args.dim c.requires c.index.result.now c.index.ensures

pub returns-clause-rows : goal.returns-clause-rows
returns-clause-rows g c =
    subst (AreFilledAt g.F.Field.ops c.args.self.now c.args.dim) (sym c.rows.ensures.rows)
    (rows_are g.F.Field.ops g.met.F.Field.laws c.self.inside.stages c.args.self.now c.self.view_is c.self.invariant.1 c.self.inside.filled.items c.self.invariant.2 c.args.dim c.requires c.index.result.now c.index.ensures)
