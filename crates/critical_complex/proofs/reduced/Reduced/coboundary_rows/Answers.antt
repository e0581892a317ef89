use Rattle.std.proofs.Common.{◌∙◌}
use Rattle.critical_complex.proofs.Kept.{cols_are, many, within, whole_is}
use Rattle.critical_complex.proofs.reduced.Reduced.coboundary_rows.Goals as goal

pub whole-requires : goal.whole-requires
whole-requires g c = record {
  each = many g.F.Field.ops g.met.F.Field.laws c.self.inside.stages c.args.self.now c.self.view_is c.self.invariant.1 c.self.inside.filled.items c.self.invariant.2 c.args.dim c.requires c.index.result.now c.index.ensures;
  within = within g.F.Field.ops g.met.F.Field.laws c.self.inside.stages c.args.self.now c.self.view_is c.self.invariant.1 c.self.inside.filled.items c.self.invariant.2 c.args.dim c.requires c.index.result.now c.index.ensures c.criticals-count.result c.criticals-count.ensures;
}

pub returns-clause-cols : goal.returns-clause-cols
returns-clause-cols g c =
    c.in_ok-whole.ensures.cols
    ∙ cols_are g.F.Field.ops g.met.F.Field.laws c.self.inside.stages c.args.self.now c.self.view_is c.self.invariant.1 c.self.inside.filled.items c.self.invariant.2 c.args.dim c.requires c.index.result.now c.index.ensures

pub returns-clause-rows : goal.returns-clause-rows
returns-clause-rows g c =
    whole_is g.F.Field.ops g.met.F.Field.laws c.self.inside.stages c.args.self.now c.self.view_is c.self.invariant.1 c.self.inside.filled.items c.self.invariant.2 c.args.dim c.requires c.index.result.now c.index.ensures
    c.criticals-count.result c.criticals-count.ensures c.in_ok-whole.whole.rows c.in_ok-whole.ensures.rows
