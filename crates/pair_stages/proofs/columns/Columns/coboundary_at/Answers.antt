use Rattle.std.proofs.Common.{length}
use Rattle.pair_stages.proofs.Viewed.{place_in, column_for, sum_is}
use Rattle.pair_stages.proofs.columns.Columns.coboundary_at.Goals as goal

pub values-values-requires : goal.values-values-requires
values-values-requires g c = place_in g.F.Field.ops c.self.inside.below c.self.inside.parts.cells c.self.inside.parts.values c.args.self.now c.self.view_is c.self.invariant c.args.upper c.requires.upper

pub sum_over-requires : goal.sum_over-requires
sum_over-requires g c =
    column_for g.F.Field.ops c.self.inside.below c.self.inside.parts.cells c.self.inside.parts.values c.args.self.now c.self.view_is c.self.invariant (length c.args.y.now) c.args.upper c.cells-cells.result.now c.values-values.result.now c.requires.cochain c.requires.upper c.cells-cells.ensures c.values-values.ensures

pub returns : goal.returns
returns g c =
    sum_is g.F.Field.ops c.self.inside.below c.self.inside.parts.cells c.self.inside.parts.values c.args.self.now c.self.view_is c.self.invariant g.met.F.Field.laws c.args.upper (g.F.Field.number_of c.sum_over.result) c.cells-cells.result.now c.values-values.result.now c.args.y.now c.requires.cochain c.requires.upper c.cells-cells.ensures c.values-values.ensures c.sum_over.ensures
