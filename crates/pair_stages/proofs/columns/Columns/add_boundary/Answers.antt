use Rattle.std.proofs.Common.{length}
use Rattle.pair_stages.proofs.Viewed.{place_in, column_for}
use Rattle.pair_stages.proofs.Flows.{added_is}
use Rattle.pair_stages.proofs.columns.Columns.add_boundary.Goals as goal

pub values-values-requires : goal.values-values-requires
values-values-requires g c = place_in g.F.Field.ops c.self.inside.below c.self.inside.parts.cells c.self.inside.parts.values c.args.self.now c.self.view_is c.self.invariant c.args.upper c.requires.upper

pub add_over-requires : goal.add_over-requires
add_over-requires g c =
    column_for g.F.Field.ops c.self.inside.below c.self.inside.parts.cells c.self.inside.parts.values c.args.self.now c.self.view_is c.self.invariant (length c.args.chain.now) c.args.upper c.cells-cells.result.now c.values-values.result.now c.requires.below c.requires.upper c.cells-cells.ensures c.values-values.ensures

pub returns : goal.returns
returns g c =
    added_is g.F.Field.ops g.met.F.Field.laws c.self.inside.below c.self.inside.parts.cells c.self.inside.parts.values c.args.self.now c.self.view_is c.self.invariant c.args.upper (g.F.Field.number_of c.args.factor) c.cells-cells.result.now c.values-values.result.now c.args.chain.now c.add_over.new.chain
    c.requires.below c.len-elements.ensures.elements c.requires.upper c.cells-cells.ensures c.values-values.ensures c.add_over.ensures
