use Rattle.pair_stages.proofs.Viewed.{place_in, lengths_of, small_of, coefficient_is}
use Rattle.pair_stages.proofs.columns.Columns.coefficient.Goals as goal

pub values-values-requires : goal.values-values-requires
values-values-requires g c = place_in g.F.Field.ops c.self.inside.below c.self.inside.parts.cells c.self.inside.parts.values c.args.self.now c.self.view_is c.self.invariant c.args.upper c.requires.upper

pub coefficient_in-requires : goal.coefficient_in-requires
coefficient_in-requires g c =
    lengths_of g.F.Field.ops c.self.inside.below c.self.inside.parts.cells c.self.inside.parts.values c.args.self.now c.self.view_is c.self.invariant c.args.upper c.cells-cells.result.now c.values-values.result.now c.requires.upper c.cells-cells.ensures c.values-values.ensures

pub from_number-requires : goal.from_number-requires
from_number-requires g c =
    small_of g.F.Field.ops c.self.inside.below c.self.inside.parts.cells c.self.inside.parts.values c.args.self.now c.self.view_is c.self.invariant g.met.F.Field.laws g.F.Field.SIZE c.args.lower c.args.upper c.coefficient_in.result c.cells-cells.result.now c.values-values.result.now
    g.met.F.Field.size_is c.requires.upper c.cells-cells.ensures c.values-values.ensures c.coefficient_in.ensures

pub returns : goal.returns
returns g c =
    coefficient_is g.F.Field.ops c.self.inside.below c.self.inside.parts.cells c.self.inside.parts.values c.args.self.now c.self.view_is c.self.invariant c.args.lower c.args.upper c.coefficient_in.result (g.F.Field.number_of c.from_number.result) c.cells-cells.result.now c.values-values.result.now
    c.requires.lower c.requires.upper c.cells-cells.ensures c.values-values.ensures c.from_number.ensures c.coefficient_in.ensures
