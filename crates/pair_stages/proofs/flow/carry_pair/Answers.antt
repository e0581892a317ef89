use Rattle.std.proofs.Common.{◌≡◌, ◌+◌, ◌-◌, ◌∙◌, ℕ, length, replicate, ap, arith}
use Rattle.small_field.specs.Field.{Ops}
use Rattle.split_laws.specs.Pairs.{back_correction}
use Rattle.pair_stages.proofs.Flows.{factor_is, chain_is, boundary_is}
use Rattle.pair_stages.proofs.flow.carry_pair.Goals as goal

pub returns-clause-boundary : goal.returns-clause-boundary
returns-clause-boundary g c =
    let F : Ops = g.F.Field.ops in
    let factor : ℕ = g.F.Field.number_of c.mul-factor.result in
    let whole : ℕ = back_correction F c.args.columns.now.rows (replicate (length c.args.columns.now.rows) 0) c.args.pair c.args.z.now in
    let same : factor ≡ whole =
    factor_is F g.met.F.Field.laws c.args.columns.now.rows c.args.pair c.args.z.now c.args.boundary.now (c.args.pair.lower + 1 - 1) (g.F.Field.number_of c.neg-missing.result) (g.F.Field.number_of c.coefficient.result) (g.F.Field.number_of c.inv.result) factor c.requires.lower (omega arith) c.requires.boundary
    (c.neg-missing.ensures ∙ ap F.neg c.get.ensures) c.coefficient.ensures c.inv.ensures c.mul-factor.ensures in
    boundary_is F g.met.F.Field.laws c.args.columns.now.cols c.args.columns.now.rows c.args.z.now c.set.new.self c.args.boundary.now c.add_boundary.new.chain c.args.pair.upper factor whole c.requires.matrix c.requires.above c.requires.upper c.requires.boundary
    (chain_is F g.met.F.Field.laws c.args.z.now c.set.new.self c.args.pair (c.args.pair.upper + 1 - 1) (g.F.Field.number_of c.add-value.result) (g.F.Field.number_of c.get-2.result) factor whole (omega arith) c.get-2.ensures c.add-value.ensures same c.set.ensures) same c.add_boundary.ensures
