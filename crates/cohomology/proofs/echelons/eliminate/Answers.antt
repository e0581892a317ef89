use Rattle.cohomology.proofs.Bounds.{few_additions}
use Rattle.cohomology.proofs.echelons.eliminate.Goals as goal

pub returns-clause-steps : goal.returns-clause-steps
returns-clause-steps g c =
    few_additions g.F.Field.ops c.args.reduced.now c.args.dim c.filled_rows.result.now.rows c.filled_rows.result.now.cols c.args.steps.now c.eliminate.new.steps c.filled_rows.ensures.rows c.filled_rows.ensures.cols c.eliminate.ensures.steps
