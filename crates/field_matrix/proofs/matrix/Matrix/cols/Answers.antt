use Rattle.field_matrix.proofs.Views.{seen_matrix}
use Rattle.field_matrix.proofs.matrix.Matrix.cols.Goals as goal

pub returns-clause-matrix : goal.returns-clause-matrix
returns-clause-matrix g c = seen_matrix c.self.inside.rows c.self.inside.cols c.self.inside.entries.items c.args.self.now c.self.view_is g.F.Field.ops c.self.invariant
