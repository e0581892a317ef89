use Rattle.std.proofs.Common.{sym}
use Rattle.field_matrix.proofs.Views.{seen_matrix, rows_are}
use Rattle.field_matrix.proofs.matrix.Matrix.rows.Goals as goal

pub returns-clause-rows : goal.returns-clause-rows
returns-clause-rows g c = sym (rows_are c.self.inside.rows c.self.inside.cols c.self.inside.entries.items c.args.self.now c.self.view_is)

pub returns-clause-matrix : goal.returns-clause-matrix
returns-clause-matrix g c = seen_matrix c.self.inside.rows c.self.inside.cols c.self.inside.entries.items c.args.self.now c.self.view_is g.F.Field.ops c.self.invariant
