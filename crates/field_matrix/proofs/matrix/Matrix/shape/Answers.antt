use Rattle.std.proofs.Common.{sym}
use Rattle.field_matrix.proofs.Views.{rows_are}
use Rattle.field_matrix.proofs.matrix.Matrix.shape.Goals as goal

pub returns-clause-rows : goal.returns-clause-rows
returns-clause-rows g c = sym (rows_are c.self.inside.rows c.self.inside.cols c.self.inside.entries.items c.args.self.now c.self.view_is)
