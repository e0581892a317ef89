use Rattle.std.proofs.Common.{◌≡◌, refl, ap, ◌∙◌, ◌*◌, replicate, rules}
use Rattle.field_matrix.specs.Rows.{cut}
use Rattle.field_matrix.proofs.Views.{cut-zeros}
use Rattle.field_matrix.proofs.matrix.Matrix.new.Goals as goal

pub returns : goal.returns
returns g c =
    let zeros : c.in_ok-vec.field-0.items ≡ replicate (c.args.rows * c.args.cols) 0 = search rules in
    (refl, ap (cut c.args.rows c.args.cols) zeros ∙ cut-zeros c.args.rows c.args.cols (c.args.rows * c.args.cols) refl)
