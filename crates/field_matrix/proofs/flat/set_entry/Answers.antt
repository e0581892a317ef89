use Rattle.std.proofs.Common.{ℕ, List, ◌+◌, ap, ◌∙◌, set}
use Rattle.field_matrix.specs.Rows.{cut}
use Rattle.field_matrix.proofs.Splits.{entry_put, split_at}
use Rattle.field_matrix.proofs.flat.set_entry.Goals as goal

pub returns : goal.returns
returns c =
    let xs : List ℕ = c.args.entries.now in
    let s = split_at c.args.shape.rows c.args.shape.cols c.args.row xs c.requires.shape c.requires.row in
    ap (λ (b : ℕ). cut c.args.shape.rows c.args.shape.cols (set xs (b + c.args.col) c.args.value)) c.begin_of-begin.ensures.begin
    ∙ entry_put c.args.shape.rows c.args.shape.cols c.args.row xs s.front s.mid s.back s.split c.args.col c.args.value c.requires.col
