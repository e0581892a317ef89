use Rattle.std.proofs.Common.{ap, ◌∙◌, ◌+◌, get_or}
use Rattle.field_matrix.proofs.Splits.{entry_is, split_at}
use Rattle.field_matrix.proofs.flat.entry_of.Goals as goal

pub returns : goal.returns
returns c =
    let s = split_at c.args.shape.rows c.args.shape.cols c.args.row c.args.entries.now c.requires.shape c.requires.row in
    ap (λ b. get_or c.args.entries.now (b + c.args.col) 0) c.begin_of.ensures.begin
    ∙ entry_is c.args.shape.rows c.args.shape.cols c.args.row c.args.entries.now s.front s.mid s.back s.split c.args.col c.requires.col
