use Rattle.std.proofs.Common.{◌≡◌, ℕ, List, ◌+◌, ◌-◌, sym, ap, ◌∙◌, take, drop, arith}
use Rattle.field_matrix.proofs.Splits.{row_is, split_at}
use Rattle.field_matrix.proofs.flat.row_of.Goals as goal

pub returns-clause-row : goal.returns-clause-row
returns-clause-row c =
    let xs : List ℕ = c.args.entries.now in
    let begin : ℕ = c.begin_of-begin.result in
    let cols : ℕ = c.args.shape.cols in
    let s = split_at c.args.shape.rows cols c.args.row xs c.requires.shape c.requires.row in
    let count : begin + cols - begin ≡ cols = omega arith in
    ap (λ (n : ℕ). take n (drop begin xs)) count
    ∙ (ap (λ (b : ℕ). take cols (drop b xs)) c.begin_of-begin.ensures.begin
    ∙ (sym s.mid_is ∙ sym (row_is c.args.shape.rows cols c.args.row xs s.front s.mid s.back s.split)))
