use Rattle.std.proofs.Common.{◌≡◌, ℕ, ◌++◌, ◌∷◌, [], List, length, ap, sym, ◌∙◌, arith}
use Rattle.std.proofs.lemmas.List.{take_all}
use Rattle.linear_laws.specs.Vectors.{column}
use Rattle.linear_laws.proofs.CallerLemmas.{length-column, column_entry}
use Rattle.field_matrix.specs.Rows.{cut}
use Rattle.field_matrix.proofs.Cut.{length-cut}
use Rattle.field_matrix.proofs.Turned.{number_more}
use Rattle.field_matrix.proofs.complement.push_column.Goals as goal

pub loop-row-preserved : goal.loop-row-preserved
loop-row-preserved c =
    let rows : List (List ℕ) = cut c.args.shape.rows c.args.shape.cols c.args.entries.now in
    let col : List ℕ = column c.args.col rows in
    let lr : length rows ≡ c.args.shape.rows = length-cut c.args.shape.rows c.args.shape.cols c.args.entries.now in
    let lc : length col ≡ length rows = length-column rows c.args.col in
    let v : ℕ = c.entry_of.result in
    c.in_ok-push.ensures.items ∙ (ap (λ (w : List ℕ). w ++ v ∷ []) c.loop-row.invariant
    ∙ number_more c.args.columns.now.items col c.loop-row.row v (omega arith) (c.entry_of.ensures ∙ sym (column_entry rows c.args.col c.loop-row.row (omega arith))))

pub returns : goal.returns
returns c =
    let rows : List (List ℕ) = cut c.args.shape.rows c.args.shape.cols c.args.entries.now in
    let col : List ℕ = column c.args.col rows in
    let lr : length rows ≡ c.args.shape.rows = length-cut c.args.shape.rows c.args.shape.cols c.args.entries.now in
    let lc : length col ≡ length rows = length-column rows c.args.col in
    c.loop-row.invariant ∙ ap (λ (w : List ℕ). c.args.columns.now.items ++ w) (take_all c.loop-row.row col (omega arith))
