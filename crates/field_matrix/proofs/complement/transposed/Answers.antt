use Rattle.std.proofs.Common.{◌≡◌, ℕ, ◌+◌, ◌++◌, List, length, length-append, append_assoc, ap, sym, ◌∙◌, arith}
use Rattle.linear_laws.specs.Vectors.{column, row_at}
use Rattle.linear_laws.proofs.CallerLemmas.{length-column}
use Rattle.field_matrix.specs.Rows.{cut}
use Rattle.field_matrix.proofs.Cut.{length-cut}
use Rattle.field_matrix.proofs.Turned.{column-append, row_more}
use Rattle.field_matrix.proofs.complement.transposed.Goals as goal

pub loop-col-preserved : goal.loop-col-preserved
loop-col-preserved c =
    let s : ℕ = c.args.first_shape.rows in
    let r : ℕ = c.args.shape.rows in
    let cols : ℕ = c.args.shape.cols in
    let j : ℕ = c.loop-col.col in
    let first : List (List ℕ) = cut s cols c.args.first.now in
    let others : List (List ℕ) = cut r cols c.args.others.now in
    let one : List ℕ = column j first in
    let two : List ℕ = column j others in
    let old : List ℕ = c.loop-col.columns.items in
    let is_one : c.push_column.new.columns.items ≡ old ++ one = c.in_ok-push_column.ensures ∙ ap (λ (n : ℕ). old ++ column j (cut s n c.args.first.now)) c.requires.cols in
    let is_two : c.push_column-in-loop-col.new.columns.items ≡ old ++ (one ++ two) = c.in_ok-push_column-2.ensures ∙ (ap (λ (w : List ℕ). w ++ two) is_one ∙ append_assoc old one two) in
    let long : length (one ++ two) ≡ s + r =
    let l1 : length one ≡ length first = length-column first j in
    let l2 : length two ≡ length others = length-column others j in
    length-append one two ∙ omega (arith, length-cut s cols c.args.first.now, length-cut r cols c.args.others.now) in
    let more = row_more j (s + r) old (one ++ two) (λ i. column i (first ++ others)) c.loop-col.invariant.long long (sym (column-append j first others)) c.loop-col.invariant.columns in
    record {
      long = ap length is_two ∙ more.0;
      columns = λ i li. ap (λ (w : List ℕ). row_at (cut (j + 1) (s + r) w) i) is_two ∙ more.1 i li;
    }
