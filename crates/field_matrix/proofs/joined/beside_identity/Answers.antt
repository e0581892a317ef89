use Rattle.std.proofs.Common.{◌≡◌, ℕ, ◌+◌, ◌++◌, List, length, length-append, ap, sym, ◌∙◌, arith}
use Rattle.std.proofs.lemmas.List.{take_all}
use Rattle.linear_laws.specs.Marks.{mark, identity, beside}
use Rattle.linear_laws.specs.Vectors.{row_at}
use Rattle.linear_laws.proofs.CallerLemmas.{length-mark}
use Rattle.field_matrix.specs.Rows.{cut}
use Rattle.field_matrix.proofs.Cut.{length-cut}
use Rattle.field_matrix.proofs.Built.{rows_more, joined_row, length-joined}
use Rattle.field_matrix.proofs.joined.beside_identity.Goals as goal

pub loop-row-preserved : goal.loop-row-preserved
loop-row-preserved c =
    let n : ℕ = c.args.shape.rows in
    let cols : ℕ = c.args.shape.cols in
    let i : ℕ = c.loop-row.row in
    let rows : List (List ℕ) = cut n cols c.args.entries.now in
    let old : List ℕ = c.loop-row.joined.items in
    let row : List ℕ = c.row_of.result.now ++ mark n i in
    let many : length rows ≡ n = length-cut n cols c.args.entries.now in
    let long : length row ≡ cols + n = length-append c.row_of.result.now (mark n i) ∙ (let l : length c.row_of.result.now ≡ cols = c.row_of.ensures.long in omega (arith, length-mark n i)) in
    let is : row ≡ row_at (beside rows (identity n)) i = ap (λ (w : List ℕ). w ++ mark n i) c.row_of.ensures.row ∙ sym (joined_row n cols i rows many c.loop-row-test.true) in
    let more = rows_more i (cols + n) old row (beside rows (identity n)) c.loop-row.invariant.long long (omega (arith, length-joined n rows many)) is c.loop-row.invariant.rows in
    let new : c.push_beside.new.joined.items ≡ old ++ row = c.in_ok-push_beside.ensures in
    record { long = ap length new ∙ more.0; rows = ap (cut (i + 1) (cols + n)) new ∙ more.1 }

pub returns-clause-rows : goal.returns-clause-rows
returns-clause-rows c =
    let n : ℕ = c.args.shape.rows in
    let cols : ℕ = c.args.shape.cols in
    let rows : List (List ℕ) = cut n cols c.args.entries.now in
    let end : c.loop-row.row ≡ n = omega arith in
    let long : length (beside rows (identity n)) ≡ n = length-joined n rows (length-cut n cols c.args.entries.now) in
    ap (λ (i : ℕ). cut i (cols + n) c.loop-row.joined.items) (sym end) ∙ (c.loop-row.invariant.rows ∙ take_all c.loop-row.row (beside rows (identity n)) (omega arith))
