use Rattle.std.proofs.Common.{◌≡◌, ℕ, ◌+◌, ◌-◌, ◌*◌, ◌++◌, List, length, length-drop, take, drop, ap, sym, ◌∙◌, arith}
use Rattle.std.proofs.lemmas.List.{take_all, take_rest, length-map}
use Rattle.linear_laws.specs.Marks.{rights}
use Rattle.linear_laws.specs.Vectors.{row_at}
use Rattle.field_matrix.specs.Rows.{cut}
use Rattle.field_matrix.proofs.Cut.{length-cut}
use Rattle.field_matrix.proofs.Built.{rows_more, half_row}
use Rattle.field_matrix.proofs.joined.right_halves.Goals as goal

pub loop-row-preserved : goal.loop-row-preserved
loop-row-preserved c =
    let n : ℕ = c.args.shape.rows in
    let cols : ℕ = c.args.shape.cols in
    let width : ℕ = c.args.width in
    let from : ℕ = c.args.from in
    let i : ℕ = c.loop-row.row in
    let rows : List (List ℕ) = cut n cols c.args.joined.now in
    let R : List (List ℕ) = drop from (rights width rows) in
    let many : length rows ≡ n = length-cut n cols c.args.joined.now in
    let lR : length R ≡ n - from = length-drop from (rights width rows) ∙ ap (λ (j : ℕ). j - from) (length-map rows (drop width) ∙ many) in
    let old : List ℕ = c.loop-row.halves.items in
    let source : List ℕ = c.row_of.result.now in
    let row : List ℕ = take (length source - width) (drop width source) in
    let is_row : row ≡ drop width source = take_rest source width in
    let ls : length source ≡ cols = c.row_of.ensures.long in
    let long : length row ≡ cols - width = ap length is_row ∙ (length-drop width source ∙ ap (λ (j : ℕ). j - width) ls) in
    let is : row ≡ row_at R (i - from) = is_row ∙ (ap (drop width) c.row_of.ensures.row ∙ sym (half_row width from (i - from) i rows (omega arith) (omega arith))) in
    let more = rows_more (i - from) (cols - width) old row R c.loop-row.invariant.long long (omega arith) is c.loop-row.invariant.rows in
    let new : c.extend_from_slice.new.self.items ≡ old ++ row = c.in_ok-extend_from_slice.ensures.items in
    let count : i + 1 - from ≡ i - from + 1 = omega arith in
    record {
      below = omega arith;
      long = ap length new ∙ (more.0 ∙ ap (λ (j : ℕ). j * (cols - width)) (sym count));
      rows = ap (cut (i + 1 - from) (cols - width)) new ∙ (ap (λ (j : ℕ). cut j (cols - width) (old ++ row)) count ∙ (more.1 ∙ ap (λ (j : ℕ). take j R) (sym count)));
    }

pub returns-clause-rows : goal.returns-clause-rows
returns-clause-rows c =
    let n : ℕ = c.args.shape.rows in
    let cols : ℕ = c.args.shape.cols in
    let width : ℕ = c.args.width in
    let from : ℕ = c.args.from in
    let rows : List (List ℕ) = cut n cols c.args.joined.now in
    let R : List (List ℕ) = drop from (rights width rows) in
    let lR : length R ≡ n - from = length-drop from (rights width rows) ∙ ap (λ (j : ℕ). j - from) (length-map rows (drop width) ∙ length-cut n cols c.args.joined.now) in
    let end : c.loop-row.row ≡ n = omega arith in
    ap (λ (i : ℕ). cut (i - from) (cols - width) c.loop-row.halves.items) (sym end) ∙ (c.loop-row.invariant.rows ∙ take_all (c.loop-row.row - from) R (omega arith))
