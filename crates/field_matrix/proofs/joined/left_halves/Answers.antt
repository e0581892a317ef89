use Rattle.std.proofs.Common.{◌≡◌, ℕ, ◌+◌, ◌++◌, List, [], length, take, ap, sym, ◌∙◌, arith}
use Rattle.std.proofs.lemmas.List.{take_all, length-map, length-take-le, get_or-map}
use Rattle.linear_laws.specs.Marks.{lefts}
use Rattle.linear_laws.specs.Vectors.{row_at}
use Rattle.field_matrix.specs.Rows.{cut}
use Rattle.field_matrix.proofs.Cut.{length-cut}
use Rattle.field_matrix.proofs.Built.{rows_more}
use Rattle.field_matrix.proofs.joined.left_halves.Goals as goal

pub loop-row-preserved : goal.loop-row-preserved
loop-row-preserved c =
    let n : ℕ = c.args.shape.rows in
    let cols : ℕ = c.args.shape.cols in
    let width : ℕ = c.args.width in
    let i : ℕ = c.loop-row.row in
    let rows : List (List ℕ) = cut n cols c.args.joined.now in
    let L : List (List ℕ) = lefts width rows in
    let many : length rows ≡ n = length-cut n cols c.args.joined.now in
    let lL : length L ≡ length rows = length-map rows (take width) in
    let old : List ℕ = c.loop-row.halves.items in
    let source : List ℕ = c.row_of.result.now in
    let ls : length source ≡ cols = c.row_of.ensures.long in
    let long : length (take width source) ≡ width = length-take-le width source (omega arith) in
    let is : take width source ≡ row_at L i = ap (take width) c.row_of.ensures.row ∙ sym (get_or-map (take width) rows i [] [] (omega arith)) in
    let more = rows_more i width old (take width source) L c.loop-row.invariant.long long (omega arith) is c.loop-row.invariant.rows in
    let new : c.extend_from_slice.new.self.items ≡ old ++ take width source = c.in_ok-extend_from_slice.ensures.items in
    record { long = ap length new ∙ more.0; rows = ap (cut (i + 1) width) new ∙ more.1 }

pub returns-clause-rows : goal.returns-clause-rows
returns-clause-rows c =
    let n : ℕ = c.args.shape.rows in
    let cols : ℕ = c.args.shape.cols in
    let width : ℕ = c.args.width in
    let rows : List (List ℕ) = cut n cols c.args.joined.now in
    let L : List (List ℕ) = lefts width rows in
    let lL : length L ≡ n = length-map rows (take width) ∙ length-cut n cols c.args.joined.now in
    let end : c.loop-row.row ≡ n = omega arith in
    ap (λ (i : ℕ). cut i width c.loop-row.halves.items) (sym end) ∙ (c.loop-row.invariant.rows ∙ take_all c.loop-row.row L (omega arith))
