use Rattle.std.proofs.Common.{◌≡◌, ◌≢◌, ℕ, ◌<◌, List, length, sym, ap, ◌∙◌, arith, subst}
use Rattle.linear_laws.specs.Vectors.{entry}
use Rattle.field_matrix.specs.Rows.{cut}
use Rattle.field_matrix.specs.Steps.{IsBroughtUp}
use Rattle.field_matrix.proofs.Cut.{length-cut}
use Rattle.field_matrix.proofs.BringUp.{brought_by_scaling, brought_by_addition}
use Rattle.field_matrix.proofs.reduce.bring_up.Goals as goal

pub returns-then-rank-here-clause-up : goal.returns-then-rank-here-clause-up
returns-then-rank-here-clause-up g c =
    let k = g.F.Field.ops in
    let f = g.met.F.Field.laws in
    let cols : ℕ = c.args.shape.cols in
    let rank : ℕ = c.args.rank in
    let before : List (List ℕ) = cut c.args.shape.rows cols c.args.entries.now in
    let long : length before ≡ c.args.shape.rows = length-cut c.args.shape.rows cols c.args.entries.now in
    let factor : ℕ = g.F.Field.number_of c.inv-inverse.result in
    let same : c.args.here ≡ rank = sym c.if-rank-here.true in
    let is : factor ≡ k.inv (entry before rank c.args.col) =
    c.inv-inverse.ensures ∙ ap k.inv (c.from_number.ensures ∙ (c.entry_of.ensures ∙ ap (λ (i : ℕ). entry before i c.args.col) same)) in
    subst (IsBroughtUp k cols rank c.args.col before) (sym c.scale_row.ensures)
    (brought_by_scaling k f cols rank c.args.col factor before c.requires.matrix c.requires.col (omega arith) c.requires.zero (subst (λ (i : ℕ). entry before i c.args.col ≢ 0) same c.requires.nonzero) is)

pub returns-else-rank-here-clause-up : goal.returns-else-rank-here-clause-up
returns-else-rank-here-clause-up g c =
    let k = g.F.Field.ops in
    let f = g.met.F.Field.laws in
    let cols : ℕ = c.args.shape.cols in
    let rank : ℕ = c.args.rank in
    let here : ℕ = c.args.here in
    let before : List (List ℕ) = cut c.args.shape.rows cols c.args.entries.now in
    let long : length before ≡ c.args.shape.rows = length-cut c.args.shape.rows cols c.args.entries.now in
    let factor : ℕ = g.F.Field.number_of c.inv-inverse.result in
    let ne : rank ≢ here = c.if-rank-here.false in
    let order : rank < here = omega arith in
    let is : factor ≡ k.inv (entry before here c.args.col) = c.inv-inverse.ensures ∙ ap k.inv (c.from_number.ensures ∙ c.entry_of.ensures) in
    subst (IsBroughtUp k cols rank c.args.col before) (sym c.add_row.ensures.rows)
    (brought_by_addition k f cols rank here c.args.col factor before c.requires.matrix c.requires.col order (omega arith) c.requires.zero (c.requires.first rank (omega arith) order) c.requires.nonzero is)
