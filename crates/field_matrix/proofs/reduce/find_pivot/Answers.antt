use Rattle.std.proofs.Common.{◌≡◌, ℕ, ◌+◌, ◌<◌, ◌≤◌, List, get_or, sym, ap, ◌∙◌, subst, arith}
use Rattle.linear_laws.specs.Vectors.{entry}
use Rattle.field_matrix.specs.Rows.{cut}
use Rattle.field_matrix.proofs.Cut.{length-cut}
use Rattle.field_matrix.proofs.Pivots.{IsBest, best_none, best_kept, best_new, best_is, best_was_none}
use Rattle.field_matrix.proofs.reduce.find_pivot.Goals as goal
use Rattle.field_matrix.proofs.reduce.find_pivot.Goals.{then-col-best, else-col-best}

pub loop-row-init : goal.loop-row-init
loop-row-init c = best_none (cut c.args.shape.rows c.args.shape.cols c.args.entries.now) c.args.rank c.args.begin c.args.upto c.requires.begin

pub first_nonzero_from-col-requires-clause-begin : goal.first_nonzero_from-col-requires-clause-begin
first_nonzero_from-col-requires-clause-begin c = c.loop-row.invariant.low

pub first_nonzero_from-col-requires-clause-end : goal.first_nonzero_from-col-requires-clause-end
first_nonzero_from-col-requires-clause-end c = omega (arith, c.loop-row.invariant.high, c.requires.upto, c.row_of.ensures.long)

pub loop-row-preserved : goal.loop-row-preserved
loop-row-preserved c =
    let n : ℕ = c.args.shape.rows in
    let cols : ℕ = c.args.shape.cols in
    let rows : List (List ℕ) = cut n cols c.args.entries.now in
    let seen : ℕ = c.loop-row.row in
    let col : ℕ = c.first_nonzero_from-col.result in
    let best = c.loop-row.best in
    let is : (j : ℕ) → get_or c.row_of.result.now j 0 ≡ entry rows seen j = λ j. ap (λ (r : List ℕ). get_or r j 0) c.row_of.ensures.row in
    let zeros : (j : ℕ) → c.args.begin ≤ j → j < col → entry rows seen j ≡ 0 = λ j low lt. sym (is j) ∙ c.first_nonzero_from-col.ensures.zeros j low lt in
    elim c.if-col-best.branch [
      | then-col-best w ↦
          subst (λ at. IsBest rows c.args.rank c.args.begin c.args.upto (seen + 1) at.row at.col) (sym w.best-is)
          (best_new rows c.args.rank c.args.begin c.args.upto seen best.row best.col col c.loop-row.invariant c.first_nonzero_from-col.ensures.low zeros c.loop-row.auto.row
          (omega (arith, length-cut n cols c.args.entries.now, c.loop-row-test.true)) w.if-col-best.true (λ z. c.first_nonzero_from-col.ensures.other w.if-col-best.true (is col ∙ z)))
      | else-col-best w ↦
          subst (λ at. IsBest rows c.args.rank c.args.begin c.args.upto (seen + 1) at.row at.col) (sym w.best-is)
          (best_kept rows c.args.rank c.args.begin c.args.upto seen best.row best.col col c.loop-row.invariant c.first_nonzero_from-col.ensures.low zeros (omega (arith, c.first_nonzero_from-col.ensures.high, w.if-col-best.false)))
    ]

pub returns-then-best-upto-clause-found : goal.returns-then-best-upto-clause-found
returns-then-best-upto-clause-found c =
    let rows : List (List ℕ) = cut c.args.shape.rows c.args.shape.cols c.args.entries.now in
    best_is rows c.args.rank c.args.begin c.args.upto c.loop-row.row c.loop-row.best.row c.loop-row.best.col (omega (arith, length-cut c.args.shape.rows c.args.shape.cols c.args.entries.now, c.loop-row-test.false)) c.loop-row.invariant c.if-best-upto.true

pub returns-else-best-upto-clause-none : goal.returns-else-best-upto-clause-none
returns-else-best-upto-clause-none c =
    let rows : List (List ℕ) = cut c.args.shape.rows c.args.shape.cols c.args.entries.now in
    best_was_none rows c.args.rank c.args.begin c.args.upto c.loop-row.row c.loop-row.best.row c.loop-row.best.col (omega (arith, length-cut c.args.shape.rows c.args.shape.cols c.args.entries.now, c.loop-row-test.false)) c.loop-row.invariant c.if-best-upto.false
