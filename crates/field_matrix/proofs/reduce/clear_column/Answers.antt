use Rattle.std.proofs.Common.{◌≡◌, ◌≢◌, ℕ, ◌+◌, ◌<◌, List, length, arith, sym, ap, ◌∙◌, subst}
use Rattle.linear_laws.specs.Vectors.{entry}
use Rattle.field_matrix.specs.Rows.{cut}
use Rattle.field_matrix.specs.Steps.{IsCleared}
use Rattle.field_matrix.proofs.Cut.{length-cut}
use Rattle.field_matrix.proofs.Clear.{cleared_more, cleared_by_addition}
use Rattle.field_matrix.proofs.reduce.clear_column.Goals as goal
use Rattle.field_matrix.proofs.reduce.clear_column.Goals.{then-i-rank+then-number-ne0, then-i-rank+else-number-ne0, else-i-rank}

pub loop-i-preserved : goal.loop-i-preserved
loop-i-preserved g c =
    let k = g.F.Field.ops in
    let f = g.met.F.Field.laws in
    let n : ℕ = c.args.shape.rows in
    let cols : ℕ = c.args.shape.cols in
    let i : ℕ = c.loop-i.i in
    let before : List (List ℕ) = cut n cols c.args.entries.now in
    let now : List (List ℕ) = cut n cols c.loop-i.entries in
    let long : length before ≡ n = length-cut n cols c.args.entries.now in
    let Good : List ℕ → Type 0 = λ w. IsCleared k cols c.args.rank c.args.col (i + 1) before (cut n cols w) in
    elim c.if-i-rank.branch [
      | then-i-rank+then-number-ne0 w ↦ record {
        cleared =
            let read : g.F.Field.number_of w.from_number.result ≡ entry now i c.args.col = w.from_number.ensures ∙ w.entry_of-number.ensures in
            subst Good (sym w.entries-is)
            (subst (IsCleared k cols c.args.rank c.args.col (i + 1) before) (sym w.add_row.ensures.rows)
            (cleared_by_addition k f cols c.args.rank c.args.col i (g.F.Field.number_of w.neg-factor.result) before now c.requires.pivot c.requires.col (omega arith) (omega arith) w.if-i-rank.true (w.neg-factor.ensures ∙ ap k.neg read) c.loop-i.invariant.cleared));
        before_rank = λ le. let old = c.loop-i.invariant.before_rank (omega arith) in omega arith;
        after_rank = λ lt.
            let ne : i ≢ c.args.rank = w.if-i-rank.true in
            let past : c.args.rank < i = omega arith in
            let old = c.loop-i.invariant.after_rank past in
            omega arith;
      }
      | then-i-rank+else-number-ne0 w ↦ record {
        cleared =
            subst Good (sym w.entries-is)
            (cleared_more k f cols c.args.rank c.args.col i before now c.loop-i.invariant.cleared (λ _. sym w.entry_of-number.ensures ∙ w.if-number-ne0.false));
        before_rank = λ le. let old = c.loop-i.invariant.before_rank (omega arith) in omega arith;
        after_rank = λ lt.
            let ne : i ≢ c.args.rank = w.if-i-rank.true in
            let past : c.args.rank < i = omega arith in
            let old = c.loop-i.invariant.after_rank past in
            omega arith;
      }
      | else-i-rank w ↦ record {
        cleared =
            subst Good (sym w.entries-is) (cleared_more k f cols c.args.rank c.args.col i before now c.loop-i.invariant.cleared (λ ne. absurd (ne w.if-i-rank.false)));
        before_rank = λ le. let old = c.loop-i.invariant.before_rank (omega arith) in omega arith;
        after_rank = λ lt. let old = c.loop-i.invariant.before_rank (omega arith) in omega arith;
      }
    ]
