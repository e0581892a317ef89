use Rattle.std.proofs.Common.{◌≡◌, ℕ, List, length, length-set, slice_index, ap, sym, ◌∙◌, subst, arith}
use Rattle.linear_laws.specs.Vectors.{row_at}
use Rattle.linear_laws.proofs.CallerLemmas.{length-mark}
use Rattle.cohomology.specs.Swept.{ArePivots, IsDual, IsForm}
use Rattle.cohomology.proofs.RowSteps.{no_pivot_yet, one_more_dual, pivot_below, sum_of, value_of}
use Rattle.cohomology.proofs.rows.dual_row.Goals as goal

pub loop-index-init : goal.loop-index-init
loop-index-init g c = record {
  long = ap (λ (xs : List ℕ). length xs) (c.in_ok-v.ensures) ∙ length-mark c.cols.result c.pivot-own.result ∙ c.cols.ensures.cols;
  dual = λ pivots places p q.
      let others : IsForm g.F.Field.ops c.args.form.now.cols c.args.others.now.rows = subst (λ k. IsForm g.F.Field.ops k c.args.others.now.rows) (sym c.requires.cols) c.requires.others in
      no_pivot_yet g.F.Field.ops g.met.F.Field.laws c.args.form.now.cols c.args.form.now.rows c.requires.form pivots p c.args.others.now.rows others places q (c.requires.clear pivots p)
      c.args.place c.pivot-own.result c.cols.result c.in_ok-v.v c.requires.place (c.pivot-own.ensures.pivots places (subst (λ k. ArePivots k c.args.others.now.rows places) c.requires.cols q).reduced) c.cols.ensures.cols (c.in_ok-v.ensures);
}

pub get-requires : goal.get-requires
get-requires g c =
    let p : ArePivots c.args.form.now.cols c.args.form.now.rows c.requires.form.is.pivots = record { reduced = c.requires.form.is.reduced; many = c.requires.form.is.rank_is } in
    let below = pivot_below g.F.Field.ops g.met.F.Field.laws c.args.form.now.cols c.args.form.now.rows c.requires.form c.requires.form.is.pivots p c.loop-index.index (omega (arith, c.loop-index-test.true, c.rank-index-end.ensures.rank)) in
    omega (arith, below, c.pivot-pivot.ensures.pivots c.requires.form.is.pivots c.requires.form.is.reduced, c.loop-index.invariant.long)

pub set-requires : goal.set-requires
set-requires g c =
    let p : ArePivots c.args.form.now.cols c.args.form.now.rows c.requires.form.is.pivots = record { reduced = c.requires.form.is.reduced; many = c.requires.form.is.rank_is } in
    let below = pivot_below g.F.Field.ops g.met.F.Field.laws c.args.form.now.cols c.args.form.now.rows c.requires.form c.requires.form.is.pivots p c.loop-index.index (omega (arith, c.loop-index-test.true, c.rank-index-end.ensures.rank)) in
    omega (arith, below, c.pivot-pivot.ensures.pivots c.requires.form.is.pivots c.requires.form.is.reduced, c.loop-index.invariant.long)

pub loop-index-preserved : goal.loop-index-preserved
loop-index-preserved g c = record {
  long = ap (λ (xs : List ℕ). length xs) c.set.ensures ∙ length-set c.loop-index.v c.pivot-pivot.result (g.F.Field.number_of c.add-value.result) ∙ c.loop-index.invariant.long;
  dual = λ pivots places p q.
      let others : IsForm g.F.Field.ops c.args.form.now.cols c.args.others.now.rows = subst (λ k. IsForm g.F.Field.ops k c.args.others.now.rows) (sym c.requires.cols) c.requires.others in
      one_more_dual g.F.Field.ops g.met.F.Field.laws c.args.form.now.cols c.args.form.now.rows c.requires.form pivots p c.args.others.now.rows others places q (c.requires.clear pivots p)
      c.loop-index.index c.args.place c.pivot-own.result c.pivot-pivot.result (g.F.Field.number_of c.add-value.result) c.loop-index.v c.set.new.self
      (omega (arith, c.loop-index-test.true, c.rank-index-end.ensures.rank)) c.requires.place (c.loop-index.invariant.dual pivots places p q)
      (c.pivot-own.ensures.pivots places (subst (λ k. ArePivots k c.args.others.now.rows places) c.requires.cols q).reduced) (c.pivot-pivot.ensures.pivots pivots p.reduced) c.set.ensures
      (sum_of g.F.Field.ops (g.F.Field.number_of c.add-value.result) (g.F.Field.number_of c.get.result) (g.F.Field.number_of c.neg.result) (slice_index c.loop-index.v c.pivot-pivot.result)
      (g.F.Field.ops.neg (slice_index (row_at c.args.form.now.rows c.loop-index.index) c.pivot-own.result)) c.add-value.ensures c.get.ensures (value_of g.F.Field.ops.neg (g.F.Field.number_of c.neg.result) (g.F.Field.number_of c.get-in-loop-index.result) (slice_index (row_at c.args.form.now.rows c.loop-index.index) c.pivot-own.result) c.neg.ensures c.get-in-loop-index.ensures));
}

pub returns : goal.returns
returns g c pivots places p q =
    let at : c.loop-index.index ≡ length pivots = omega (arith, c.loop-index-test.false, c.loop-index.auto.index-end, c.rank-index-end.ensures.rank, p.many) in
    subst (λ (k : ℕ). IsDual g.F.Field.ops c.args.form.now.cols c.args.form.now.rows pivots c.args.others.now.rows places k c.args.place c.loop-index.v) at
    (c.loop-index.invariant.dual pivots places p (subst (λ k. ArePivots k c.args.others.now.rows places) (sym c.requires.cols) q))
