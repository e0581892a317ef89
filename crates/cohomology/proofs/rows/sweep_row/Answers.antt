use Rattle.std.proofs.Common.{◌≡◌, ◌+◌, ℕ, List, length, subst, arith}
use Rattle.cohomology.specs.Swept.{front, ArePivots, IsSwept}
use Rattle.cohomology.proofs.RowSteps.{nothing_swept, one_more_pivot, pivot_below}
use Rattle.cohomology.proofs.rows.sweep_row.Goals as goal

pub loop-index-init : goal.loop-index-init
loop-index-init g c = record {
  long = c.requires.cols;
  swept = λ pivots p. nothing_swept g.F.Field.ops g.met.F.Field.laws c.args.form.now.cols c.args.form.now.rows c.requires.form pivots p c.args.row.now (record { long = c.requires.cols; elements = c.len-elements.ensures.elements });
}

pub get-requires : goal.get-requires
get-requires g c =
    let p : ArePivots c.args.form.now.cols c.args.form.now.rows c.requires.form.is.pivots = record { reduced = c.requires.form.is.reduced; many = c.requires.form.is.rank_is } in
    let below = pivot_below g.F.Field.ops g.met.F.Field.laws c.args.form.now.cols c.args.form.now.rows c.requires.form c.requires.form.is.pivots p c.loop-index.index (omega (arith, c.loop-index-test.true, c.rank-index-end.ensures.rank)) in
    omega (arith, below, c.pivot.ensures.pivots c.requires.form.is.pivots c.requires.form.is.reduced, c.loop-index.invariant.long)

pub add_multiple-requires-clause-cols : goal.add_multiple-requires-clause-cols
add_multiple-requires-clause-cols g c = c.loop-index.invariant.long

pub loop-index-preserved : goal.loop-index-preserved
loop-index-preserved g c =
    let swept : (pivots : List ℕ) → ArePivots c.args.form.now.cols c.args.form.now.rows pivots → IsSwept g.F.Field.ops c.args.form.now.cols (front c.args.form.now.rows) pivots (c.loop-index.index + 1) c.args.row.now c.add_multiple.new.row =
    λ pivots p.
    one_more_pivot g.F.Field.ops g.met.F.Field.laws c.args.form.now.cols c.args.form.now.rows c.requires.form pivots p c.loop-index.index (g.F.Field.number_of c.neg-factor.result) (g.F.Field.number_of c.get.result) c.pivot.result c.args.row.now c.loop-index.row
    c.add_multiple.new.row (omega (arith, c.loop-index-test.true, c.rank-index-end.ensures.rank)) (c.loop-index.invariant.swept pivots p) c.add_multiple.ensures c.neg-factor.ensures c.get.ensures (c.pivot.ensures.pivots pivots p.reduced) in
    let p : ArePivots c.args.form.now.cols c.args.form.now.rows c.requires.form.is.pivots = record { reduced = c.requires.form.is.reduced; many = c.requires.form.is.rank_is } in
    record { long = (swept c.requires.form.is.pivots p).vector.long; swept = swept }

pub returns : goal.returns
returns g c pivots p =
    let at : c.loop-index.index ≡ length pivots = omega (arith, c.loop-index-test.false, c.loop-index.auto.index-end, c.rank-index-end.ensures.rank, p.many) in
    subst (λ (k : ℕ). IsSwept g.F.Field.ops c.args.form.now.cols (front c.args.form.now.rows) pivots k c.args.row.now c.loop-index.row) at (c.loop-index.invariant.swept pivots p)
