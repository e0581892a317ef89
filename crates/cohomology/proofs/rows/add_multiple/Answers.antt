use Rattle.std.proofs.Common.{[], slice_index, sym, ◌∙◌, arith}
use Rattle.linear_laws.specs.Vectors.{row_at, IsVector}
use Rattle.linear_laws.proofs.CallerLemmas.{all_at}
use Rattle.cohomology.proofs.RowSteps.{not_added, added_more, added, sum_of, value_of}
use Rattle.cohomology.proofs.rows.add_multiple.Goals as goal

pub loop-col-init : goal.loop-col-init
loop-col-init g c = not_added g.F.Field.ops (g.F.Field.number_of c.args.factor) c.args.row.now (row_at c.args.matrix.now.rows c.args.index)

pub get-requires : goal.get-requires
get-requires g c = omega (arith, c.loop-col-test.true, c.loop-col.invariant.long, c.requires.cols, c.cols-col-end.ensures.cols)

pub set-requires : goal.set-requires
set-requires g c = omega (arith, c.loop-col-test.true, c.loop-col.invariant.long, c.requires.cols, c.cols-col-end.ensures.cols)

pub loop-col-preserved : goal.loop-col-preserved
loop-col-preserved g c =
    added_more g.F.Field.ops (g.F.Field.number_of c.args.factor) c.loop-col.col (g.F.Field.number_of c.add-value.result) c.args.row.now (row_at c.args.matrix.now.rows c.args.index) c.loop-col.row c.set.new.self
    (omega (arith, c.loop-col-test.true, c.loop-col.invariant.long, c.requires.cols, c.cols-col-end.ensures.cols)) c.loop-col.invariant c.set.ensures
    (sum_of g.F.Field.ops (g.F.Field.number_of c.add-value.result) (g.F.Field.number_of c.get.result) (g.F.Field.number_of c.mul.result) (slice_index c.loop-col.row c.loop-col.col)
    (g.F.Field.ops.mul (g.F.Field.number_of c.args.factor) (slice_index (row_at c.args.matrix.now.rows c.args.index) c.loop-col.col)) c.add-value.ensures c.get.ensures
    (value_of (g.F.Field.ops.mul (g.F.Field.number_of c.args.factor)) (g.F.Field.number_of c.mul.result) (g.F.Field.number_of c.get-in-loop-col.result) (slice_index (row_at c.args.matrix.now.rows c.args.index) c.loop-col.col) c.mul.ensures c.get-in-loop-col.ensures))

pub returns : goal.returns
returns g c =
    added g.F.Field.ops g.met.F.Field.laws (g.F.Field.number_of c.args.factor) c.cols-col-end.result c.loop-col.col c.args.row.now (row_at c.args.matrix.now.rows c.args.index) c.loop-col.row c.loop-col.invariant (omega (arith, c.loop-col-test.false))
    (c.requires.cols ∙ sym c.cols-col-end.ensures.cols)
    ((all_at (IsVector g.F.Field.ops c.args.matrix.now.cols) c.args.matrix.now.rows c.args.index [] c.requires.index c.cols-col-end.ensures.matrix).long ∙ sym c.cols-col-end.ensures.cols)
