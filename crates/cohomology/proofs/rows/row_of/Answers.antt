use Rattle.std.proofs.Common.{[], sym, ◌∙◌, arith}
use Rattle.linear_laws.specs.Vectors.{row_at, IsVector}
use Rattle.linear_laws.proofs.CallerLemmas.{all_at}
use Rattle.cohomology.proofs.RowSteps.{not_copied, copied_more, copied}
use Rattle.cohomology.proofs.rows.row_of.Goals as goal

pub loop-col-init : goal.loop-col-init
loop-col-init g c = not_copied c.cols-cols.result (row_at c.args.matrix.now.rows c.args.index) c.in_ok-row.row c.in_ok-row.ensures

pub set-requires : goal.set-requires
set-requires g c = omega (arith, c.loop-col-test.true, c.loop-col.invariant.long)

pub loop-col-preserved : goal.loop-col-preserved
loop-col-preserved g c =
    copied_more c.cols-cols.result c.loop-col.col (g.F.Field.number_of c.get.result) (row_at c.args.matrix.now.rows c.args.index) c.loop-col.row c.set.new.self c.loop-col-test.true c.loop-col.invariant c.set.ensures c.get.ensures

pub returns : goal.returns
returns g c =
    copied c.cols-cols.result c.loop-col.col (row_at c.args.matrix.now.rows c.args.index) c.loop-col.row c.loop-col.invariant (omega (arith, c.loop-col-test.false))
    ((all_at (IsVector g.F.Field.ops c.args.matrix.now.cols) c.args.matrix.now.rows c.args.index [] c.requires c.cols-cols.ensures.matrix).long ∙ sym c.cols-cols.ensures.cols)
