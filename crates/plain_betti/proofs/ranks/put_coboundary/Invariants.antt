use Rattle.std.proofs.Common.{◌≡◌, ◌+◌, slice_set, slice_index_or, []}
use Rattle.order_complex.specs.Chains.{chains_of}
use Rattle.order_complex.specs.Cochains.{coboundary_at}
use Rattle.plain_betti.proofs.Filling.{filled}
use Rattle.plain_betti.proofs.ranks.put_coboundary.Given as goal

abbrev pub invariant-loop-col : goal.invariant-loop-col
invariant-loop-col g l = record {
  cols : l.matrix.cols ≡ l.initial.matrix.cols;
  rows : l.matrix.rows ≡ slice_set l.initial.matrix.rows l.row (filled (coboundary_at g.F.Field.ops (chains_of l.chains l.degree) l.x) l.col (chains_of l.chains (l.degree + 1)) (slice_index_or l.initial.matrix.rows l.row []));
}
