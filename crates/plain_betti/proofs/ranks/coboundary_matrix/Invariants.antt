use Rattle.std.proofs.Common.{◌≡◌, ◌+◌, replicate, length}
use Rattle.order_complex.specs.Chains.{chains_of}
use Rattle.plain_betti.proofs.Filling.{filled}
use Rattle.plain_betti.proofs.Coboundaries.{row_on, zero_rows}
use Rattle.plain_betti.proofs.ranks.coboundary_matrix.Given as goal

abbrev pub invariant-loop-row : goal.invariant-loop-row
invariant-loop-row g l = record {
  unmarked : l.mark ≡ replicate (length (chains_of l.chains l.degree)) 0;
  cols : l.matrix.cols ≡ length (chains_of l.chains (l.degree + 1));
  rows : l.matrix.rows ≡ filled (row_on g.F.Field.ops (chains_of l.chains l.degree) (chains_of l.chains (l.degree + 1))) l.row (chains_of l.chains l.degree) (zero_rows g.F.Field.ops (chains_of l.chains l.degree) (chains_of l.chains (l.degree + 1)));
}
