use Rattle.std.proofs.Common.{◌≡◌, length, drop, replicate}
use Rattle.linear_laws.specs.Vectors.{boundary}
use Rattle.split_laws.specs.Pairs.{carry}
use Rattle.pair_stages.proofs.flow.carry.Given as goal

abbrev pub invariant-loop-index : goal.invariant-loop-index
invariant-loop-index g l = record {
  long : length l.z ≡ l.columns.cols;
  of : l.boundary ≡ boundary g.F.Field.ops l.columns.rows l.z;
  carried : l.z ≡ carry g.F.Field.ops l.columns.rows (replicate (length l.columns.rows) 0) (drop l.index l.pairs) l.initial.z;
}
