use Rattle.std.proofs.Common.{arith}
use Rattle.cert_text.proofs.LayerLemmas.{points-more}
use Rattle.cert_text.proofs.space.add_points.Goals as goal

pub points-preserved : goal.points-preserved
points-preserved c = record {
  layers = points-more c.points.added c.points.builder c.add_cell.new.builder c.points.invariant.layers c.in_ok-add_cell.ensures.added;
  within = omega (arith, c.points-test.true);
}
