use Rattle.std.proofs.Common.{arith}
use Rattle.std.proofs.lemmas.Simd.{length-put_chunk, get_or-put_chunk_at, get_or-put_chunk_below, get_or-put_chunk_above}
use Rattle.lane_rows.proofs.vectors.store.Goals as goal

pub returns : goal.returns
returns c = record {
  long = length-put_chunk c.args.at c.args.row.now c.args.lanes;
  here = λ k l. get_or-put_chunk_at c.args.at c.args.row.now c.args.lanes k 0 (omega (arith, c.fits-lanes.0)) (omega (arith, c.fits-lanes.0));
  before = λ k l. get_or-put_chunk_below c.args.at c.args.row.now c.args.lanes k 0 l;
  after = λ k l. get_or-put_chunk_above c.args.at c.args.row.now c.args.lanes k 0 (omega (arith, c.fits-lanes.0));
}
