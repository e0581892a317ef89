use Rattle.pair_stages.proofs.Pairwise.{triangular_at}
use Rattle.pair_stages.proofs.substitution.settle.Goals as goal

pub settle_pair-requires-clause-lower : goal.settle_pair-requires-clause-lower
settle_pair-requires-clause-lower g c = (triangular_at c.args.columns.now.rows c.args.pairs.now c.loop-pair.pair-index (record { lower = 0; upper = 0 }) c.requires.triangular c.loop-pair-test.true).0

pub settle_pair-requires-clause-nonzero : goal.settle_pair-requires-clause-nonzero
settle_pair-requires-clause-nonzero g c = (triangular_at c.args.columns.now.rows c.args.pairs.now c.loop-pair.pair-index (record { lower = 0; upper = 0 }) c.requires.triangular c.loop-pair-test.true).1
