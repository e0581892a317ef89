use Rattle.std.proofs.Common.{◌-◌, arith}
use Rattle.pair_stages.proofs.Pairwise.{triangular_at}
use Rattle.pair_stages.proofs.flow.carry.Goals as goal

pub carry_pair-requires-clause-lower : goal.carry_pair-requires-clause-lower
carry_pair-requires-clause-lower g c = (triangular_at c.args.columns.now.rows c.args.pairs.now (c.loop-index.index - 1) (record { lower = 0; upper = 0 }) c.requires.triangular (omega (arith, c.loop-index.auto.index, c.loop-index-test.true))).0

pub carry_pair-requires-clause-nonzero : goal.carry_pair-requires-clause-nonzero
carry_pair-requires-clause-nonzero g c = (triangular_at c.args.columns.now.rows c.args.pairs.now (c.loop-index.index - 1) (record { lower = 0; upper = 0 }) c.requires.triangular (omega (arith, c.loop-index.auto.index, c.loop-index-test.true))).1
