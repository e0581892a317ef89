use Rattle.std.proofs.Common.{arith}
use Rattle.vector_field.proofs.Unpaired.{listed-rise}
use Rattle.vector_field.proofs.pair_list.PairList.critical.Goals as goal

pub returns-clause-rise : goal.returns-clause-rise
returns-clause-rise c = listed-rise c.self.inside.pairing c.self.inside.critical c.args.dim c.get.result.now c.self.invariant.1 (omega (arith, c.if-dim-len.false, c.len.ensures)) c.get.ensures
