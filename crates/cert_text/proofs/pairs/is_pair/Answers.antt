use Rattle.std.proofs.Common.{arith}
use Rattle.cert_text.proofs.PairLemmas.{too_high}
use Rattle.cert_text.proofs.pairs.is_pair.Goals as goal

pub returns-then-dim-gt3-clause-pair : goal.returns-then-dim-gt3-clause-pair
returns-then-dim-gt3-clause-pair c = too_high c.args.space.now c.args.dim c.args.lower c.args.upper c.requires (omega (arith, c.if-dim-gt3.true))
