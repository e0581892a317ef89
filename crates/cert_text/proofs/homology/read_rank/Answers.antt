use Rattle.cert_text.proofs.SideLemmas.{rank-read}
use Rattle.cert_text.proofs.TakingLemmas.{continues}
use Rattle.cert_text.proofs.homology.read_rank.Goals as goal

pub returns-clause-read : goal.returns-clause-read
returns-clause-read c = continues _ _ _ c.read_block.new.lines c.read_block.result (rank-read c.args.version c.args.modulus c.args.chains c.args.degree c.args.lines.now) c.read_block.ensures.read
