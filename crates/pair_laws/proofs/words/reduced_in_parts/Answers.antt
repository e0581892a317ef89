use Rattle.pair_laws.proofs.Reduction.{reduced_append}
use Rattle.pair_laws.proofs.words.reduced_in_parts.Goals as goal

pub returns : goal.returns
returns c = reduced_append
