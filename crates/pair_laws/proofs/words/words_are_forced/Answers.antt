use Rattle.pair_laws.proofs.Reduction.{forced_unique}
use Rattle.pair_laws.proofs.words.words_are_forced.Goals as goal

pub returns : goal.returns
returns c = forced_unique
