use Rattle.pair_laws.proofs.Reduction.{reduced_is}
use Rattle.pair_laws.proofs.words.reduced_words_are_reduced.Goals as goal

pub returns : goal.returns
returns c = reduced_is
