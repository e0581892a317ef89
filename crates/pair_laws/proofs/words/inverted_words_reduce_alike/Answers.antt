use Rattle.pair_laws.proofs.Reduction.{reduced_inverted}
use Rattle.pair_laws.proofs.words.inverted_words_reduce_alike.Goals as goal

pub returns : goal.returns
returns c = reduced_inverted
