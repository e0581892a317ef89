use Rattle.pair_laws.proofs.Reduction.{stays_reduced}
use Rattle.pair_laws.proofs.words.reduced_words_stay.Goals as goal

pub returns : goal.returns
returns c = stays_reduced
