use Rattle.pair_laws.proofs.Reduction.{follow_reduced}
use Rattle.pair_laws.proofs.words.walks_follow_reduced_words.Goals as goal

pub returns : goal.returns
returns c = follow_reduced
