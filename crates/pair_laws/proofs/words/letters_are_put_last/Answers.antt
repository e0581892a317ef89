use Rattle.pair_laws.proofs.Reduction.{after_is}
use Rattle.pair_laws.proofs.words.letters_are_put_last.Goals as goal

pub returns : goal.returns
returns c = after_is
