use Rattle.pair_laws.proofs.Reduction.{undo}
use Rattle.pair_laws.proofs.words.letters_undo.Goals as goal

pub returns : goal.returns
returns c = undo
