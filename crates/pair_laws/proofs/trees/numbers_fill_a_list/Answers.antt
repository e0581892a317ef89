use Rattle.pair_laws.proofs.Tree.{all_of}
use Rattle.pair_laws.proofs.trees.numbers_fill_a_list.Goals as goal

pub returns : goal.returns
returns c = all_of
