use Rattle.chain_laws.proofs.RowLemmas.{class_tests_are_classes}
use Rattle.chain_laws.proofs.class_tests_are_classes.Goals as goal

pub returns : goal.returns
returns g c = class_tests_are_classes g.F.Field.ops g.met.F.Field.laws
