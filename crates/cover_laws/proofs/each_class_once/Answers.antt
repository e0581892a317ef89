use Rattle.cover_laws.proofs.EachClass.{each_class_once}
use Rattle.cover_laws.proofs.each_class_once.Goals as goal

pub returns : goal.returns
returns c = each_class_once c.cycles_go_round.ensures c.components_are_numbered.ensures
