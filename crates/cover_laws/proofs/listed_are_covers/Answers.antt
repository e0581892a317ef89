use Rattle.cover_laws.proofs.EachClass.{listed_are_covers}
use Rattle.cover_laws.proofs.listed_are_covers.Goals as goal

pub returns : goal.returns
returns c = listed_are_covers c.cycles_go_round.ensures c.components_are_numbered.ensures c.lifts_are_labellings.ensures
