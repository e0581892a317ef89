use Rattle.edge_words.proofs.LiftLabels.{to-relators, from-relators}
use Rattle.edge_words.proofs.laws.lifts_are_labellings.Goals as goal

pub returns : goal.returns
returns c space pairs m cells is regular valid l table =
    let law = c.cycles_go_round.ensures in
    (to-relators law space pairs is regular valid m cells table, from-relators law space pairs is regular valid m cells table c.last_face_closes.ensures l)
