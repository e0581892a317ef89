use Rattle.edge_words.proofs.WordLabels.{labels-are_lift}
use Rattle.edge_words.proofs.laws.labels_are_the_lift.Goals as goal

pub returns : goal.returns
returns c space pairs m cells is regular valid table = labels-are_lift c.cycles_go_round.ensures space pairs is regular valid m cells table
