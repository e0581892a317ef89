use Rattle.chosen_field.proofs.LooseEdges.{loose_edges_join}
use Rattle.chosen_field.proofs.ChosenGood.{chosen_is_good}
use Rattle.chosen_field.proofs.laws.chosen_is_good.Goals as goal

pub returns : goal.returns
returns c = chosen_is_good c.components_are_numbered.ensures (loose_edges_join c.cycles_go_round.ensures c.same_component_is_a_path.ensures c.components_are_numbered.ensures)
