use Rattle.chosen_field.proofs.LooseEdges.{loose_edges_join}
use Rattle.chosen_field.proofs.ChosenGood.{tree_goes_nearer}
use Rattle.chosen_field.proofs.laws.tree_goes_nearer.Goals as goal

pub returns : goal.returns
returns c = tree_goes_nearer (loose_edges_join c.cycles_go_round.ensures c.same_component_is_a_path.ensures c.components_are_numbered.ensures)
