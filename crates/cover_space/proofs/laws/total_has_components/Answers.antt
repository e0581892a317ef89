use Rattle.cover_space.proofs.Labelled.{is_labelled}
use Rattle.cover_space.proofs.Components.{one_component}
use Rattle.cover_space.proofs.laws.total_has_components.Goals as goal

pub returns : goal.returns
returns c X m u hs regular labelling few one joined =
    one_component
    (record { cycles = c.cycles_go_round.ensures; trees = c.spheres_have_trees.ensures; boundaries = c.boundaries_collapse.ensures; walks = c.collapsed_walks_close.ensures })
    X hs regular m u (is_labelled X m u labelling) c.same_component_is_a_path.ensures c.components_are_numbered.ensures one joined
