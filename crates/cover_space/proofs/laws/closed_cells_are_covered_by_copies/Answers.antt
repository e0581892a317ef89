use Rattle.cover_space.proofs.Labelled.{is_labelled}
use Rattle.cover_space.proofs.Sheets.{one-choice}
use Rattle.cover_space.proofs.laws.closed_cells_are_covered_by_copies.Goals as goal

pub returns : goal.returns
returns c X m u dim cell s hs regular labelling r q =
    one-choice
    (record { cycles = c.cycles_go_round.ensures; trees = c.spheres_have_trees.ensures; boundaries = c.boundaries_collapse.ensures; walks = c.collapsed_walks_close.ensures })
    X hs regular m u (is_labelled X m u labelling) dim cell s r q
