use Rattle.std.proofs.Common.{arith}
use Rattle.cover_space.proofs.Labelled.{is_labelled}
use Rattle.cover_space.proofs.Copies.{total_regular}
use Rattle.cover_space.proofs.laws.total_is_regular.Goals as goal

pub returns : goal.returns
returns c X m u hs regular labelling few =
    total_regular
    (record { cycles = c.cycles_go_round.ensures; trees = c.spheres_have_trees.ensures; boundaries = c.boundaries_collapse.ensures; walks = c.collapsed_walks_close.ensures })
    X hs regular m u (is_labelled X m u labelling) (omega (arith, few))
