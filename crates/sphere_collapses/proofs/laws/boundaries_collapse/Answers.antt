use Rattle.sphere_collapses.proofs.Boundaries.{boundary_collapse}
use Rattle.sphere_collapses.proofs.laws.boundaries_collapse.Goals as goal

pub returns : goal.returns
returns c space cell face hs regular f = boundary_collapse space cell face hs regular c.cycles_go_round.ensures f
