use Rattle.number_lists.proofs.CallerLemmas.{In-Contains}
use Rattle.sphere_collapses.proofs.Boundaries.{last_closes}
use Rattle.sphere_collapses.proofs.laws.last_face_closes.Goals as goal

pub returns : goal.returns
returns c space cell face f g is hs regular on inv walks x s = last_closes space cell face hs regular c.cycles_go_round.ensures on f g is inv (λ d y i n t. walks d y (In-Contains i) n t) x s
