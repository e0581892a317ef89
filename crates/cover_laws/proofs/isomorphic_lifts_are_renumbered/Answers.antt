use Rattle.cover_laws.proofs.Renumbered.{isomorphic_lifts}
use Rattle.cover_laws.proofs.isomorphic_lifts_are_renumbered.Goals as goal

pub returns : goal.returns
returns c = isomorphic_lifts c.cycles_go_round.ensures c.components_are_numbered.ensures
