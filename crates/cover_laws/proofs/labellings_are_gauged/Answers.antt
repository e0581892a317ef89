use Rattle.cover_laws.proofs.Gauge.{gauge}
use Rattle.cover_laws.proofs.Isomorphisms.{isomorphic-self, isomorphic-back, isomorphic-then}
use Rattle.cover_laws.proofs.labellings_are_gauged.Goals as goal

pub returns-clause-gauge : goal.returns-clause-gauge
returns-clause-gauge c space pairs m u h e = gauge space pairs h.is h.regular h.good.valid c.cycles_go_round.ensures m u e

pub returns-clause-equivalence : goal.returns-clause-equivalence
returns-clause-equivalence c space m is regular =
    record { itself = isomorphic-self space m is regular; turned = isomorphic-back space m is regular; joined = isomorphic-then space m is regular }
