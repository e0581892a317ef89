use Rattle.tuple_spaces.proofs.TorusRegularity.{torus_regular}
use Rattle.tuple_spaces.proofs.laws.torus_is_regular.Goals as goal

pub returns : goal.returns
returns c = torus_regular
