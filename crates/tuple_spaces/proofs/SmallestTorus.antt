-- The 3-cube with all its faces is regular.
use Rattle.std.proofs.Common.{refl}
use Rattle.regular_check.specs.Rules.{IsRegular}
use Rattle.tuple_spaces.specs.Tuples.{tuples, space_of}
use Rattle.tuple_spaces.specs.Torus.{facets_round}

pub cube_regular : IsRegular (space_of (facets_round 3) (tuples 3 3))
cube_regular = refl
