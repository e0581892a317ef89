-- The small listings, computed.
use Rattle.std.proofs.Common.{refl}
use Rattle.live_laws.specs.Small.{CircleIsListed, WedgeIsListed, TorusIsListed}

pub circle_is_listed : CircleIsListed
circle_is_listed = record { live_ones = refl; after = refl; whole = refl }

pub wedge_is_listed : WedgeIsListed
wedge_is_listed = record { count = refl; whole = refl }

pub torus_is_listed : TorusIsListed
torus_is_listed = refl
