use Rattle.lane_rows.proofs.VectorLemmas.{places_fit, lanes-look_up}
use Rattle.lane_rows.proofs.vectors.look_up.Goals as goal

pub swizzle : goal.swizzle
swizzle c = places_fit c.args.places c.fits-places.0 c.requires

pub returns : goal.returns
returns c = lanes-look_up c.args.table c.args.places c.fits-places.0 c.requires
