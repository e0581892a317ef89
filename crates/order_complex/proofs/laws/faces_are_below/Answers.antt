use Rattle.order_complex.proofs.FacesBelow.{faces_are_below}
use Rattle.order_complex.proofs.laws.faces_are_below.Goals as goal

pub returns : goal.returns
returns c = faces_are_below
