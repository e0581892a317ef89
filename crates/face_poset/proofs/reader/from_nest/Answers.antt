use Rattle.face_poset.specs.Poset.{IsSpace, IsLimited}
use Rattle.face_poset.proofs.LayerLemmas.{space_valid}
use Rattle.face_poset.proofs.reader.from_nest.Goals as goal

pub from_layers-requires-clause-valid : goal.from_layers-requires-clause-valid
from_layers-requires-clause-valid c =
    let r : IsSpace c.in_ok-layers.layers × IsLimited c.in_ok-layers.layers = space_valid c.in_ok-tops.tops.now c.in_ok-layers.layers c.in_ok-check_sizes.ensures.sized c.in_ok-layers.ensures.layers in r.0

pub from_layers-requires-clause-limited : goal.from_layers-requires-clause-limited
from_layers-requires-clause-limited c =
    let r : IsSpace c.in_ok-layers.layers × IsLimited c.in_ok-layers.layers = space_valid c.in_ok-tops.tops.now c.in_ok-layers.layers c.in_ok-check_sizes.ensures.sized c.in_ok-layers.ensures.layers in r.1
