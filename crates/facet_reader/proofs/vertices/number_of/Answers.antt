use Rattle.facet_reader.proofs.Halving.{found, not_missed}
use Rattle.facet_reader.proofs.vertices.number_of.Goals as goal

pub unreachable-requires : goal.unreachable-requires
unreachable-requires c = not_missed c.args.places.now c.args.place c.in-Err.field-0 c.requires.rises c.requires.there c.in-Err.ensures.position

pub returns : goal.returns
returns c = found c.args.places.now c.args.place c.in-Ok.index c.requires.rises c.in-Ok.ensures.position
