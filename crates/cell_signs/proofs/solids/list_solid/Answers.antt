use Rattle.std.proofs.Common.{subst}
use Rattle.face_poset.specs.Poset.{IsSpace}
use Rattle.cell_signs.proofs.SolidLaw.{collapses_fit}
use Rattle.cell_signs.proofs.solids.list_solid.Goals as goal

pub solid_signs-requires-clause-fit : goal.solid_signs-requires-clause-fit
solid_signs-requires-clause-fit c = collapses_fit c.args.regular.now c.args.cell _ c.in_ok-pairs.pairs (subst IsSpace c.space.ensures.same c.facets-disks.ensures.valid) c.in_ok-pairs.ensures
