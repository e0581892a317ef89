use Rattle.std.proofs.Common.{sym, subst}
use Rattle.critical_complex.specs.Levels.{IsFilledAt}
use Rattle.critical_complex.proofs.Kept.{places_are}
use Rattle.critical_complex.proofs.reduced.Reduced.filled.Goals as goal

pub returns : goal.returns
returns g c =
    subst (IsFilledAt g.F.Field.ops c.args.self.now c.args.dim) (sym c.places.ensures)
    (places_are g.F.Field.ops g.met.F.Field.laws c.self.inside.stages c.args.self.now c.self.view_is c.self.invariant.1 c.self.inside.filled.items c.self.invariant.2 c.args.dim c.requires c.index.result.now c.index.ensures)
