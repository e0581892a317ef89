use Rattle.split_laws.proofs.Linear.{reduced_coboundary}
use Rattle.split_laws.proofs.reduced_rows_are_coboundaries.Goals as goal

pub returns : goal.returns
returns g c = λ n m rows reduced ts us s r w x e. reduced_coboundary g.F.Field.ops g.met.F.Field.laws n m rows ts us s reduced r w x e
