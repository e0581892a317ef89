use Rattle.linear_laws.proofs.Triangles.{triangle_independent}
use Rattle.linear_laws.proofs.triangles_are_independent.Goals as goal

pub returns : goal.returns
returns g c = triangle_independent g.F.Field.ops g.met.F.Field.laws
