use Rattle.linear_laws.proofs.Kernels.{triangles_certify}
use Rattle.linear_laws.proofs.triangles_certify.Goals as goal

pub returns : goal.returns
returns g c = triangles_certify g.F.Field.ops g.met.F.Field.laws
