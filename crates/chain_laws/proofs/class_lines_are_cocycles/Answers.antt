use Rattle.chain_laws.proofs.LineLemmas.{class_lines_are_cocycles}
use Rattle.chain_laws.proofs.class_lines_are_cocycles.Goals as goal

pub returns : goal.returns
returns g c = class_lines_are_cocycles g.F.Field.ops g.met.F.Field.laws
