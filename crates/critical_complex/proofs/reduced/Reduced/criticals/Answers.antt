use Rattle.std.proofs.Common.{ap, ◌∙◌}
use Rattle.split_laws.specs.Kinds.{criticals}
use Rattle.critical_complex.specs.Levels.{Level}
use Rattle.critical_complex.proofs.LevelLemmas.{seen}
use Rattle.critical_complex.proofs.reduced.Reduced.criticals.Goals as goal

pub returns : goal.returns
returns g c = c.criticals.ensures ∙ ap (λ (l : Level). criticals l.kinds) (seen c.self.inside.stages c.args.self.now c.self.view_is c.args.dim)
