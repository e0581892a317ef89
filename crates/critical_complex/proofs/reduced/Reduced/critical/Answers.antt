use Rattle.std.proofs.Common.{ap, ◌∙◌}
use Rattle.pair_stages.specs.Stages.{critical_from}
use Rattle.critical_complex.specs.Levels.{Level}
use Rattle.critical_complex.proofs.LevelLemmas.{seen}
use Rattle.critical_complex.proofs.reduced.Reduced.critical.Goals as goal

pub returns-clause-critical : goal.returns-clause-critical
returns-clause-critical g c = c.critical.ensures.critical ∙ ap (λ (l : Level). critical_from 1 l.kinds) (seen c.self.inside.stages c.args.self.now c.self.view_is c.args.dim)
