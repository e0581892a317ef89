use Rattle.std.proofs.Common.{◌+◌, length, ap, sym, ◌∙◌}
use Rattle.std.proofs.lemmas.List.{length-map}
use Rattle.split_laws.specs.Kinds.{uppers}
use Rattle.pair_stages.specs.Splits.{stage_at}
use Rattle.pair_stages.specs.Units.{unit_of}
use Rattle.critical_complex.specs.Levels.{Level}
use Rattle.critical_complex.proofs.LevelLemmas.{seen}
use Rattle.critical_complex.proofs.reduced.Reduced.units.Goals as goal

pub returns-clause-units : goal.returns-clause-units
returns-clause-units g c =
    c.units.ensures.pairs ∙ (sym (length-map (stage_at c.self.inside.stages c.args.dim).pairs unit_of) ∙ ap (λ (l : Level). length l.units) (seen c.self.inside.stages c.args.self.now c.self.view_is c.args.dim))

pub returns-clause-uppers : goal.returns-clause-uppers
returns-clause-uppers g c = c.units.ensures.uppers ∙ ap (λ (l : Level). uppers l.kinds) (seen c.self.inside.stages c.args.self.now c.self.view_is (c.args.dim + 1))
