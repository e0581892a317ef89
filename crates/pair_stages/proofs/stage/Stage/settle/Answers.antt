use Rattle.std.proofs.Common.{◌<◌, ℕ, List, ap, sym, ◌∙◌, subst}
use Rattle.std.specs.List.{AllByRecursion}
use Rattle.split_laws.specs.declared.matching.Match.{Match}
use Rattle.pair_stages.specs.Stages.{Stage}
use Rattle.pair_stages.proofs.stage.Stage.settle.Goals as goal

pub settle-requires-clause-above : goal.settle-requires-clause-above
settle-requires-clause-above g c = c.requires.above ∙ sym (ap (λ (s : Stage). s.cols) c.self.view_is ∙ c.requires.paired.cols)

pub settle-requires-clause-uppers : goal.settle-requires-clause-uppers
settle-requires-clause-uppers g c =
    subst (λ (ps : List Match). AllByRecursion (λ (p : Match). p.upper < c.self.inside.columns.cols) ps) (sym (c.deref.ensures.value ∙ ap (λ (s : Stage). s.pairs) c.self.view_is))
    (subst (λ (n : ℕ). AllByRecursion (λ (p : Match). p.upper < n) c.args.self.now.pairs) (sym (ap (λ (s : Stage). s.cols) c.self.view_is ∙ c.requires.paired.cols)) c.requires.paired.matching.uppers)
