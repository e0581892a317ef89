use Rattle.std.proofs.Common.{◌≡◌, ◌+◌, ◌≤◌, List, length, ap, ◌∙◌, arith}
use Rattle.std.proofs.lemmas.List.{get_or_default}
use Rattle.pair_stages.specs.Stages.{Stage, empty_stage}
use Rattle.pair_stages.specs.Splits.{stage_at}
use Rattle.pair_stages.proofs.UnitLemmas.{match_uppers, paired_at, uppers_are}
use Rattle.pair_stages.proofs.stages.Stages.units.Goals as goal

pub returns-clause-uppers : goal.returns-clause-uppers
returns-clause-uppers g c =
    let l : length c.self.inside.stages.items ≡ 5 = c.self.invariant.0.long in
    let most : c.args.dim ≤ 3 = c.requires in
    let at : c.index.result.now ≡ stage_at c.args.self.now c.args.dim =
    c.index.ensures ∙ (get_or_default c.self.inside.stages.items c.args.dim c.index.result.now empty_stage (omega arith) ∙ ap (λ (xs : List Stage). stage_at xs c.args.dim) c.self.view_is) in
    c.units.ensures
    ∙ (ap (λ (s : Stage). length s.pairs) at
    ∙ uppers_are g.F.Field.ops (stage_at c.args.self.now c.args.dim) (stage_at c.args.self.now (c.args.dim + 1)) (paired_at g.F.Field.ops c.self.inside.stages.items c.args.self.now c.self.view_is c.self.invariant.0 c.args.dim c.requires))

pub returns-clause-each : goal.returns-clause-each
returns-clause-each g c =
    match_uppers g.F.Field.ops g.met.F.Field.laws (stage_at c.args.self.now c.args.dim) (stage_at c.args.self.now (c.args.dim + 1)) (paired_at g.F.Field.ops c.self.inside.stages.items c.args.self.now c.self.view_is c.self.invariant.0 c.args.dim c.requires)
