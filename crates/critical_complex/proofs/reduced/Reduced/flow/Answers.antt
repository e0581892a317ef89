use Rattle.std.proofs.Common.{length, ap, sym, ◌∙◌}
use Rattle.std.proofs.lemmas.Result.{IfOk-weaker}
use Rattle.split_laws.specs.Kinds.{criticals}
use Rattle.split_laws.specs.Solutions.{IsFlow}
use Rattle.pair_stages.specs.Splits as stages_of
use Rattle.critical_complex.specs.Levels.{Level, IsFlowAt}
use Rattle.critical_complex.proofs.LevelLemmas.{moved_back, seen}
use Rattle.critical_complex.proofs.reduced.Reduced.flow.Goals as goal

pub flow-requires : goal.flow-requires
flow-requires g c = record {
  degree = c.requires.degree;
  values = c.requires.values ∙ ap (λ (l : Level). criticals l.kinds) (sym (seen c.self.inside.stages c.args.self.now c.self.view_is c.args.dim));
}

pub returns : goal.returns
returns g c =
    IfOk-weaker c.flow.result (stages_of.IsFlowAt g.F.Field.ops c.self.inside.stages c.args.dim c.args.c.now) (IsFlowAt g.F.Field.ops c.args.self.now c.args.dim c.args.c.now)
    (λ z h. moved_back c.self.inside.stages c.args.self.now c.self.view_is (λ last l. IsFlow g.F.Field.ops (length last.kinds) (length l.kinds) last.rows last.kinds l.kinds c.args.c.now z) c.args.dim h)
    c.flow.ensures
