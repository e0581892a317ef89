use Rattle.std.proofs.Common.{◌+◌, length, ap, sym, ◌∙◌}
use Rattle.std.proofs.lemmas.Result.{IfOk-weaker}
use Rattle.split_laws.specs.Kinds.{criticals}
use Rattle.split_laws.specs.Solutions.{IsExtension}
use Rattle.pair_stages.specs.Splits as stages_of
use Rattle.critical_complex.specs.Levels.{Level, IsExtensionAt}
use Rattle.critical_complex.proofs.LevelLemmas.{moved, seen}
use Rattle.critical_complex.proofs.reduced.Reduced.extend.Goals as goal

pub extend-requires : goal.extend-requires
extend-requires g c = record {
  degree = c.requires.degree;
  values = c.requires.values ∙ ap (λ (l : Level). criticals l.kinds) (sym (seen c.self.inside.stages c.args.self.now c.self.view_is c.args.dim));
}

pub returns : goal.returns
returns g c =
    IfOk-weaker c.extend.result (stages_of.IsExtensionAt g.F.Field.ops c.self.inside.stages c.args.dim c.args.w.now) (IsExtensionAt g.F.Field.ops c.args.self.now c.args.dim c.args.w.now)
    (λ x h. moved c.self.inside.stages c.args.self.now c.self.view_is (λ l next. IsExtension g.F.Field.ops (length l.kinds) (length next.kinds) l.rows l.kinds next.kinds c.args.w.now x) c.args.dim (c.args.dim + 1) h)
    c.extend.ensures
