use Rattle.std.proofs.Common.{length, ap, sym, ◌∙◌}
use Rattle.std.proofs.lemmas.Result.{IfOk-weaker}
use Rattle.split_laws.specs.Solutions.{IsCleared}
use Rattle.pair_stages.specs.Splits as stages_of
use Rattle.critical_complex.specs.Levels.{Level, IsClearedAt}
use Rattle.critical_complex.proofs.LevelLemmas.{moved_back, seen}
use Rattle.critical_complex.proofs.reduced.Reduced.clear.Goals as goal

pub clear-requires : goal.clear-requires
clear-requires g c = record {
  degree = c.requires.degree;
  cochain = c.requires.cochain ∙ ap (λ (l : Level). length l.kinds) (sym (seen c.self.inside.stages c.args.self.now c.self.view_is c.args.dim));
}

pub returns : goal.returns
returns g c =
    IfOk-weaker c.clear.result (λ r. stages_of.IsClearedAt g.F.Field.ops c.self.inside.stages c.args.dim c.args.x.now r.w r.y) (λ r. IsClearedAt g.F.Field.ops c.args.self.now c.args.dim c.args.x.now r.w r.y)
    (λ r h. moved_back c.self.inside.stages c.args.self.now c.self.view_is (λ last l. IsCleared g.F.Field.ops (length last.kinds) (length l.kinds) last.rows last.kinds l.kinds c.args.x.now r.w r.y) c.args.dim h)
    c.clear.ensures
