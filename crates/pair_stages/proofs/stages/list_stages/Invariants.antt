use Rattle.std.proofs.Common.{◌≡◌, ◌<◌, ℕ, length}
use Rattle.pair_stages.specs.Signed.{IsStageOf}
use Rattle.pair_stages.specs.Splits.{stage_at}
use Rattle.pair_stages.proofs.stages.list_stages.Given as goal

abbrev pub invariant-loop-dim : goal.invariant-loop-dim
invariant-loop-dim g l = record {
  long : length l.stages.items ≡ l.dim;
  each : (degree : ℕ) → degree < l.dim → IsStageOf g.F.Field.ops (g.G.Graded.space l.graded) (g.G.Signed.negative l.graded) l.field.pairs degree (stage_at l.stages.items degree);
}
