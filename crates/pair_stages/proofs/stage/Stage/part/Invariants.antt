use Rattle.std.proofs.Common.{◌≡◌, ◌<◌, ℕ, length, get_or}
use Rattle.split_laws.specs.Kinds.{part}
use Rattle.pair_stages.proofs.stage.Stage.part.Given as goal

abbrev pub invariant-loop-index : goal.invariant-loop-index
invariant-loop-index g l = record {
  long : length l.w ≡ l.count;
  same : (j : ℕ) → j < l.index → get_or l.w j 0 ≡ get_or (part l.self.kinds l.x) j 0;
}
