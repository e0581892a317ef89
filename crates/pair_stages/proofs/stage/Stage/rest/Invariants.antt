use Rattle.std.proofs.Common.{◌≡◌, ◌<◌, ℕ, length, get_or}
use Rattle.split_laws.specs.Kinds.{part}
use Rattle.split_laws.specs.Solutions.{without}
use Rattle.pair_stages.proofs.stage.Stage.rest.Given as goal

abbrev pub invariant-loop-index : goal.invariant-loop-index
invariant-loop-index g l = record {
  long : length l.w ≡ l.count;
  same : (j : ℕ) → j < l.index → get_or l.w j 0 ≡ get_or (part l.next.kinds (without g.F.Field.ops (length l.next.kinds) l.self.rows l.x l.y)) j 0;
}
