use Rattle.std.proofs.Common.{◌≡◌, length, replicate}
use Rattle.split_laws.specs.Kinds.{criticals}
use Rattle.pair_stages.specs.Reaches.{AreIndexes}
use Rattle.pair_stages.specs.Blanks.{IsFilledTo}
use Rattle.pair_stages.proofs.coboundary.fill.Given as goal

abbrev pub invariant-loop-row : goal.invariant-loop-row
invariant-loop-row g l = record {
  indexes : AreIndexes l.stage.pairs l.next.kinds l.reach.indexes.items;
  most : l.reach.found.most ≡ length l.next.kinds;
  blank : l.x ≡ replicate (length l.stage.kinds) 0;
  none : l.values ≡ replicate (criticals l.next.kinds) 0;
  filled : IsFilledTo g.F.Field.ops l.stage l.next l.row l.filled;
}
