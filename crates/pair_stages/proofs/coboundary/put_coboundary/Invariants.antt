use Rattle.std.proofs.Common.{◌≡◌, true, false, replicate, take}
use Rattle.linear_laws.specs.Vectors.{combination}
use Rattle.linear_laws.specs.Echelon.{is_nonzero}
use Rattle.split_laws.specs.Kinds.{criticals, part}
use Rattle.std.proofs.Common.{length}
use Rattle.pair_stages.proofs.Rows.{IsMixed}
use Rattle.pair_stages.proofs.coboundary.put_coboundary.Given as goal

abbrev pub invariant-loop-index : goal.invariant-loop-index
invariant-loop-index g l = record {
  mixed : IsMixed l.next.kinds (replicate (criticals l.next.kinds) 0) (part l.next.kinds (combination g.F.Field.ops (length l.next.kinds) l.x l.stage.rows)) l.values (take l.index l.reach.found.found);
  some : l.some ≡ true → is_nonzero (part l.next.kinds (combination g.F.Field.ops (length l.next.kinds) l.x l.stage.rows)) ≡ true;
  none : l.some ≡ false → l.values ≡ replicate (criticals l.next.kinds) 0;
}
