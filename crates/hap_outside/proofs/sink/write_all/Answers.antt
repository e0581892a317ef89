use Rattle.std.proofs.Common.{rules}
use Rattle.hap_outside.proofs.Appending.{appends_more}
use Rattle.hap_outside.proofs.sink.write_all.Goals as goal

pub turns-preserved : goal.turns-preserved
turns-preserved g c = record {
  within = search rules;
  bytes = appends_more _ _ _ c.args.piece.now c.turns.done c.in_ok-count.count c.turns.invariant.bytes c.in_ok-count.ensures.bytes;
  same = search rules;
}
