use Rattle.std.proofs.Common.{◌∙◌, arith}
use Rattle.least_tables.proofs.Rules.{seen-more, rows-more}
use Rattle.least_tables.proofs.least.rows_appear.Goals as goal

pub loop-place-preserved : goal.loop-place-preserved
loop-place-preserved c = record {
  seen = c.larger-seen.ensures ∙ seen-more c.args.cells.now c.loop-place.place c.loop-place.seen (omega arith) c.loop-place.invariant.seen;
  rows = rows-more c.args.columns c.args.cells.now c.loop-place.place c.loop-place.row c.loop-place.column c.loop-place.seen c.loop-place.invariant.place (c.loop-place.invariant.column (c.requires (omega arith))) (omega arith) c.loop-place.invariant.seen c.loop-place.invariant.rows;
  place = omega arith;
  column = λ _. c.next_place.ensures.within;
}
