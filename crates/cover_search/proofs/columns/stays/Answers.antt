use Rattle.std.proofs.Common.{get_or, sym, arith}
use Rattle.std.specs.Prelude.{◌==◌}
use Rattle.std.proofs.lemmas.Bool.{eq-eqb}
use Rattle.cover_search.proofs.Walking.{all_hold, one_fails, differ}
use Rattle.cover_search.proofs.columns.stays.Goals as goal

pub returns-then-ends-sheet : goal.returns-then-ends-sheet
returns-then-ends-sheet c = sym (one_fails (λ s. get_or c.args.ends.now s 0 == s) 0 c.args.sheets c.loop-sheet.sheet (omega arith) (omega arith) (differ (get_or c.args.ends.now c.loop-sheet.sheet 0) c.loop-sheet.sheet c.if-ends-sheet.true))

pub returns : goal.returns
returns c = sym (all_hold (λ s. get_or c.args.ends.now s 0 == s) 0 c.args.sheets (λ s k. eq-eqb (get_or c.args.ends.now s 0) s (c.loop-sheet.invariant s (omega arith))))
