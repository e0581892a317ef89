use Rattle.std.proofs.Common.{arith}
use Rattle.least_tables.proofs.Rules.{is-smaller, none-smaller}
use Rattle.least_tables.proofs.least.none_is_smaller.Goals as goal

pub returns-then-is_smaller_from : goal.returns-then-is_smaller_from
returns-then-is_smaller_from c = is-smaller c.args.columns c.args.sheets c.args.cells.now (c.is_smaller_from.ensures.some c.if-is_smaller_from.true)

pub returns : goal.returns
returns c = none-smaller c.args.columns c.args.sheets c.args.cells.now c.requires.grown.some (λ b l. c.loop-first.invariant b (omega arith))
