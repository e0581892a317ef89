use Rattle.std.proofs.Common.{◌+◌, refl, arith}
use Rattle.least_tables.proofs.Numbers.{given-next}
use Rattle.least_tables.proofs.numbering.Numbering.give.Goals as goal

pub returns : goal.returns
returns c = given-next c.args.known c.args.sheet _ _ (c.args.known + 1) c.args.self.now.numbers c.args.self.now.sheets c.requires refl c.if-number-known.false refl (omega arith)
