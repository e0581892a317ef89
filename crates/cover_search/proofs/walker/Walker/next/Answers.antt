use Rattle.std.proofs.Common.{◌≡◌, rules}
use Rattle.cover_search.specs.Columns.{bytes}
use Rattle.cover_search.proofs.Walking.{byte_read}
use Rattle.cover_search.proofs.walker.Walker.next.Goals as goal

pub returns-then-byte-clause-led : goal.returns-then-byte-clause-led
returns-then-byte-clause-led c =
    let e : c.column.result.now ≡ bytes c.args.self.now.columns c.args.self.now.sheets c.args.self.now.cells c.args.letter = search rules in
    (byte_read c.args.self.now c.args.letter c.args.sheet c.column.result.now c.column.ensures.valid c.requires.sheet e).missing c.if-byte.true

pub returns-else-byte-clause-led : goal.returns-else-byte-clause-led
returns-else-byte-clause-led c =
    let e : c.column.result.now ≡ bytes c.args.self.now.columns c.args.self.now.sheets c.args.self.now.cells c.args.letter = search rules in
    (byte_read c.args.self.now c.args.letter c.args.sheet c.column.result.now c.column.ensures.valid c.requires.sheet e).there c.if-byte.false

pub returns-else-byte-clause-within : goal.returns-else-byte-clause-within
returns-else-byte-clause-within c =
    let e : c.column.result.now ≡ bytes c.args.self.now.columns c.args.self.now.sheets c.args.self.now.cells c.args.letter = search rules in
    (byte_read c.args.self.now c.args.letter c.args.sheet c.column.result.now c.column.ensures.valid c.requires.sheet e).within c.if-byte.false
