use Rattle.std.proofs.Common.{◌≡◌, arith, subst, get_or}
use Rattle.std.specs.Prelude.{if◌then◌else◌}
use Rattle.std.specs.Prelude.{nat_lt}
use Rattle.cover_search.proofs.Raising.{blank-is}
use Rattle.cover_search.proofs.columns.no_entries.Goals as goal

pub returns : goal.returns
returns c =
    let e : c.loop-sheet.sheet ≡ c.args.sheets = omega arith in
    blank-is c.loop-sheet.bytes c.args.sheets c.loop-sheet.invariant.long
    (λ s l. subst (λ m. get_or c.loop-sheet.bytes s 0 ≡ (if nat_lt s m then 255 else s)) e (c.loop-sheet.invariant.done s l))
