use Rattle.std.proofs.Common.{ap, ◌∙◌, arith}
use Rattle.gap_text.specs.Nest.{view}
use Rattle.gap_text.specs.declared.nest.Nest.{Nest}
use Rattle.array_values.specs.Bits.{items_of}
use Rattle.array_values.proofs.Levels.{items_of-list, items_of-other}
use Rattle.array_values.proofs.bits.list_of.Goals as goal

pub returns-then-len-size-clause-ok : goal.returns-then-len-size-clause-ok
returns-then-len-size-clause-ok c =
    ap (λ (n : Nest). items_of c.args.size (view n)) c.in-List.is ∙ items_of-list c.args.size c.in-List.place c.in-List.items (omega (arith, c.len.ensures, c.if-len-size.true))

pub returns-else-len-size-clause-err : goal.returns-else-len-size-clause-err
returns-else-len-size-clause-err c =
    ap (λ (n : Nest). items_of c.args.size (view n)) c.in-List.is ∙ items_of-other c.args.size c.in-List.place c.in-List.items (omega (arith, c.len.ensures, c.if-len-size.false))
