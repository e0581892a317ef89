use Rattle.local_field.specs.Listed.{AreSolidsPut}
use Rattle.local_field.proofs.field.push_solids.Given as goal

abbrev pub invariant-loop-index : goal.invariant-loop-index
invariant-loop-index l = AreSolidsPut l.regular l.index l.fn.pairs.items l.pairs.items
