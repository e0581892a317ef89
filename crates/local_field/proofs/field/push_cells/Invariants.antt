use Rattle.local_field.specs.Listed.{ArePut}
use Rattle.local_field.proofs.field.push_cells.Given as goal

abbrev pub invariant-loop-index : goal.invariant-loop-index
invariant-loop-index l = ArePut l.regular l.dim l.index l.fn.pairs.items l.pairs.items
