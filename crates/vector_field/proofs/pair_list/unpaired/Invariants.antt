use Rattle.std.proofs.Common.{◌≡◌}
use Rattle.vector_field.specs.Pairs.{unpaired}
use Rattle.vector_field.proofs.pair_list.unpaired.Given as goal

abbrev pub invariant-loop-index : goal.invariant-loop-index
invariant-loop-index l = l.cells.items ≡ unpaired l.pairing.pairs l.dim l.index
