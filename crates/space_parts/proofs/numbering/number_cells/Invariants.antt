use Rattle.std.proofs.Common.{◌≡◌, map}
use Rattle.number_lists.specs.Words.{upto}
use Rattle.space_parts.specs.Parts.{component_at}
use Rattle.space_parts.proofs.numbering.number_cells.Given as goal

abbrev pub invariant-loop-index : goal.invariant-loop-index
invariant-loop-index l = l.numbers.items ≡ map (component_at l.space l.dim) (upto l.index)
