use Rattle.std.proofs.Common.{◌≡◌, true, take}
use Rattle.std.specs.List.{list_all}
use Rattle.vector_field.specs.Pairs.{is_used}
use Rattle.vector_field.proofs.search.are_used.Given as goal

abbrev pub invariant-loop-cell : goal.invariant-loop-cell
invariant-loop-cell l = list_all (is_used l.pairing.pairs l.dim) (take l.cell-index l.cells) ≡ true
