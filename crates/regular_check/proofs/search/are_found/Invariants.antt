use Rattle.std.proofs.Common.{◌≡◌, true, take}
use Rattle.std.specs.List.{list_all}
use Rattle.number_lists.specs.Words.{holds}
use Rattle.regular_check.proofs.search.are_found.Given as goal

abbrev pub invariant-loop-cell : goal.invariant-loop-cell
invariant-loop-cell l = list_all (holds l.found.found) (take l.cell-index l.cells) ≡ true
