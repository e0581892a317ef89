use Rattle.std.proofs.Common.{◌≡◌, get_or}
use Rattle.regular_check.specs.Rules.{meet}
use Rattle.regular_check.proofs.Spreading.{IsSearch}
use Rattle.regular_check.proofs.search.are_connected.Given as goal

abbrev pub invariant-loop-head : goal.invariant-loop-head
invariant-loop-head l = (l.found.most ≡ l.fn.found.most) × IsSearch (meet l.space l.dim) l.cells (get_or l.cells 0 0) l.head l.found.found
