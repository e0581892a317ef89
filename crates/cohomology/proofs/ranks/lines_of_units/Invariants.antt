use Rattle.std.proofs.Common.{◌≡◌, take}
use Rattle.cohomology.specs.RankLines.{unit_lines}
use Rattle.cohomology.proofs.ranks.lines_of_units.Given as goal

abbrev pub invariant-loop-index : goal.invariant-loop-index
invariant-loop-index g l = l.lines.items ≡ take l.index (unit_lines l.fn.reduced l.fn.dim)
