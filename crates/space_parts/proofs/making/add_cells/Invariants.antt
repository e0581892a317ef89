use Rattle.std.proofs.Common.{◌≡◌}
use Rattle.space_parts.specs.Making.{stage}
use Rattle.space_parts.proofs.making.add_cells.Given as goal

abbrev pub invariant-loop-cell : goal.invariant-loop-cell
invariant-loop-cell l = l.builder ≡ stage l.space l.component l.dim l.cell-index
