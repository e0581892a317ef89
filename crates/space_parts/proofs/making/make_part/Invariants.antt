use Rattle.std.proofs.Common.{◌≡◌, map}
use Rattle.std.specs.List.{range_with_len}
use Rattle.space_parts.specs.Parts.{cells_in}
use Rattle.space_parts.specs.Making.{stage}
use Rattle.space_parts.proofs.making.make_part.Given as goal

abbrev pub invariant-loop-dim : goal.invariant-loop-dim
invariant-loop-dim l = (l.builder ≡ stage l.space l.component l.dim 0) × (l.cells ≡ map (cells_in l.space l.component) (range_with_len 0 l.dim))
