use Rattle.std.proofs.Common.{◌≡◌, ◌+◌, ◌-◌, ◌*◌, length}
use Rattle.cover_space.specs.Making.{stage}
use Rattle.cover_space.proofs.over.add_over.Given as goal

abbrev pub invariant-loop-index : goal.invariant-loop-index
invariant-loop-index l = (l.builder ≡ stage l.space l.labels l.dim (l.labels.sheets * (l.cell - 1) + l.index)) × (length l.over.items ≡ length l.inside.vertices.items)
