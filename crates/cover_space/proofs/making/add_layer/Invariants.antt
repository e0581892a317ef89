use Rattle.std.proofs.Common.{◌≡◌, ◌*◌, map}
use Rattle.number_lists.specs.Words.{upto}
use Rattle.cover_space.specs.Total.{least_vertex}
use Rattle.cover_space.specs.Making.{stage}
use Rattle.cover_space.proofs.making.add_layer.Given as goal

abbrev pub invariant-loop-index : goal.invariant-loop-index
invariant-loop-index l = (l.builder ≡ stage l.space l.labels l.dim (l.labels.sheets * l.index)) × (l.least.items ≡ map (least_vertex l.space l.dim) (upto l.index))
