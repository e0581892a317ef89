use Rattle.std.proofs.Common.{◌≡◌, ◌-◌, take, map, set}
use Rattle.facet_reader.specs.Places.{facets_at}
use Rattle.facet_reader.proofs.cells.add_cells.Given as goal

abbrev pub invariant-loop-place : goal.invariant-loop-place
invariant-loop-place l = l.builder ≡ set l.initial.builder (l.size - 1) (map (facets_at l.size l.below) (take l.place-index l.cells))
