use Rattle.std.proofs.Common.{◌≡◌, ◌∷◌, [], replicate}
use Rattle.number_lists.specs.Words.{upto}
use Rattle.facet_reader.proofs.cells.add_vertices.Given as goal

abbrev pub invariant-loop-index : goal.invariant-loop-index
invariant-loop-index l = record {
  builder : l.builder ≡ replicate l.index [] ∷ [] ∷ [] ∷ [] ∷ [];
  points : l.points.items ≡ upto l.index;
}
