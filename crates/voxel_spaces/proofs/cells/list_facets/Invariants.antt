use Rattle.std.proofs.Common.{◌≡◌, ◌≤◌, ◌++◌, ℕ, drop, map}
use Rattle.number_lists.specs.Members.{In}
use Rattle.voxel_spaces.specs.Places.{facets_from, facet_places, number_among}
use Rattle.voxel_spaces.proofs.cells.list_facets.Given as goal

abbrev pub invariant-loop-stride : goal.invariant-loop-stride
invariant-loop-stride l = record {
  listed : l.facets.items ++ map (number_among l.strides l.places) (facets_from (drop l.stride-index l.strides) l.place l.rest) ≡ map (number_among l.strides l.places) (facet_places l.strides l.place);
  inside : (k : ℕ) → In k (facets_from (drop l.stride-index l.strides) l.place l.rest) → In k (facet_places l.strides l.place);
  less : l.rest ≤ l.place;
}
