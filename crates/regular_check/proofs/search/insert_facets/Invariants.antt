use Rattle.std.proofs.Common.{◌≡◌, take}
use Rattle.std.specs.List.{flat_map}
use Rattle.face_poset.specs.Poset.{facets_of}
use Rattle.number_lists.specs.Found.{inserted_all}
use Rattle.regular_check.proofs.search.insert_facets.Given as goal

abbrev pub invariant-loop-cell : goal.invariant-loop-cell
invariant-loop-cell l = (l.found.most ≡ l.fn.found.most) × (l.found.found ≡ inserted_all l.fn.found.found (flat_map (facets_of l.space l.dim) (take l.cell-index l.cells)))
