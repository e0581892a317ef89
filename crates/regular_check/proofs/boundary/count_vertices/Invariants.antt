use Rattle.std.proofs.Common.{◌≡◌, [], take}
use Rattle.std.specs.List.{flat_map}
use Rattle.face_poset.specs.Poset.{facets_of}
use Rattle.number_lists.specs.Found.{inserted_all}
use Rattle.regular_check.proofs.boundary.count_vertices.Given as goal

abbrev pub invariant-loop-disk : goal.invariant-loop-disk
invariant-loop-disk l = (l.found.most ≡ l.fn.found.most) × (l.found.found ≡ inserted_all [] (flat_map (λ d. flat_map (facets_of l.space 1) (facets_of l.space 2 d)) (take l.disk-index l.disks)))
