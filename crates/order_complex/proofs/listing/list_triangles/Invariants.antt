use Rattle.std.proofs.Common.{◌≡◌, take}
use Rattle.std.specs.List.{flat_map}
use Rattle.order_complex.specs.Listing.{extensions}
use Rattle.order_complex.proofs.listing.list_triangles.Given as goal

abbrev pub invariant-loop-index : goal.invariant-loop-index
invariant-loop-index l = l.triangles.items ≡ flat_map (extensions l.uppers) (take l.index l.edges)
