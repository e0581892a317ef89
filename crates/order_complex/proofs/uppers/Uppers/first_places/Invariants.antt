use Rattle.std.proofs.Common.{◌≡◌, map, length, take}
use Rattle.std.specs.List.{flat_map, range_with_len}
use Rattle.order_complex.specs.Listing.{extensions, uppers_of}
use Rattle.order_complex.proofs.uppers.Uppers.first_places.Given as goal

abbrev pub invariant-loop-index : goal.invariant-loop-index
invariant-loop-index g l =
    (l.places.items ≡ map (λ i. length (flat_map (extensions (uppers_of l.self)) (take i l.chains))) (range_with_len 0 l.index))
    × (l.total ≡ length (flat_map (extensions (uppers_of l.self)) (take l.index l.chains)))
