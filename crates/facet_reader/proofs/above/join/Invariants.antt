use Rattle.std.proofs.Common.{◌≡◌, ◌-◌, ◌∷◌, [], take, get_or}
use Rattle.std.specs.List.{flat_map}
use Rattle.facet_reader.proofs.above.join.Given as goal

abbrev pub invariant-loop-point : goal.invariant-loop-point
invariant-loop-point l = l.row.items ≡ flat_map (λ y. y ∷ get_or l.above (l.points - y) []) (take l.point-index l.next)
