use Rattle.std.proofs.Common.{◌≡◌, ◌+◌, ◌==◌, false, take}
use Rattle.std.specs.List.{list_any}
use Rattle.chosen_field.specs.Listings.{at}
use Rattle.chosen_field.proofs.tree_edges.has_before.Given as goal

abbrev pub invariant-loop-vertex : goal.invariant-loop-vertex
invariant-loop-vertex l = list_any (λ w. (at l.numbers w + 1) == l.number) (take l.vertex-index l.vertices) ≡ false
