use Rattle.std.proofs.Common.{◌≡◌, ℕ, ◌+◌, ◌-◌, ◌∷◌, ◌++◌, [], List, take, map, length}
use Rattle.face_poset.specs.declared.cells.Pair.{Pair}
use Rattle.vector_field.specs.Pairs.{pair}
use Rattle.local_field.specs.Towers.{build, local}
use Rattle.local_field.specs.Buildings.{building_at, flag_at}
use Rattle.local_field.specs.Listed.{number_under, numbered_under}
use Rattle.local_field.proofs.inside.+push_inside.Given as goal

abbrev pub decreases-push_inside : goal.decreases-push_inside
decreases-push_inside l = l.depth

abbrev pub invariant-loop-index : goal.invariant-loop-index
invariant-loop-index l =
    (collapse : ℕ → ℕ → List Pair)
    → l.pairs.items
    ≡ (l.fn.pairs.items
    ++ pair (0 + length l.above.items - 1) (number_under l.regular l.above.items []) (number_under l.regular l.above.items (l.built.root ∷ [])) ∷ [])
    ++ map (numbered_under l.regular l.above.items) (build (flag_at l.regular) (local (building_at l.regular collapse) (flag_at l.regular) (l.depth - 1)) [] (take l.index l.built.pairs))
