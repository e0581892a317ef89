use Rattle.std.proofs.Common.{◌≡◌, ℕ, map, filter, not, take, length}
use Rattle.number_lists.specs.Words.{upto, holds}
use Rattle.sphere_collapses.specs.declared.tree.Taken.{Taken}
use Rattle.sphere_collapses.specs.Places.{number_at}
use Rattle.sphere_collapses.proofs.collapse.list_left.Given as goal

abbrev pub invariant-loop-taken : goal.invariant-loop-taken
invariant-loop-taken l = (l.links.most ≡ length l.edges) × ((p : ℕ) → holds l.links.found p ≡ holds (map (λ (t : Taken). t.link) (take l.taken-index l.tree)) p)

abbrev pub invariant-loop-index : goal.invariant-loop-index
invariant-loop-index l = l.left.items ≡ map (number_at l.edges) (filter (λ p. not (holds (map (λ (t : Taken). t.link) l.tree) p)) (upto l.index))
