use Rattle.std.proofs.Common.{◌≡◌, ◌<◌, ◌&&◌, ℕ, false, get_or}
use Rattle.vector_field.specs.Stages.{is_left}
use Rattle.chosen_field.proofs.GivenUppers.{before}
use Rattle.chosen_field.proofs.tree_edges.tree_edge.Given as goal

abbrev pub invariant-loop-edge : goal.invariant-loop-edge
invariant-loop-edge g l = (k : ℕ) → k < l.edge-index → (is_left l.flags (get_or l.edges k 0) && before (g.G.Graded.space l.graded) l.numbers l.vertex (get_or l.edges k 0)) ≡ false
