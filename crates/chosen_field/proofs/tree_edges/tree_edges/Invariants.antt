use Rattle.std.proofs.Common.{◌≡◌, map, unwrap_or}
use Rattle.number_lists.specs.Words.{upto}
use Rattle.chosen_field.specs.Chosen.{tree_edge}
use Rattle.chosen_field.specs.Rests.{left_of}
use Rattle.chosen_field.proofs.tree_edges.tree_edges.Given as goal

abbrev pub invariant-loop-index : goal.invariant-loop-index
invariant-loop-index g l = l.edges.items ≡ map (λ v. unwrap_or (tree_edge (g.G.Graded.space l.graded) (left_of l.flags) l.numbers v) 0) (upto l.index)
