use Rattle.std.proofs.Common.{unwrap_or}
use Rattle.chosen_field.specs.Chosen.{tree_edge}
use Rattle.chosen_field.specs.Rests.{left_of}
use Rattle.chosen_field.proofs.GivenUppers.{map-more}
use Rattle.chosen_field.proofs.tree_edges.tree_edges.Goals as goal

pub loop-index-preserved : goal.loop-index-preserved
loop-index-preserved g c =
    map-more (λ v. unwrap_or (tree_edge (g.G.Graded.space c.args.graded.now) (left_of c.args.flags.now) c.args.numbers.now v) 0) c.loop-index.edges.items c.push.new.self.items c.loop-index.index c.tree_edge.result c.loop-index.invariant
    c.in_ok-push.ensures.items c.tree_edge.ensures
