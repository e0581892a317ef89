use Rattle.std.proofs.Common.{◌≡◌}
use Rattle.number_lists.specs.Words.{upto}
use Rattle.facet_reader.proofs.partial_order.list_points.Given as goal

abbrev pub invariant-loop-index : goal.invariant-loop-index
invariant-loop-index l = l.points.items ≡ upto l.index
