use Rattle.std.proofs.Common.{◌≡◌, take, None}
use Rattle.facet_reader.specs.Labels.{first_some}
use Rattle.facet_reader.specs.Orders.{pair_shape}
use Rattle.facet_reader.proofs.orders.find_pair_shape.Given as goal

abbrev pub invariant-loop-index : goal.invariant-loop-index
invariant-loop-index l = first_some pair_shape (take l.index l.items) ≡ None
