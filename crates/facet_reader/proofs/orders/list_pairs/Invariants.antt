use Rattle.std.proofs.Common.{◌≡◌, take, None, All}
use Rattle.std.specs.List.{flat_map}
use Rattle.facet_reader.specs.Labels.{first_some}
use Rattle.facet_reader.specs.Orders.{pair_fault, pair_in}
use Rattle.facet_reader.specs.Chains.{pairs_of, IsPair}
use Rattle.facet_reader.proofs.orders.list_pairs.Given as goal

abbrev pub invariant-loop-index : goal.invariant-loop-index
invariant-loop-index l = record {
  sound : first_some (pair_fault l.points) (take l.index l.items) ≡ None;
  pairs : pairs_of l.pairs ≡ flat_map pair_in (take l.index l.items);
  rising : All (IsPair l.points) l.pairs;
}
