use Rattle.std.proofs.Common.{◌≡◌, None, map}
use Rattle.number_lists.specs.Words.{upto}
use Rattle.part_groups.specs.Groups.{group_in, long_in, first_of}
use Rattle.part_groups.proofs.listing.all_groups.Given as goal

abbrev pub invariant-loop-index : goal.invariant-loop-index
invariant-loop-index l = record {
  groups : l.groups.items ≡ map (group_in l.regular) (upto l.index);
  short : first_of (map (long_in l.regular) (upto l.index)) ≡ None;
}
