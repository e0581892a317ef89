use Rattle.std.proofs.Common.{◌≡◌, ◌≤◌, ◌+◌, ◌-◌, None, map}
use Rattle.std.specs.List.{range_with_len}
use Rattle.regular_check.specs.Components.{component_count}
use Rattle.part_groups.specs.Groups.{presented_in, long_in, first_of}
use Rattle.part_groups.proofs.presenting.presentations_from.Given as goal

abbrev pub invariant-loop-index : goal.invariant-loop-index
invariant-loop-index l = record {
  from : l.first ≤ l.index + 1;
  within : l.index + 1 - l.first ≤ component_count l.regular + 1 - l.first;
  presentations : l.presentations.items ≡ map (presented_in l.regular) (range_with_len l.first (l.index + 1 - l.first));
  short : first_of (map (long_in l.regular) (range_with_len l.first (l.index + 1 - l.first))) ≡ None;
}
