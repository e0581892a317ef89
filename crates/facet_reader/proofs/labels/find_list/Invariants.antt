use Rattle.std.proofs.Common.{◌≡◌, take, None}
use Rattle.facet_reader.specs.Labels.{first_some, list_place}
use Rattle.facet_reader.proofs.labels.find_list.Given as goal

abbrev pub invariant-loop-index : goal.invariant-loop-index
invariant-loop-index l = first_some list_place (take l.index l.items) ≡ None
