use Rattle.std.proofs.Common.{◌≡◌, take, None}
use Rattle.facet_reader.specs.Labels.{first_some, row_shape}
use Rattle.facet_reader.proofs.labels.find_shape.Given as goal

abbrev pub invariant-loop-index : goal.invariant-loop-index
invariant-loop-index l = first_some row_shape (take l.index l.items) ≡ None
