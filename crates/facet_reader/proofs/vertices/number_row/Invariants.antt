use Rattle.std.proofs.Common.{◌≡◌, take, map}
use Rattle.facet_reader.specs.Simplices.{number_in}
use Rattle.facet_reader.proofs.vertices.number_row.Given as goal

abbrev pub invariant-loop-label : goal.invariant-loop-label
invariant-loop-label l = l.row.items ≡ map (number_in l.vertices) (take l.label-index l.labels)
