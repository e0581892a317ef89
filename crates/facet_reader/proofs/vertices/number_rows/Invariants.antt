use Rattle.std.proofs.Common.{◌≡◌, take, map}
use Rattle.facet_reader.specs.Simplices.{numbered_row}
use Rattle.facet_reader.proofs.vertices.number_rows.Given as goal

abbrev pub invariant-loop-index : goal.invariant-loop-index
invariant-loop-index l = l.numbered ≡ map (numbered_row l.vertices) (take l.index l.rows)
