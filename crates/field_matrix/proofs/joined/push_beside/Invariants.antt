use Rattle.std.proofs.Common.{◌≡◌, ◌++◌, take}
use Rattle.linear_laws.specs.Marks.{mark}
use Rattle.field_matrix.proofs.joined.push_beside.Given as goal

abbrev pub invariant-loop-at : goal.invariant-loop-at
invariant-loop-at l = l.joined.items ≡ l.fn.joined.items ++ (l.row ++ take l.at (mark l.count l.place))
