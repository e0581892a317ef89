use Rattle.std.proofs.Common.{◌≡◌, ◌++◌, take, map}
use Rattle.face_poset.specs.Below.{cell_at}
use Rattle.face_poset.proofs.below.push_cells.Given as goal

abbrev pub invariant-loop-number : goal.invariant-loop-number
invariant-loop-number l = l.list ≡ l.initial.list ++ map (cell_at l.dim) (take l.number-index l.numbers)
