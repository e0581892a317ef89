use Rattle.std.proofs.Common.{◌≡◌, take, Ok}
use Rattle.face_poset.specs.Reader.{each_from, cell_from}
use Rattle.face_poset.proofs.reader.read_cells.Given as goal

abbrev pub invariant-loop-index : goal.invariant-loop-index
invariant-loop-index l = each_from 1 (cell_from l.dim l.below) (take l.index l.items) ≡ Ok l.cells
