use Rattle.std.proofs.Common.{◌≡◌, ◌≤◌, ◌*◌, take, length, map, sum_by}
use Rattle.face_poset.specs.Tops.{inner}
use Rattle.face_poset.proofs.reader.count_cells.Given as goal

abbrev pub invariant-loop-index : goal.invariant-loop-index
invariant-loop-index l = record {
  sum : l.cells ≡ sum_by (λ cells. length cells) (take l.index (map inner l.tops));
  bound : l.cells ≤ l.index * 4294967296;
}
