use Rattle.std.proofs.Common.{◌≡◌, take, length}
use Rattle.face_poset.specs.Tops.{kept}
use Rattle.face_poset.proofs.reader.count_layers.Given as goal

abbrev pub invariant-loop-index : goal.invariant-loop-index
invariant-loop-index l = l.layers ≡ length (kept (take l.index l.tops))
