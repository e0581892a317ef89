use Rattle.std.proofs.Common.{◌≡◌, map, take}
use Rattle.face_poset.specs.Below.{closed_cell}
use Rattle.order_complex.specs.Chains.{id_of}
use Rattle.order_complex.proofs.faces.face_ids.Given as goal

abbrev pub invariant-loop-index : goal.invariant-loop-index
invariant-loop-index l = l.ids.items ≡ map (id_of l.space) (take l.index (closed_cell l.space l.dim l.number))
