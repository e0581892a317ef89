use Rattle.std.proofs.Common.{◌≡◌, ◌++◌, map}
use Rattle.face_poset.specs.Words.{upto}
use Rattle.order_complex.specs.Chains.{faces_of}
use Rattle.order_complex.proofs.faces.push_faces.Given as goal

abbrev pub invariant-loop-index : goal.invariant-loop-index
invariant-loop-index l = l.faces ≡ l.initial.faces ++ map (faces_of l.space l.dim) (upto l.index)
