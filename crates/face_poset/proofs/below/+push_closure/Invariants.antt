use Rattle.face_poset.proofs.below.+push_closure.Given as goal

abbrev pub decreases-push_closure : goal.decreases-push_closure
decreases-push_closure l = l.dim
