use Rattle.std.proofs.Common.{◌≡◌}
use Rattle.face_poset.specs.Poset.{count}
use Rattle.vector_field.specs.Stages.{filled_upto}
use Rattle.vector_field.proofs.filling.fill.Given as goal

abbrev pub invariant-loop-index : goal.invariant-loop-index
invariant-loop-index g l =
    (l.found.most ≡ count (g.G.Graded.space l.graded) l.dim)
    × (l.pairing.counts ≡ l.fn.pairing.counts)
    × (l.pairing.pairs ≡ filled_upto (g.G.Graded.space l.graded) l.dim l.fn.pairing.pairs l.index)
