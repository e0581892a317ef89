use Rattle.std.proofs.Common.{◌≡◌, ◌+◌, length}
use Rattle.face_poset.specs.Poset.{count}
use Rattle.vector_field.proofs.Making.{IsMaking}
use Rattle.vector_field.proofs.faces.free_pairs.Given as goal

abbrev pub invariant-loop-turn : goal.invariant-loop-turn
invariant-loop-turn g l =
    (l.rest.most ≡ count (g.G.Graded.space l.graded) l.dim)
    × (length l.rest.cells ≡ count (g.G.Graded.space l.graded) (l.dim + 1))
    × IsMaking (g.G.Graded.space l.graded) l.dim l.pairing.pairs l.made.items l.rest.cells
