use Rattle.std.proofs.Common.{◌≡◌, true, take}
use Rattle.std.specs.List.{list_all}
use Rattle.face_poset.specs.Poset.{count, cofaces_of}
use Rattle.vector_field.specs.Maximal.{is_settled}
use Rattle.vector_field.proofs.maximal.are_settled_at.Given as goal

abbrev pub invariant-loop-lower : goal.invariant-loop-lower
invariant-loop-lower g l =
    (l.found.most ≡ count (g.G.Graded.space l.graded) l.dim)
    × (list_all (λ a. list_all (is_settled (g.G.Graded.space l.graded) l.field.pairs l.dim a) (cofaces_of (g.G.Graded.space l.graded) l.dim a)) (take l.lower-index l.lowers) ≡ true)
