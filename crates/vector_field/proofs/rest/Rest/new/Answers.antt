use Rattle.std.proofs.Common.{◌≡◌, ℕ, ◌+◌, List, Bool, true, length, ap, subst, arith}
use Rattle.number_lists.specs.Words.{holds}
use Rattle.face_poset.specs.Poset.{cofaces_of}
use Rattle.number_lists.proofs.CallerLemmas.{holds-In}
use Rattle.vector_field.proofs.MaximalTest.{cofaces-In}
use Rattle.vector_field.proofs.rest.Rest.new.Goals as goal

pub count-requires-clause-cells : goal.count-requires-clause-cells
count-requires-clause-cells g c cell e =
    let space : List (List (List ℕ)) = g.G.Graded.space c.args.graded.now in
    let k = cofaces-In space c.args.dim (c.loop-index.index + 1) cell (holds-In (cofaces_of space c.args.dim (c.loop-index.index + 1)) (subst (λ (us : List ℕ). holds us cell ≡ true) c.cofaces.ensures.cofaces e)) in
    (k.first, omega (arith, k.last, ap (λ (cs : List Bool). length cs) c.loop-index.invariant.1, c.in_ok-cells.ensures.len, c.cells.ensures.cells))
