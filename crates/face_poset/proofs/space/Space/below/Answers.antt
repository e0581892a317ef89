use Rattle.std.proofs.Common.{◌≤◌, ℕ, List, length, ap, sym, subst, arith}
use Rattle.face_poset.specs.Poset.{count}
use Rattle.face_poset.proofs.SpaceLemmas.{dim_within}
use Rattle.face_poset.proofs.BelowLemmas.{closure-one}
use Rattle.face_poset.proofs.space.Space.below.Goals as goal

pub push_closure-requires-clause-room : goal.push_closure-requires-clause-room
push_closure-requires-clause-room c =
    let last : c.args.cell ≤ count c.self.inside.facets c.args.dim = subst (λ (s : List (List (List ℕ))). c.args.cell ≤ count s c.args.dim) (sym c.self.view_is) c.requires.last in
    let le : c.args.dim ≤ 3 = dim_within c.self.inside.facets c.args.dim c.self.invariant.0.layers (omega (arith, c.requires.first)) in
    omega (arith, ap length c.new-list.ensures, closure-one c.self.inside.facets c.args.dim c.args.cell c.self.invariant.0 c.self.invariant.1.most le)
