use Rattle.std.proofs.Common.{◌≡◌, ℕ, List, true, IfOk, subst}
use Rattle.sphere_collapses.specs.Collapses.{boundary_less, collapses}
use Rattle.sphere_collapses.proofs.collapse.collapse_of.Goals as goal

pub returns : goal.returns
returns c = subst (λ (s : List (List (List ℕ))). IfOk c.collapse_in.result (λ pairs. collapses s (boundary_less s c.args.cell c.args.face) pairs ≡ true)) c.space-space.ensures.same c.collapse_in.ensures
