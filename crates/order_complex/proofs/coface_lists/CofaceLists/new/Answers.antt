use Rattle.std.proofs.Common.{lit<, ◌≤◌, ℕ, List, [], All, length, get_or, sym, subst}
use Rattle.number_lists.specs.Cofaces.{IsRising}
use Rattle.order_complex.proofs.coface_lists.CofaceLists.new.Goals as goal

pub cofaces_over-requires : goal.cofaces_over-requires
cofaces_over-requires c = (
  lit< tt,
  (subst (λ m. All (IsRising m) c.edges.result.now) (sym c.len.ensures) (subst (All (IsRising (length (get_or c.args.chains.now 0 [])))) (sym c.edges.ensures) c.requires.points), subst (λ (xs : List (List ℕ)). length xs ≤ 4294967295) (sym c.edges.ensures) c.requires.few_edges),
)

pub cofaces_over-requires-2 : goal.cofaces_over-requires-2
cofaces_over-requires-2 c = (
  lit< tt,
  (subst (λ m. All (IsRising m) c.triangles.result.now) (sym c.len-2.ensures) (subst (All (IsRising (length (get_or c.args.chains.now 1 [])))) (sym c.triangles.ensures) c.requires.edges), subst (λ (xs : List (List ℕ)). length xs ≤ 4294967295) (sym c.triangles.ensures) c.requires.few_triangles),
)

pub cofaces_over-requires-3 : goal.cofaces_over-requires-3
cofaces_over-requires-3 c = (
  lit< tt,
  (subst (λ m. All (IsRising m) c.tetrahedra.result.now) (sym c.len-3.ensures) (subst (All (IsRising (length (get_or c.args.chains.now 2 [])))) (sym c.tetrahedra.ensures) c.requires.triangles), subst (λ (xs : List (List ℕ)). length xs ≤ 4294967295) (sym c.tetrahedra.ensures) c.requires.few_tetrahedra),
)
