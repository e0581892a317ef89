use Rattle.std.proofs.Common.{◌≤◌, ℕ, List, ap, sym, ◌∙◌, subst}
use Rattle.order_complex.specs.Chains.{chain_count}
use Rattle.order_complex.specs.Complex.{chain_layers, stored_facets}
use Rattle.order_complex.proofs.Held.{points-rise, edges-rise, triangles-rise, few-edges, few-triangles, few-tetrahedra, cofaces-are}
use Rattle.order_complex.proofs.chains.Chains.list.Goals as goal

pub new-requires-2-clause-few : goal.new-requires-2-clause-few
new-requires-2-clause-few c = subst (λ (s : List (List (List ℕ))). chain_count s ≤ 4294967295) (sym c.in_ok-uppers.ensures) c.requires

pub new-requires-3-clause-points : goal.new-requires-3-clause-points
new-requires-3-clause-points c = points-rise c.args.space.now c.in_ok-chains.chains c.in_ok-facets.facets (c.in_ok-chains.ensures ∙ ap chain_layers c.in_ok-uppers.ensures) (c.in_ok-facets.ensures ∙ ap stored_facets c.in_ok-uppers.ensures) c.requires

pub new-requires-3-clause-edges : goal.new-requires-3-clause-edges
new-requires-3-clause-edges c = edges-rise c.args.space.now c.in_ok-chains.chains c.in_ok-facets.facets (c.in_ok-chains.ensures ∙ ap chain_layers c.in_ok-uppers.ensures) (c.in_ok-facets.ensures ∙ ap stored_facets c.in_ok-uppers.ensures) c.requires

pub new-requires-3-clause-triangles : goal.new-requires-3-clause-triangles
new-requires-3-clause-triangles c = triangles-rise c.args.space.now c.in_ok-chains.chains c.in_ok-facets.facets (c.in_ok-chains.ensures ∙ ap chain_layers c.in_ok-uppers.ensures) (c.in_ok-facets.ensures ∙ ap stored_facets c.in_ok-uppers.ensures) c.requires

pub new-requires-3-clause-few_edges : goal.new-requires-3-clause-few_edges
new-requires-3-clause-few_edges c = few-edges c.args.space.now c.in_ok-chains.chains c.in_ok-facets.facets (c.in_ok-chains.ensures ∙ ap chain_layers c.in_ok-uppers.ensures) (c.in_ok-facets.ensures ∙ ap stored_facets c.in_ok-uppers.ensures) c.requires

pub new-requires-3-clause-few_triangles : goal.new-requires-3-clause-few_triangles
new-requires-3-clause-few_triangles c = few-triangles c.args.space.now c.in_ok-chains.chains c.in_ok-facets.facets (c.in_ok-chains.ensures ∙ ap chain_layers c.in_ok-uppers.ensures) (c.in_ok-facets.ensures ∙ ap stored_facets c.in_ok-uppers.ensures) c.requires

pub new-requires-3-clause-few_tetrahedra : goal.new-requires-3-clause-few_tetrahedra
new-requires-3-clause-few_tetrahedra c = few-tetrahedra c.args.space.now c.in_ok-chains.chains c.in_ok-facets.facets (c.in_ok-chains.ensures ∙ ap chain_layers c.in_ok-uppers.ensures) (c.in_ok-facets.ensures ∙ ap stored_facets c.in_ok-uppers.ensures) c.requires

pub invariant_of-result : goal.invariant_of-result
invariant_of-result c = (c.in_ok-chains.ensures ∙ ap chain_layers c.in_ok-uppers.ensures, c.in_ok-facets.ensures ∙ ap stored_facets c.in_ok-uppers.ensures, cofaces-are c.args.space.now c.in_ok-chains.chains c.in_ok-facets.facets (c.in_ok-chains.ensures ∙ ap chain_layers c.in_ok-uppers.ensures) (c.in_ok-facets.ensures ∙ ap stored_facets c.in_ok-uppers.ensures) c.requires c.in_ok-cofaces.cofaces c.in_ok-cofaces.ensures, c.requires)
