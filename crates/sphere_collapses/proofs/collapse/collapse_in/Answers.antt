use Rattle.std.proofs.Common.{◌≡◌, ◌≤◌, ℕ, List, length, ap, sym, ◌∙◌, subst, arith, All, Contains}
use Rattle.std.specs.List.Sorted.{IsStrictlyIncreasing}
use Rattle.face_poset.specs.Poset.{count, facets_of}
use Rattle.sphere_collapses.specs.declared.tree.Taken.{Taken}
use Rattle.sphere_collapses.specs.Spheres.{edges_below, vertices_below}
use Rattle.sphere_collapses.specs.Places.{AreFacetPlaces}
use Rattle.sphere_collapses.specs.Trees.{IsDualTree, IsTree, IsLink, edges_left}
use Rattle.sphere_collapses.proofs.Collapses.{vertices_rise, links_fit, search_collapses}
use Rattle.sphere_collapses.proofs.Given.{edges_few, vertices_few, disks_in, edges_in, ends_there, left_in, dual_links, dual_placed, dual_few, left_inside, ends_few, vertex_some, primal_placed, primal_few}
use Rattle.sphere_collapses.proofs.Facts.{edges_fact, vertices_fact, dual_fact, left_fact, ends_fact, count_fact, primal_fact, placed_fact, pairs_fact}
use Rattle.sphere_collapses.proofs.collapse.collapse_in.Goals as goal

pub facets_below-requires-clause-cells : goal.facets_below-requires-clause-cells
facets_below-requires-clause-cells c =
    subst (All (λ x. (1 ≤ x) × (x ≤ count c.args.space.now 2))) (sym c.facets-disks.ensures.facets) (disks_in c.args.space.now c.args.cell c.args.face c.requires.valid c.requires.limited c.requires.regular c.requires.face)

pub facets_below-requires-2-clause-cells : goal.facets_below-requires-2-clause-cells
facets_below-requires-2-clause-cells c =
    let edges : c.in_ok-edges.edges.items ≡ edges_below c.args.space.now c.args.cell = edges_fact c.args.space.now c.args.cell c.facets-disks.result.now c.in_ok-edges.edges.items c.facets-disks.ensures.facets c.in_ok-edges.ensures in
    subst (All (λ x. (1 ≤ x) × (x ≤ count c.args.space.now 1))) (sym (c.deref.ensures.value ∙ edges)) (edges_in c.args.space.now c.args.cell c.args.face c.requires.valid c.requires.limited c.requires.regular c.requires.face)

pub grow_disks-requires-clause-edges : goal.grow_disks-requires-clause-edges
grow_disks-requires-clause-edges c =
    let edges : c.in_ok-edges.edges.items ≡ edges_below c.args.space.now c.args.cell = edges_fact c.args.space.now c.args.cell c.facets-disks.result.now c.in_ok-edges.edges.items c.facets-disks.ensures.facets c.in_ok-edges.ensures in
    c.deref-2.ensures.value ∙ edges

pub list_left-requires-clause-tree : goal.list_left-requires-clause-tree
list_left-requires-clause-tree c =
    let edges : c.in_ok-edges.edges.items ≡ edges_below c.args.space.now c.args.cell = edges_fact c.args.space.now c.args.cell c.facets-disks.result.now c.in_ok-edges.edges.items c.facets-disks.ensures.facets c.in_ok-edges.ensures in
    let dual : IsDualTree c.args.space.now (facets_of c.args.space.now 3 c.args.cell) (edges_below c.args.space.now c.args.cell) c.args.face c.in_ok-dual.dual.items = dual_fact c.args.space.now c.args.cell c.args.face c.in_ok-edges.edges.items c.deref-2.result.now c.in_ok-dual.dual.items edges c.deref-2.ensures.value c.in_ok-dual.ensures in
    subst (λ (ts : List Taken). All (λ (t : Taken). (1 ≤ t.link) × (t.link ≤ length c.deref-3.result.now)) ts) (sym c.deref-4.ensures.value)
    (subst (λ (es : List ℕ). All (λ (t : Taken). (1 ≤ t.link) × (t.link ≤ length es)) c.in_ok-dual.dual.items) (sym (c.deref-3.ensures.value ∙ edges)) (dual_links c.args.space.now c.args.cell c.args.face c.requires.valid c.requires.limited c.requires.regular c.requires.face c.in_ok-dual.dual.items dual))

pub list_left-requires-clause-few : goal.list_left-requires-clause-few
list_left-requires-clause-few c =
    let edges : c.in_ok-edges.edges.items ≡ edges_below c.args.space.now c.args.cell = edges_fact c.args.space.now c.args.cell c.facets-disks.result.now c.in_ok-edges.edges.items c.facets-disks.ensures.facets c.in_ok-edges.ensures in
    omega (arith, ap length (c.deref-3.ensures.value ∙ edges), edges_few c.args.space.now c.args.cell c.args.face c.requires.valid c.requires.limited c.requires.regular c.requires.face)

pub facet_places-requires-clause-cells : goal.facet_places-requires-clause-cells
facet_places-requires-clause-cells c =
    let edges : c.in_ok-edges.edges.items ≡ edges_below c.args.space.now c.args.cell = edges_fact c.args.space.now c.args.cell c.facets-disks.result.now c.in_ok-edges.edges.items c.facets-disks.ensures.facets c.in_ok-edges.ensures in
    let dual : IsDualTree c.args.space.now (facets_of c.args.space.now 3 c.args.cell) (edges_below c.args.space.now c.args.cell) c.args.face c.in_ok-dual.dual.items = dual_fact c.args.space.now c.args.cell c.args.face c.in_ok-edges.edges.items c.deref-2.result.now c.in_ok-dual.dual.items edges c.deref-2.ensures.value c.in_ok-dual.ensures in
    let left : c.in_ok-left.left.items ≡ edges_left (edges_below c.args.space.now c.args.cell) c.in_ok-dual.dual.items = left_fact c.args.space.now c.args.cell c.in_ok-edges.edges.items c.deref-3.result.now c.in_ok-left.left.items c.deref-4.result.now c.in_ok-dual.dual.items edges c.deref-3.ensures.value c.deref-4.ensures.value c.in_ok-left.ensures in
    subst (All (λ x. (1 ≤ x) × (x ≤ count c.args.space.now 1))) (sym c.deref-5.ensures.value) (left_in c.args.space.now c.args.cell c.args.face c.requires.valid c.requires.limited c.requires.regular c.requires.face c.in_ok-left.left.items (left_inside c.args.space.now c.args.cell c.args.face c.requires.valid c.requires.limited c.requires.regular c.requires.face c.in_ok-dual.dual.items dual c.cycles_go_round.ensures c.in_ok-left.left.items left))

pub facet_places-requires-clause-rises : goal.facet_places-requires-clause-rises
facet_places-requires-clause-rises c =
    let edges : c.in_ok-edges.edges.items ≡ edges_below c.args.space.now c.args.cell = edges_fact c.args.space.now c.args.cell c.facets-disks.result.now c.in_ok-edges.edges.items c.facets-disks.ensures.facets c.in_ok-edges.ensures in
    let vertices : c.in_ok-vertices.vertices.items ≡ vertices_below c.args.space.now c.args.cell = vertices_fact c.args.space.now c.args.cell c.in_ok-edges.edges.items c.deref.result.now c.in_ok-vertices.vertices.items edges c.deref.ensures.value c.in_ok-vertices.ensures in
    subst IsStrictlyIncreasing (sym (c.deref-6.ensures.value ∙ vertices)) (vertices_rise c.args.space.now c.args.cell c.args.face c.requires.valid c.requires.regular c.requires.face)

pub facet_places-requires-clause-few : goal.facet_places-requires-clause-few
facet_places-requires-clause-few c =
    let edges : c.in_ok-edges.edges.items ≡ edges_below c.args.space.now c.args.cell = edges_fact c.args.space.now c.args.cell c.facets-disks.result.now c.in_ok-edges.edges.items c.facets-disks.ensures.facets c.in_ok-edges.ensures in
    let vertices : c.in_ok-vertices.vertices.items ≡ vertices_below c.args.space.now c.args.cell = vertices_fact c.args.space.now c.args.cell c.in_ok-edges.edges.items c.deref.result.now c.in_ok-vertices.vertices.items edges c.deref.ensures.value c.in_ok-vertices.ensures in
    omega (arith, ap length (c.deref-6.ensures.value ∙ vertices), vertices_few c.args.space.now c.args.cell c.args.face c.requires.valid c.requires.limited c.requires.regular c.requires.face)

pub facet_places-requires-clause-there : goal.facet_places-requires-clause-there
facet_places-requires-clause-there c =
    let edges : c.in_ok-edges.edges.items ≡ edges_below c.args.space.now c.args.cell = edges_fact c.args.space.now c.args.cell c.facets-disks.result.now c.in_ok-edges.edges.items c.facets-disks.ensures.facets c.in_ok-edges.ensures in
    let vertices : c.in_ok-vertices.vertices.items ≡ vertices_below c.args.space.now c.args.cell = vertices_fact c.args.space.now c.args.cell c.in_ok-edges.edges.items c.deref.result.now c.in_ok-vertices.vertices.items edges c.deref.ensures.value c.in_ok-vertices.ensures in
    let dual : IsDualTree c.args.space.now (facets_of c.args.space.now 3 c.args.cell) (edges_below c.args.space.now c.args.cell) c.args.face c.in_ok-dual.dual.items = dual_fact c.args.space.now c.args.cell c.args.face c.in_ok-edges.edges.items c.deref-2.result.now c.in_ok-dual.dual.items edges c.deref-2.ensures.value c.in_ok-dual.ensures in
    let left : c.in_ok-left.left.items ≡ edges_left (edges_below c.args.space.now c.args.cell) c.in_ok-dual.dual.items = left_fact c.args.space.now c.args.cell c.in_ok-edges.edges.items c.deref-3.result.now c.in_ok-left.left.items c.deref-4.result.now c.in_ok-dual.dual.items edges c.deref-3.ensures.value c.deref-4.ensures.value c.in_ok-left.ensures in
    subst (λ (vs : List ℕ). All (λ x. All (Contains vs) (facets_of c.args.space.now 1 x)) c.deref-5.result.now) (sym (c.deref-6.ensures.value ∙ vertices))
    (subst (λ (ls : List ℕ). All (λ x. All (Contains (vertices_below c.args.space.now c.args.cell)) (facets_of c.args.space.now 1 x)) ls) (sym c.deref-5.ensures.value) (ends_there c.args.space.now c.args.cell c.args.face c.requires.valid c.requires.limited c.requires.regular c.requires.face c.in_ok-left.left.items (left_inside c.args.space.now c.args.cell c.args.face c.requires.valid c.requires.limited c.requires.regular c.requires.face c.in_ok-dual.dual.items dual c.cycles_go_round.ensures c.in_ok-left.left.items left)))

pub grow-requires-clause-links : goal.grow-requires-clause-links
grow-requires-clause-links c =
    let edges : c.in_ok-edges.edges.items ≡ edges_below c.args.space.now c.args.cell = edges_fact c.args.space.now c.args.cell c.facets-disks.result.now c.in_ok-edges.edges.items c.facets-disks.ensures.facets c.in_ok-edges.ensures in
    let vertices : c.in_ok-vertices.vertices.items ≡ vertices_below c.args.space.now c.args.cell = vertices_fact c.args.space.now c.args.cell c.in_ok-edges.edges.items c.deref.result.now c.in_ok-vertices.vertices.items edges c.deref.ensures.value c.in_ok-vertices.ensures in
    let dual : IsDualTree c.args.space.now (facets_of c.args.space.now 3 c.args.cell) (edges_below c.args.space.now c.args.cell) c.args.face c.in_ok-dual.dual.items = dual_fact c.args.space.now c.args.cell c.args.face c.in_ok-edges.edges.items c.deref-2.result.now c.in_ok-dual.dual.items edges c.deref-2.ensures.value c.in_ok-dual.ensures in
    let left : c.in_ok-left.left.items ≡ edges_left (edges_below c.args.space.now c.args.cell) c.in_ok-dual.dual.items = left_fact c.args.space.now c.args.cell c.in_ok-edges.edges.items c.deref-3.result.now c.in_ok-left.left.items c.deref-4.result.now c.in_ok-dual.dual.items edges c.deref-3.ensures.value c.deref-4.ensures.value c.in_ok-left.ensures in
    let ends : AreFacetPlaces c.args.space.now 1 (vertices_below c.args.space.now c.args.cell) c.in_ok-left.left.items c.in_ok-ends.ends = ends_fact c.args.space.now c.args.cell c.in_ok-vertices.vertices.items c.deref-6.result.now c.in_ok-left.left.items c.deref-5.result.now c.in_ok-ends.ends vertices c.deref-6.ensures.value c.deref-5.ensures.value c.in_ok-ends.ensures in
    let many : c.len.result ≡ length (vertices_below c.args.space.now c.args.cell) = count_fact c.args.space.now c.args.cell c.in_ok-vertices.vertices.items c.len.result vertices (c.len.ensures ∙ c.in_ok-vertices.vertices.ok.0) in
    subst (λ (n : ℕ). All (IsLink n) c.in_ok-ends.ends) (sym many) (links_fit c.args.space.now c.args.cell c.args.face c.requires.valid c.requires.regular c.requires.face c.cycles_go_round.ensures c.in_ok-dual.dual.items dual c.in_ok-left.left.items left c.in_ok-ends.ends ends)

pub grow-requires-clause-few : goal.grow-requires-clause-few
grow-requires-clause-few c =
    let edges : c.in_ok-edges.edges.items ≡ edges_below c.args.space.now c.args.cell = edges_fact c.args.space.now c.args.cell c.facets-disks.result.now c.in_ok-edges.edges.items c.facets-disks.ensures.facets c.in_ok-edges.ensures in
    let vertices : c.in_ok-vertices.vertices.items ≡ vertices_below c.args.space.now c.args.cell = vertices_fact c.args.space.now c.args.cell c.in_ok-edges.edges.items c.deref.result.now c.in_ok-vertices.vertices.items edges c.deref.ensures.value c.in_ok-vertices.ensures in
    let dual : IsDualTree c.args.space.now (facets_of c.args.space.now 3 c.args.cell) (edges_below c.args.space.now c.args.cell) c.args.face c.in_ok-dual.dual.items = dual_fact c.args.space.now c.args.cell c.args.face c.in_ok-edges.edges.items c.deref-2.result.now c.in_ok-dual.dual.items edges c.deref-2.ensures.value c.in_ok-dual.ensures in
    let left : c.in_ok-left.left.items ≡ edges_left (edges_below c.args.space.now c.args.cell) c.in_ok-dual.dual.items = left_fact c.args.space.now c.args.cell c.in_ok-edges.edges.items c.deref-3.result.now c.in_ok-left.left.items c.deref-4.result.now c.in_ok-dual.dual.items edges c.deref-3.ensures.value c.deref-4.ensures.value c.in_ok-left.ensures in
    let ends : AreFacetPlaces c.args.space.now 1 (vertices_below c.args.space.now c.args.cell) c.in_ok-left.left.items c.in_ok-ends.ends = ends_fact c.args.space.now c.args.cell c.in_ok-vertices.vertices.items c.deref-6.result.now c.in_ok-left.left.items c.deref-5.result.now c.in_ok-ends.ends vertices c.deref-6.ensures.value c.deref-5.ensures.value c.in_ok-ends.ensures in
    ends_few c.args.space.now c.args.cell c.args.face c.requires.valid c.requires.limited c.requires.regular c.requires.face c.in_ok-dual.dual.items dual c.cycles_go_round.ensures c.in_ok-left.left.items left c.in_ok-ends.ends ends

pub grow-requires-clause-last : goal.grow-requires-clause-last
grow-requires-clause-last c =
    let edges : c.in_ok-edges.edges.items ≡ edges_below c.args.space.now c.args.cell = edges_fact c.args.space.now c.args.cell c.facets-disks.result.now c.in_ok-edges.edges.items c.facets-disks.ensures.facets c.in_ok-edges.ensures in
    let vertices : c.in_ok-vertices.vertices.items ≡ vertices_below c.args.space.now c.args.cell = vertices_fact c.args.space.now c.args.cell c.in_ok-edges.edges.items c.deref.result.now c.in_ok-vertices.vertices.items edges c.deref.ensures.value c.in_ok-vertices.ensures in
    let dual : IsDualTree c.args.space.now (facets_of c.args.space.now 3 c.args.cell) (edges_below c.args.space.now c.args.cell) c.args.face c.in_ok-dual.dual.items = dual_fact c.args.space.now c.args.cell c.args.face c.in_ok-edges.edges.items c.deref-2.result.now c.in_ok-dual.dual.items edges c.deref-2.ensures.value c.in_ok-dual.ensures in
    let left : c.in_ok-left.left.items ≡ edges_left (edges_below c.args.space.now c.args.cell) c.in_ok-dual.dual.items = left_fact c.args.space.now c.args.cell c.in_ok-edges.edges.items c.deref-3.result.now c.in_ok-left.left.items c.deref-4.result.now c.in_ok-dual.dual.items edges c.deref-3.ensures.value c.deref-4.ensures.value c.in_ok-left.ensures in
    let many : c.len.result ≡ length (vertices_below c.args.space.now c.args.cell) = count_fact c.args.space.now c.args.cell c.in_ok-vertices.vertices.items c.len.result vertices (c.len.ensures ∙ c.in_ok-vertices.vertices.ok.0) in
    omega (arith, many, vertex_some c.args.space.now c.args.cell c.args.face c.requires.valid c.requires.limited c.requires.regular c.requires.face c.in_ok-dual.dual.items dual c.cycles_go_round.ensures c.in_ok-left.left.items left)

pub list_pairs-requires-clause-dual : goal.list_pairs-requires-clause-dual
list_pairs-requires-clause-dual c =
    let edges : c.in_ok-edges.edges.items ≡ edges_below c.args.space.now c.args.cell = edges_fact c.args.space.now c.args.cell c.facets-disks.result.now c.in_ok-edges.edges.items c.facets-disks.ensures.facets c.in_ok-edges.ensures in
    let dual : IsDualTree c.args.space.now (facets_of c.args.space.now 3 c.args.cell) (edges_below c.args.space.now c.args.cell) c.args.face c.in_ok-dual.dual.items = dual_fact c.args.space.now c.args.cell c.args.face c.in_ok-edges.edges.items c.deref-2.result.now c.in_ok-dual.dual.items edges c.deref-2.ensures.value c.in_ok-dual.ensures in
    placed_fact (facets_of c.args.space.now 3 c.args.cell) (edges_below c.args.space.now c.args.cell) c.facets-disks.result.now c.deref-7.result.now c.in_ok-dual.dual.items c.deref-8.result.now c.facets-disks.ensures.facets (c.deref-7.ensures.value ∙ edges) c.deref-8.ensures.value (dual_placed c.args.space.now c.args.cell c.args.face c.requires.valid c.requires.limited c.requires.regular c.requires.face c.in_ok-dual.dual.items dual)

pub list_pairs-requires-clause-primal : goal.list_pairs-requires-clause-primal
list_pairs-requires-clause-primal c =
    let edges : c.in_ok-edges.edges.items ≡ edges_below c.args.space.now c.args.cell = edges_fact c.args.space.now c.args.cell c.facets-disks.result.now c.in_ok-edges.edges.items c.facets-disks.ensures.facets c.in_ok-edges.ensures in
    let vertices : c.in_ok-vertices.vertices.items ≡ vertices_below c.args.space.now c.args.cell = vertices_fact c.args.space.now c.args.cell c.in_ok-edges.edges.items c.deref.result.now c.in_ok-vertices.vertices.items edges c.deref.ensures.value c.in_ok-vertices.ensures in
    let dual : IsDualTree c.args.space.now (facets_of c.args.space.now 3 c.args.cell) (edges_below c.args.space.now c.args.cell) c.args.face c.in_ok-dual.dual.items = dual_fact c.args.space.now c.args.cell c.args.face c.in_ok-edges.edges.items c.deref-2.result.now c.in_ok-dual.dual.items edges c.deref-2.ensures.value c.in_ok-dual.ensures in
    let left : c.in_ok-left.left.items ≡ edges_left (edges_below c.args.space.now c.args.cell) c.in_ok-dual.dual.items = left_fact c.args.space.now c.args.cell c.in_ok-edges.edges.items c.deref-3.result.now c.in_ok-left.left.items c.deref-4.result.now c.in_ok-dual.dual.items edges c.deref-3.ensures.value c.deref-4.ensures.value c.in_ok-left.ensures in
    let ends : AreFacetPlaces c.args.space.now 1 (vertices_below c.args.space.now c.args.cell) c.in_ok-left.left.items c.in_ok-ends.ends = ends_fact c.args.space.now c.args.cell c.in_ok-vertices.vertices.items c.deref-6.result.now c.in_ok-left.left.items c.deref-5.result.now c.in_ok-ends.ends vertices c.deref-6.ensures.value c.deref-5.ensures.value c.in_ok-ends.ensures in
    let many : c.len.result ≡ length (vertices_below c.args.space.now c.args.cell) = count_fact c.args.space.now c.args.cell c.in_ok-vertices.vertices.items c.len.result vertices (c.len.ensures ∙ c.in_ok-vertices.vertices.ok.0) in
    let primal : IsTree c.in_ok-ends.ends (length (vertices_below c.args.space.now c.args.cell)) 1 c.in_ok-primal.primal.items = primal_fact c.args.space.now c.args.cell c.len.result c.in_ok-ends.ends c.in_ok-primal.primal.items many c.in_ok-primal.ensures in
    placed_fact (vertices_below c.args.space.now c.args.cell) c.in_ok-left.left.items c.deref-9.result.now c.deref-10.result.now c.in_ok-primal.primal.items c.deref-11.result.now (c.deref-9.ensures.value ∙ vertices) c.deref-10.ensures.value c.deref-11.ensures.value (primal_placed c.args.space.now c.args.cell c.args.face c.requires.valid c.requires.limited c.requires.regular c.requires.face c.in_ok-dual.dual.items dual c.cycles_go_round.ensures c.in_ok-left.left.items left c.in_ok-ends.ends c.in_ok-primal.primal.items ends primal)

pub list_pairs-requires-clause-dual_few : goal.list_pairs-requires-clause-dual_few
list_pairs-requires-clause-dual_few c =
    let edges : c.in_ok-edges.edges.items ≡ edges_below c.args.space.now c.args.cell = edges_fact c.args.space.now c.args.cell c.facets-disks.result.now c.in_ok-edges.edges.items c.facets-disks.ensures.facets c.in_ok-edges.ensures in
    let dual : IsDualTree c.args.space.now (facets_of c.args.space.now 3 c.args.cell) (edges_below c.args.space.now c.args.cell) c.args.face c.in_ok-dual.dual.items = dual_fact c.args.space.now c.args.cell c.args.face c.in_ok-edges.edges.items c.deref-2.result.now c.in_ok-dual.dual.items edges c.deref-2.ensures.value c.in_ok-dual.ensures in
    omega (arith, ap length c.deref-8.ensures.value, dual_few c.args.space.now c.args.cell c.args.face c.requires.valid c.requires.limited c.requires.regular c.requires.face c.in_ok-dual.dual.items dual)

pub list_pairs-requires-clause-primal_few : goal.list_pairs-requires-clause-primal_few
list_pairs-requires-clause-primal_few c =
    let edges : c.in_ok-edges.edges.items ≡ edges_below c.args.space.now c.args.cell = edges_fact c.args.space.now c.args.cell c.facets-disks.result.now c.in_ok-edges.edges.items c.facets-disks.ensures.facets c.in_ok-edges.ensures in
    let vertices : c.in_ok-vertices.vertices.items ≡ vertices_below c.args.space.now c.args.cell = vertices_fact c.args.space.now c.args.cell c.in_ok-edges.edges.items c.deref.result.now c.in_ok-vertices.vertices.items edges c.deref.ensures.value c.in_ok-vertices.ensures in
    let dual : IsDualTree c.args.space.now (facets_of c.args.space.now 3 c.args.cell) (edges_below c.args.space.now c.args.cell) c.args.face c.in_ok-dual.dual.items = dual_fact c.args.space.now c.args.cell c.args.face c.in_ok-edges.edges.items c.deref-2.result.now c.in_ok-dual.dual.items edges c.deref-2.ensures.value c.in_ok-dual.ensures in
    let left : c.in_ok-left.left.items ≡ edges_left (edges_below c.args.space.now c.args.cell) c.in_ok-dual.dual.items = left_fact c.args.space.now c.args.cell c.in_ok-edges.edges.items c.deref-3.result.now c.in_ok-left.left.items c.deref-4.result.now c.in_ok-dual.dual.items edges c.deref-3.ensures.value c.deref-4.ensures.value c.in_ok-left.ensures in
    let ends : AreFacetPlaces c.args.space.now 1 (vertices_below c.args.space.now c.args.cell) c.in_ok-left.left.items c.in_ok-ends.ends = ends_fact c.args.space.now c.args.cell c.in_ok-vertices.vertices.items c.deref-6.result.now c.in_ok-left.left.items c.deref-5.result.now c.in_ok-ends.ends vertices c.deref-6.ensures.value c.deref-5.ensures.value c.in_ok-ends.ensures in
    let many : c.len.result ≡ length (vertices_below c.args.space.now c.args.cell) = count_fact c.args.space.now c.args.cell c.in_ok-vertices.vertices.items c.len.result vertices (c.len.ensures ∙ c.in_ok-vertices.vertices.ok.0) in
    let primal : IsTree c.in_ok-ends.ends (length (vertices_below c.args.space.now c.args.cell)) 1 c.in_ok-primal.primal.items = primal_fact c.args.space.now c.args.cell c.len.result c.in_ok-ends.ends c.in_ok-primal.primal.items many c.in_ok-primal.ensures in
    omega (arith, ap length c.deref-11.ensures.value, primal_few c.args.space.now c.args.cell c.args.face c.requires.valid c.requires.limited c.requires.regular c.requires.face c.in_ok-dual.dual.items dual c.cycles_go_round.ensures c.in_ok-left.left.items left c.in_ok-ends.ends c.in_ok-primal.primal.items primal)

pub returns : goal.returns
returns c =
    let edges : c.in_ok-edges.edges.items ≡ edges_below c.args.space.now c.args.cell = edges_fact c.args.space.now c.args.cell c.facets-disks.result.now c.in_ok-edges.edges.items c.facets-disks.ensures.facets c.in_ok-edges.ensures in
    let vertices : c.in_ok-vertices.vertices.items ≡ vertices_below c.args.space.now c.args.cell = vertices_fact c.args.space.now c.args.cell c.in_ok-edges.edges.items c.deref.result.now c.in_ok-vertices.vertices.items edges c.deref.ensures.value c.in_ok-vertices.ensures in
    let dual : IsDualTree c.args.space.now (facets_of c.args.space.now 3 c.args.cell) (edges_below c.args.space.now c.args.cell) c.args.face c.in_ok-dual.dual.items = dual_fact c.args.space.now c.args.cell c.args.face c.in_ok-edges.edges.items c.deref-2.result.now c.in_ok-dual.dual.items edges c.deref-2.ensures.value c.in_ok-dual.ensures in
    let left : c.in_ok-left.left.items ≡ edges_left (edges_below c.args.space.now c.args.cell) c.in_ok-dual.dual.items = left_fact c.args.space.now c.args.cell c.in_ok-edges.edges.items c.deref-3.result.now c.in_ok-left.left.items c.deref-4.result.now c.in_ok-dual.dual.items edges c.deref-3.ensures.value c.deref-4.ensures.value c.in_ok-left.ensures in
    let ends : AreFacetPlaces c.args.space.now 1 (vertices_below c.args.space.now c.args.cell) c.in_ok-left.left.items c.in_ok-ends.ends = ends_fact c.args.space.now c.args.cell c.in_ok-vertices.vertices.items c.deref-6.result.now c.in_ok-left.left.items c.deref-5.result.now c.in_ok-ends.ends vertices c.deref-6.ensures.value c.deref-5.ensures.value c.in_ok-ends.ensures in
    let many : c.len.result ≡ length (vertices_below c.args.space.now c.args.cell) = count_fact c.args.space.now c.args.cell c.in_ok-vertices.vertices.items c.len.result vertices (c.len.ensures ∙ c.in_ok-vertices.vertices.ok.0) in
    let primal : IsTree c.in_ok-ends.ends (length (vertices_below c.args.space.now c.args.cell)) 1 c.in_ok-primal.primal.items = primal_fact c.args.space.now c.args.cell c.len.result c.in_ok-ends.ends c.in_ok-primal.primal.items many c.in_ok-primal.ensures in
    pairs_fact c.args.space.now c.args.cell c.args.face c.list_pairs.result c.facets-disks.result.now c.deref-7.result.now c.deref-9.result.now c.deref-10.result.now (facets_of c.args.space.now 3 c.args.cell) (edges_below c.args.space.now c.args.cell) (vertices_below c.args.space.now c.args.cell) c.in_ok-left.left.items c.deref-8.result.now c.deref-11.result.now c.in_ok-dual.dual.items c.in_ok-primal.primal.items
    c.facets-disks.ensures.facets (c.deref-7.ensures.value ∙ edges) (c.deref-9.ensures.value ∙ vertices) c.deref-10.ensures.value c.deref-8.ensures.value c.deref-11.ensures.value
    (search_collapses c.args.space.now c.args.cell c.args.face c.requires.valid c.requires.regular c.requires.face c.cycles_go_round.ensures c.in_ok-dual.dual.items dual c.in_ok-left.left.items left c.in_ok-ends.ends ends c.in_ok-primal.primal.items primal) c.list_pairs.ensures
