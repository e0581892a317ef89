use Rattle.std.proofs.Common.{◌≡◌, ◌≤◌, ℕ, List, length, ap, sym, ◌∙◌, subst, arith, All, Contains}
use Rattle.std.specs.List.Sorted.{IsStrictlyIncreasing}
use Rattle.face_poset.specs.declared.cells.Cell.{Cell}
use Rattle.face_poset.specs.Poset.{count, facets_of}
use Rattle.face_poset.specs.Below.{closed_cell}
use Rattle.sphere_collapses.specs.Places.{AreFacetPlaces}
use Rattle.sphere_collapses.specs.Trees.{IsLink}
use Rattle.cover_space.specs.Total.{below}
use Rattle.cover_space.specs.Making.{numbers_in}
use Rattle.cover_space.proofs.Rising.{below-rises}
use Rattle.cover_space.proofs.Walked.{some-vertex, vertices-few, edges-few, edges-in, ends-there, links-fit}
use Rattle.cover_space.proofs.closed.Inside.new.Goals as goal

-- what is listed of a closed cell
listed : (X : List (List (List ℕ))) (d c e : ℕ) (closed : List Cell) (numbers read : List ℕ) → read ≡ numbers → numbers ≡ numbers_in closed e → closed ≡ closed_cell X d c → read ≡ below X d c e
listed X d c e closed numbers read r n h = r ∙ (n ∙ ap (λ (cs : List Cell). numbers_in cs e) h)

pub facet_places-requires-clause-cells : goal.facet_places-requires-clause-cells
facet_places-requires-clause-cells c =
    subst (All (λ e. (1 ≤ e) × (e ≤ count c.args.space.now 1))) (sym (listed c.args.space.now c.args.dim c.args.cell 1 c.in_ok-closed.closed c.in_ok-edges.edges.items c.deref.result.now c.deref.ensures.value c.in_ok-edges.ensures c.in_ok-closed.ensures))
    (edges-in c.args.space.now c.requires.valid c.requires.limited c.requires.regular c.args.dim c.args.cell c.requires.cell)

pub facet_places-requires-clause-rises : goal.facet_places-requires-clause-rises
facet_places-requires-clause-rises c =
    subst IsStrictlyIncreasing (sym (listed c.args.space.now c.args.dim c.args.cell 0 c.in_ok-closed.closed c.in_ok-vertices.vertices.items c.deref-2.result.now c.deref-2.ensures.value c.in_ok-vertices.ensures c.in_ok-closed.ensures))
    (below-rises c.args.space.now c.args.dim c.args.cell 0)

pub facet_places-requires-clause-few : goal.facet_places-requires-clause-few
facet_places-requires-clause-few c =
    subst (λ (vs : List ℕ). length vs ≤ 4294967295) (sym (listed c.args.space.now c.args.dim c.args.cell 0 c.in_ok-closed.closed c.in_ok-vertices.vertices.items c.deref-2.result.now c.deref-2.ensures.value c.in_ok-vertices.ensures c.in_ok-closed.ensures))
    (vertices-few c.args.space.now c.requires.valid c.requires.limited c.requires.regular c.args.dim c.args.cell c.requires.cell)

pub facet_places-requires-clause-there : goal.facet_places-requires-clause-there
facet_places-requires-clause-there c =
    subst (λ (es : List ℕ). All (λ e. All (Contains c.deref-2.result.now) (facets_of c.args.space.now 1 e)) es) (sym (listed c.args.space.now c.args.dim c.args.cell 1 c.in_ok-closed.closed c.in_ok-edges.edges.items c.deref.result.now c.deref.ensures.value c.in_ok-edges.ensures c.in_ok-closed.ensures))
    (subst (λ (vs : List ℕ). All (λ e. All (Contains vs) (facets_of c.args.space.now 1 e)) (below c.args.space.now c.args.dim c.args.cell 1)) (sym (listed c.args.space.now c.args.dim c.args.cell 0 c.in_ok-closed.closed c.in_ok-vertices.vertices.items c.deref-2.result.now c.deref-2.ensures.value c.in_ok-vertices.ensures c.in_ok-closed.ensures))
    (ends-there c.args.space.now c.requires.valid c.requires.limited c.requires.regular c.args.dim c.args.cell c.requires.cell))

-- the ends, of the edges and vertices of the closed cell
ends_at : (X : List (List (List ℕ))) (d c : ℕ) (vertices edges : List ℕ) (ends : List (List ℕ)) → vertices ≡ below X d c 0 → edges ≡ below X d c 1 → AreFacetPlaces X 1 vertices edges ends → AreFacetPlaces X 1 (below X d c 0) (below X d c 1) ends
ends_at X d c vertices edges ends v e h = subst (λ (es : List ℕ). AreFacetPlaces X 1 (below X d c 0) es ends) e (subst (λ (vs : List ℕ). AreFacetPlaces X 1 vs edges ends) v h)

pub grow-requires-clause-links : goal.grow-requires-clause-links
grow-requires-clause-links c =
    let v : c.deref-2.result.now ≡ below c.args.space.now c.args.dim c.args.cell 0 = listed c.args.space.now c.args.dim c.args.cell 0 c.in_ok-closed.closed c.in_ok-vertices.vertices.items c.deref-2.result.now c.deref-2.ensures.value c.in_ok-vertices.ensures c.in_ok-closed.ensures in
    let w : length c.in_ok-vertices.vertices.items ≡ length (below c.args.space.now c.args.dim c.args.cell 0) = ap length (sym c.deref-2.ensures.value ∙ v) in
    let n : c.len.result ≡ length (below c.args.space.now c.args.dim c.args.cell 0) = omega (arith, w, c.len.ensures) in
    let e : c.deref.result.now ≡ below c.args.space.now c.args.dim c.args.cell 1 = listed c.args.space.now c.args.dim c.args.cell 1 c.in_ok-closed.closed c.in_ok-edges.edges.items c.deref.result.now c.deref.ensures.value c.in_ok-edges.ensures c.in_ok-closed.ensures in
    subst (λ (m : ℕ). All (IsLink m) c.in_ok-ends.ends) (sym n)
    (links-fit c.args.space.now c.requires.valid c.requires.limited c.requires.regular c.args.dim c.args.cell c.requires.cell c.in_ok-ends.ends (ends_at c.args.space.now c.args.dim c.args.cell c.deref-2.result.now c.deref.result.now c.in_ok-ends.ends v e c.in_ok-ends.ensures))

pub grow-requires-clause-few : goal.grow-requires-clause-few
grow-requires-clause-few c =
    let e : c.deref.result.now ≡ below c.args.space.now c.args.dim c.args.cell 1 = listed c.args.space.now c.args.dim c.args.cell 1 c.in_ok-closed.closed c.in_ok-edges.edges.items c.deref.result.now c.deref.ensures.value c.in_ok-edges.ensures c.in_ok-closed.ensures in
    omega (arith, c.in_ok-ends.ensures.as_many, ap length e, edges-few c.args.space.now c.requires.valid c.requires.limited c.requires.regular c.args.dim c.args.cell c.requires.cell)

pub grow-requires-clause-last : goal.grow-requires-clause-last
grow-requires-clause-last c =
    let v : c.in_ok-vertices.vertices.items ≡ below c.args.space.now c.args.dim c.args.cell 0 = c.in_ok-vertices.ensures ∙ ap (λ (cs : List Cell). numbers_in cs 0) c.in_ok-closed.ensures in
    omega (arith, ap length v, some-vertex c.args.space.now c.requires.valid c.requires.limited c.requires.regular c.args.dim c.args.cell c.requires.cell)
