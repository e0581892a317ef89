use Rattle.std.proofs.Common.{◌≡◌, ◌≤◌, ℕ, List, length, ap, sym, ◌∙◌, subst, arith, All, Contains, Result, Ok, Err, IfOk, Vec, Global}
use Rattle.std.specs.List.Sorted.{IsStrictlyIncreasing}
use Rattle.number_lists.specs.Cofaces.{IsRising, coface_lists}
use Rattle.face_poset.specs.Poset.{count, facets_of}
use Rattle.sphere_collapses.specs.Places.{number_at, AreFacetPlaces}
use Rattle.sphere_collapses.specs.Spheres.{edges_below}
use Rattle.sphere_collapses.specs.Trees.{IsLink, IsTree, IsDualTree}
use Rattle.sphere_collapses.specs.declared.tree.Taken.{Taken}
use Rattle.sphere_collapses.proofs.Collapses.{edges_rise, disks_rise}
use Rattle.sphere_collapses.proofs.Given.{edges_few, disks_few, disks_in, edges_there, borders_rise, borders_few, sides_fit, sides_few}
use Rattle.sphere_collapses.proofs.collapse.grow_disks.Goals as goal

pub facet_places-requires-clause-cells : goal.facet_places-requires-clause-cells
facet_places-requires-clause-cells c =
    subst (All (λ x. (1 ≤ x) × (x ≤ count c.args.space.now 2))) (sym c.facets-disks.ensures.facets) (disks_in c.args.space.now c.args.cell c.args.face c.requires.valid c.requires.limited c.requires.regular c.requires.face)

pub facet_places-requires-clause-rises : goal.facet_places-requires-clause-rises
facet_places-requires-clause-rises c = subst IsStrictlyIncreasing (sym c.requires.edges) (edges_rise c.args.space.now c.args.cell c.args.face c.requires.valid c.requires.regular c.requires.face)

pub facet_places-requires-clause-few : goal.facet_places-requires-clause-few
facet_places-requires-clause-few c = omega (arith, ap length c.requires.edges, edges_few c.args.space.now c.args.cell c.args.face c.requires.valid c.requires.limited c.requires.regular c.requires.face)

pub facet_places-requires-clause-there : goal.facet_places-requires-clause-there
facet_places-requires-clause-there c =
    subst (λ (ds : List ℕ). All (λ x. All (Contains c.args.edges.now) (facets_of c.args.space.now 2 x)) ds) (sym c.facets-disks.ensures.facets)
    (subst (λ (es : List ℕ). All (λ x. All (Contains es) (facets_of c.args.space.now 2 x)) (facets_of c.args.space.now 3 c.args.cell)) (sym c.requires.edges)
    (edges_there c.args.space.now c.args.cell c.args.face c.requires.valid c.requires.limited c.requires.regular c.requires.face))

-- the edges of the 2-cells by their places
borders_are : (space : List (List (List ℕ))) (cell : ℕ) (disks edges : List ℕ) (borders : List (List ℕ)) → disks ≡ facets_of space 3 cell → edges ≡ edges_below space cell → AreFacetPlaces space 2 edges disks borders
    → AreFacetPlaces space 2 (edges_below space cell) (facets_of space 3 cell) borders
borders_are space cell disks edges borders d e h = subst (λ (es : List ℕ). AreFacetPlaces space 2 es (facets_of space 3 cell) borders) e (subst (λ (ds : List ℕ). AreFacetPlaces space 2 edges ds borders) d h)

pub cofaces_in-requires-clause-cells : goal.cofaces_in-requires-clause-cells
cofaces_in-requires-clause-cells c =
    subst (λ (es : List ℕ). All (IsRising (length es)) c.in_ok-borders.borders) (sym c.requires.edges)
    (borders_rise c.args.space.now c.args.cell c.args.face c.requires.valid c.requires.limited c.requires.regular c.requires.face c.in_ok-borders.borders
    (borders_are c.args.space.now c.args.cell c.facets-disks.result.now c.args.edges.now c.in_ok-borders.borders c.facets-disks.ensures.facets c.requires.edges c.in_ok-borders.ensures))

pub cofaces_in-requires-clause-few : goal.cofaces_in-requires-clause-few
cofaces_in-requires-clause-few c =
    borders_few c.args.space.now c.args.cell c.args.face c.requires.valid c.requires.limited c.requires.regular c.requires.face c.in_ok-borders.borders
    (borders_are c.args.space.now c.args.cell c.facets-disks.result.now c.args.edges.now c.in_ok-borders.borders c.facets-disks.ensures.facets c.requires.edges c.in_ok-borders.ensures)

pub place_of-requires-clause-rises : goal.place_of-requires-clause-rises
place_of-requires-clause-rises c = subst IsStrictlyIncreasing (sym c.facets-disks.ensures.facets) (disks_rise c.args.space.now c.args.cell c.args.face c.requires.valid c.requires.regular c.requires.face)

pub place_of-requires-clause-few : goal.place_of-requires-clause-few
place_of-requires-clause-few c = omega (arith, ap length c.facets-disks.ensures.facets, disks_few c.args.space.now c.args.cell c.args.face c.requires.valid c.requires.limited c.requires.regular c.requires.face)

pub place_of-requires-clause-there : goal.place_of-requires-clause-there
place_of-requires-clause-there c = subst (λ (ds : List ℕ). Contains ds c.args.face) (sym c.facets-disks.ensures.facets) c.requires.face.facet

-- the 2-cells of the edges by their places
sides_are : (space : List (List (List ℕ))) (cell : ℕ) (edges : List ℕ) (borders sides : List (List ℕ)) → edges ≡ edges_below space cell → sides ≡ coface_lists (length edges) borders → sides ≡ coface_lists (length (edges_below space cell)) borders
sides_are space cell edges borders sides e h = h ∙ ap (λ (es : List ℕ). coface_lists (length es) borders) e

pub grow-requires-clause-links : goal.grow-requires-clause-links
grow-requires-clause-links c =
    subst (λ (ds : List ℕ). All (IsLink (length ds)) c.in_ok-sides.sides) (sym c.facets-disks.ensures.facets)
    (subst (All (IsLink (length (facets_of c.args.space.now 3 c.args.cell)))) (sym (sides_are c.args.space.now c.args.cell c.args.edges.now c.in_ok-borders.borders c.in_ok-sides.sides c.requires.edges c.in_ok-sides.ensures))
    (sides_fit c.args.space.now c.args.cell c.args.face c.requires.valid c.requires.limited c.requires.regular c.requires.face c.in_ok-borders.borders
    (borders_are c.args.space.now c.args.cell c.facets-disks.result.now c.args.edges.now c.in_ok-borders.borders c.facets-disks.ensures.facets c.requires.edges c.in_ok-borders.ensures)))

pub grow-requires-clause-few : goal.grow-requires-clause-few
grow-requires-clause-few c =
    omega (
      arith,
      ap length (sides_are c.args.space.now c.args.cell c.args.edges.now c.in_ok-borders.borders c.in_ok-sides.sides c.requires.edges c.in_ok-sides.ensures),
      sides_few c.args.space.now c.args.cell c.args.face c.requires.valid c.requires.limited c.requires.regular c.requires.face c.in_ok-borders.borders
          (borders_are c.args.space.now c.args.cell c.facets-disks.result.now c.args.edges.now c.in_ok-borders.borders c.facets-disks.ensures.facets c.requires.edges c.in_ok-borders.ensures),
    )

-- the tree that comes
tree_is : {E : Type 0} (space : List (List (List ℕ))) (cell face root : ℕ) (disks edges : List ℕ) (borders sides : List (List ℕ)) (r : Result (Vec Taken Global) E) → disks ≡ facets_of space 3 cell → edges ≡ edges_below space cell → AreFacetPlaces space 2 edges disks borders
    → sides ≡ coface_lists (length edges) borders → number_at disks root ≡ face → IfOk r (λ tree. IsTree sides (length disks) root tree.items) → IfOk r (λ tree. IsDualTree space (facets_of space 3 cell) edges face tree.items)
tree_is space cell face root disks edges borders sides (Ok tree) d e h s n t =
    subst (λ (ds : List ℕ). IsDualTree space ds edges face tree.items) d
    (record { borders = borders; borders_are = h; root = root; root_is = n; tree_is = subst (λ (ss : List (List ℕ)). IsTree ss (length disks) root tree.items) s t })
tree_is space cell face root disks edges borders sides (Err x) d e h s n t = t

pub returns : goal.returns
returns c =
    tree_is c.args.space.now c.args.cell c.args.face c.place_of.result c.facets-disks.result.now c.args.edges.now c.in_ok-borders.borders c.in_ok-sides.sides c.grow.result c.facets-disks.ensures.facets c.requires.edges c.in_ok-borders.ensures c.in_ok-sides.ensures c.place_of.ensures.number
    c.grow.ensures
