-- What the calls in a collapse gave, in the words of the space.
use Rattle.std.proofs.Common.{◌≡◌, ℕ, List, ◌++◌, map, reverse, length, ap, sym, ◌∙◌, subst, true, Result, Ok, Err, IfOk, All}
use Rattle.face_poset.specs.declared.cells.Pair.{Pair}
use Rattle.face_poset.specs.Poset.{facets_of}
use Rattle.face_poset.specs.Below.{facets_of_all}
use Rattle.sphere_collapses.specs.declared.tree.Taken.{Taken}
use Rattle.sphere_collapses.specs.Collapses.{collapses, boundary_less}
use Rattle.sphere_collapses.specs.Spheres.{edges_below, vertices_below}
use Rattle.sphere_collapses.specs.Places.{AreFacetPlaces}
use Rattle.sphere_collapses.specs.Trees.{IsPlaced, IsTree, IsDualTree, edges_left, disk_pair_at, vertex_pair_at}

module _ (space : List (List (List ℕ))) (cell : ℕ) where
  pub edges_fact : (disks edges : List ℕ) → disks ≡ facets_of space 3 cell → edges ≡ facets_of_all space 1 disks → edges ≡ edges_below space cell
  edges_fact disks edges d e = e ∙ ap (facets_of_all space 1) d

  pub vertices_fact : (edges given vertices : List ℕ) → edges ≡ edges_below space cell → given ≡ edges → vertices ≡ facets_of_all space 0 given → vertices ≡ vertices_below space cell
  vertices_fact edges given vertices e g v = v ∙ ap (facets_of_all space 0) (g ∙ e)

  pub dual_fact : (face : ℕ) (edges given : List ℕ) (dual : List Taken) → edges ≡ edges_below space cell → given ≡ edges → IsDualTree space (facets_of space 3 cell) given face dual → IsDualTree space (facets_of space 3 cell) (edges_below space cell) face dual
  dual_fact face edges given dual e g h = subst (λ (es : List ℕ). IsDualTree space (facets_of space 3 cell) es face dual) (g ∙ e) h

  pub left_fact : (edges given left : List ℕ) (tree dual : List Taken) → edges ≡ edges_below space cell → given ≡ edges → tree ≡ dual → left ≡ edges_left given tree → left ≡ edges_left (edges_below space cell) dual
  left_fact edges given left tree dual e g t h = h ∙ (ap (λ (es : List ℕ). edges_left es tree) (g ∙ e) ∙ ap (edges_left (edges_below space cell)) t)

  pub ends_fact : (vertices given left these : List ℕ) (ends : List (List ℕ)) → vertices ≡ vertices_below space cell → given ≡ vertices → these ≡ left → AreFacetPlaces space 1 given these ends → AreFacetPlaces space 1 (vertices_below space cell) left ends
  ends_fact vertices given left these ends v g t h = subst (λ (vs : List ℕ). AreFacetPlaces space 1 vs left ends) (g ∙ v) (subst (λ (ls : List ℕ). AreFacetPlaces space 1 given ls ends) t h)

  pub count_fact : (vertices : List ℕ) (n : ℕ) → vertices ≡ vertices_below space cell → n ≡ length vertices → n ≡ length (vertices_below space cell)
  count_fact vertices n v e = e ∙ ap length v

  pub primal_fact : (n : ℕ) (ends : List (List ℕ)) (primal : List Taken) → n ≡ length (vertices_below space cell) → IsTree ends n 1 primal → IsTree ends (length (vertices_below space cell)) 1 primal
  primal_fact n ends primal e h = subst (λ (k : ℕ). IsTree ends k 1 primal) e h

-- placed in lists that are the same
pub placed_fact : (nodes links these those : List ℕ) (tree given : List Taken) → these ≡ nodes → those ≡ links → given ≡ tree → All (IsPlaced (length nodes) (length links)) tree → All (IsPlaced (length these) (length those)) given
placed_fact nodes links these those tree given n l t h =
    subst (λ (ts : List Taken). All (IsPlaced (length these) (length those)) ts) (sym t)
    (subst (λ (xs : List ℕ). All (IsPlaced (length xs) (length those)) tree) (sym n) (subst (λ (xs : List ℕ). All (IsPlaced (length nodes) (length xs)) tree) (sym l) h))

-- the list of pairs that comes
pub pairs_fact : {E : Type 0} (space : List (List (List ℕ))) (cell face : ℕ) (r : Result (List Pair) E) (disks edges vertices left cs es vs ls : List ℕ) (dual primal ds ps : List Taken)
    → disks ≡ cs → edges ≡ es → vertices ≡ vs → left ≡ ls → dual ≡ ds → primal ≡ ps
    → collapses space (boundary_less space cell face) (map (disk_pair_at cs es) ds ++ map (vertex_pair_at vs ls) (reverse ps)) ≡ true
    → IfOk r (λ pairs. pairs ≡ map (disk_pair_at disks edges) dual ++ map (vertex_pair_at vertices left) (reverse primal)) → IfOk r (λ pairs. collapses space (boundary_less space cell face) pairs ≡ true)
pairs_fact space cell face (Ok pairs) disks edges vertices left cs es vs ls dual primal ds ps a b c d e f h k =
    ap (collapses space (boundary_less space cell face))
    (k
    ∙ (ap (λ (xs : List ℕ). map (disk_pair_at xs edges) dual ++ map (vertex_pair_at vertices left) (reverse primal)) a
    ∙ (ap (λ (xs : List ℕ). map (disk_pair_at cs xs) dual ++ map (vertex_pair_at vertices left) (reverse primal)) b
    ∙ (ap (λ (xs : List ℕ). map (disk_pair_at cs es) dual ++ map (vertex_pair_at xs left) (reverse primal)) c
    ∙ (ap (λ (xs : List ℕ). map (disk_pair_at cs es) dual ++ map (vertex_pair_at vs xs) (reverse primal)) d
    ∙ (ap (λ (ts : List Taken). map (disk_pair_at cs es) ts ++ map (vertex_pair_at vs ls) (reverse primal)) e ∙ ap (λ (ts : List Taken). map (disk_pair_at cs es) ds ++ map (vertex_pair_at vs ls) (reverse ts)) f))))))
    ∙ h
pairs_fact space cell face (Err x) disks edges vertices left cs es vs ls dual primal ds ps a b c d e f h k = k
