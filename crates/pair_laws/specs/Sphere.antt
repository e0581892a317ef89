-- A sphere of 2-cells: a tree of 2-cells and a tree of vertices use up all edges. vs, es and cs are the vertices, edges and 2-cells; the
-- edge e runs from the vertex A e to the vertex B e and lies in the 2-cells L e and R e and in no other; F c are the edges of the 2-cell c.
-- All cells are numbers. (Tree and cotree; textbook.)
--   swap p                              the pair of the upper and the lower
--   IsSphere vs es cs A B L R F         such cells, joined, two vertices and 2-cells more than edges; where an edge is taken out of a 2-cell,
--                                       the other edges join its ends
--   HasTrees vs es cs A B L R F b v     a tree of 2-cells from b and a tree of vertices from v, each on all of them, along edges: each edge is
--                                       a link of exactly one of them, and the first, each link with the 2-cell taken along it, the latest
--                                       first, is a list of pairs in order
-- Laws:
--   DualOrdered                         where each link lies in its two nodes and in no other, the pairs of a tree, each of the link with the
--                                       node, the latest first, are in order
--   SphereHasTrees                      a sphere has such trees from any 2-cell and any vertex
use Rattle.std.specs.Prelude.{◌≡◌, ℕ, ◌+◌, List, length, map, true, false, not, ◌==◌, ◌||◌, filter}
use Rattle.number_lists.specs.Members.{In}
use Rattle.number_lists.specs.Words.{holds}
use Rattle.pair_laws.specs.Joins.{Joins}
use Rattle.pair_laws.specs.Tree.{Link, Grown, distinct, HasTree}
use Rattle.pair_laws.specs.Ranks.{ordered}

abbrev pub swap : Link → Link
swap p = record { lower = p.upper; upper = p.lower }

abbrev pub DualOrdered : Type 0
DualOrdered =
    (F : ℕ → List ℕ) (A B : ℕ → ℕ) (root : ℕ) (ps : List Link) (ns : List ℕ)
    → ((c e : ℕ) → In e (F c) → (A e == c) || (B e == c) ≡ true)
    → Grown A B root ps ns
    → ordered F (map swap ps) ≡ true

pub record IsSphere (vs es cs : List ℕ) (A B L R : ℕ → ℕ) (F : ℕ → List ℕ) : Type 0 where
  pub vertices_once : distinct vs ≡ true
  pub edges_once : distinct es ≡ true
  pub cells_once : distinct cs ≡ true
  pub ends : (e : ℕ) → In e es → In (A e) vs × In (B e) vs
  pub sides : (e : ℕ) → In e es → In (L e) cs × In (R e) cs
  pub two : (c e : ℕ) → In e (F c) → (L e == c) || (R e == c) ≡ true
  pub has : (e : ℕ) → In e es → In e (F (L e)) × In e (F (R e))
  pub edges : (c e : ℕ) → In c cs → In e (F c) → In e es
  pub opens :
      (c e : ℕ)
      → In c cs
      → In e (F c)
      → Joins A B (λ g. holds (filter (λ g. not (g == e)) (F c)) g) (A e) (B e)
  pub together : (c d : ℕ) → In c cs → In d cs → Joins L R (holds es) c d
  pub joined : (v w : ℕ) → In v vs → In w vs → Joins A B (holds es) v w
  pub number : length vs + length cs ≡ length es + 2

pub record HasTrees (vs es cs : List ℕ) (A B L R : ℕ → ℕ) (F : ℕ → List ℕ) (b v : ℕ) : Type 0 where
  pub cells : HasTree L R b cs es
  pub vertices : HasTree A B v vs es
  pub in_order : ordered F (map swap cells.pairs) ≡ true
  pub new : (p : Link) → In p vertices.pairs → holds (map (λ p. p.upper) cells.pairs) p.upper ≡ false
  pub either :
      (e : ℕ)
      → In e es
      → holds (map (λ p. p.upper) vertices.pairs) e || holds (map (λ p. p.upper) cells.pairs) e ≡ true

abbrev pub SphereHasTrees : Type 0
SphereHasTrees =
    (vs es cs : List ℕ) (A B L R : ℕ → ℕ) (F : ℕ → List ℕ) (b v : ℕ)
    → IsSphere vs es cs A B L R F
    → In b cs
    → In v vs
    → HasTrees vs es cs A B L R F b v
