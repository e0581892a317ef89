-- The two trees of a 3-cell's boundary give a collapse.
use Rattle.std.proofs.Common.{◌≡◌, ◌⊎◌, inl, inr, ℕ, zero, suc, ◌≤◌, List, [], ◌∷◌, Bool, true, false, not, ◌||◌, eqb, map, refl, ap, sym, ◌∙◌, subst, arith}
use Rattle.std.proofs.lemmas.Bool.{eqb-true, eq-eqb, ne_eqb, false≢true, and_from, and_parts, or_cases, or_left, or_right}
use Rattle.number_lists.specs.Words.{holds}
use Rattle.number_lists.specs.Members.{In, here, there}
use Rattle.number_lists.proofs.CallerLemmas.{map-In, In-cases, holds-In, In-holds}
use Rattle.face_poset.specs.declared.cells.Cell.{Cell}
use Rattle.face_poset.specs.declared.cells.Pair.{Pair}
use Rattle.face_poset.specs.Poset.{IsSpace, count, facets_of}
use Rattle.face_poset.specs.Below.{cell_at}
use Rattle.regular_check.specs.Rules.{IsRegular}
use Rattle.pair_laws.specs.Tree.{Link, Grown, seed, at_end, at_start, distinct}
use Rattle.pair_laws.specs.Sphere.{HasTrees}
use Rattle.pair_laws.proofs.CallerLemmas.{ends_taken, grown_distinct}
use Rattle.sphere_collapses.specs.Collapses.{collapses, is_free, without, boundary_less}
use Rattle.sphere_collapses.specs.Spheres.{edges_below, vertices_below, first_end, last_end, first_side, last_side, edges_of}
use Rattle.sphere_collapses.proofs.Frees.{IsFree, free-from, without-inside, without-not, In-without, point-from, turned}
use Rattle.sphere_collapses.proofs.Boundary.{IsLeft, left_vertex, left_edge, left_disk, left-In, In-left}
use Rattle.sphere_collapses.proofs.Spheres.{ends_in, end_is, edge_range, edge_ends, IsSide, first_is, last_is, side_is}

-- ---- lists of numbers

abbrev pub uppers : List Link → List ℕ
uppers ps = map (λ (p : Link). p.upper) ps

holds-first : (x n : ℕ) (xs : List ℕ) → holds (x ∷ xs) n ≡ true → (x ≡ n) ⊎ (holds xs n ≡ true)
holds-first x n xs e = elim (or_cases (eqb x n) (holds xs n) e) [ inl q ↦ inl (eqb-true x n q) | inr q ↦ inr q ]

holds-not : (x n : ℕ) (xs : List ℕ) → (x ≡ n → ⊥) → holds xs n ≡ false → holds (x ∷ xs) n ≡ false
holds-not x n xs d e = ap (λ (b : Bool). b || holds xs n) (ne_eqb x n d) ∙ e

not-holds : (x n : ℕ) (xs : List ℕ) → holds (x ∷ xs) n ≡ false → (x ≡ n → ⊥) × (holds xs n ≡ false)
not-holds x n xs e = by_test (eqb x n) refl e
  where
    by_test : (b : Bool) → eqb x n ≡ b → (b || holds xs n) ≡ false → (x ≡ n → ⊥) × (holds xs n ≡ false)
    by_test true q k = absurd (false≢true (sym k))
    by_test false q k = (λ p. false≢true (sym q ∙ eq-eqb x n p), k)

clash : (xs : List ℕ) (n : ℕ) → holds xs n ≡ false → holds xs n ≡ true → ⊥
clash xs n e k = false≢true (sym e ∙ k)

abbrev dim_of : Cell → ℕ
dim_of c = c.dim

abbrev number_of : Cell → ℕ
number_of c = c.number

-- ---- grown trees

-- a node that was taken is the root, or was taken along a link
pub node_is : {A B : ℕ → ℕ} {root : ℕ} (ps : List Link) (ns : List ℕ) → Grown A B root ps ns → (n : ℕ) → holds ns n ≡ true → (root ≡ n) ⊎ ((p : Link) × In p ps × (p.lower ≡ n))
node_is [] ns seed n h = elim (holds-first _ n [] h) [ inl e ↦ inl e | inr e ↦ absurd (false≢true e) ]
node_is (p ∷ ps) [] h n k = elim h [ ]
node_is (p ∷ ps) (m ∷ ns) (at_end q g e f t) n h = elim (holds-first q.lower n ns h) [ inl k ↦ inr (q, here, k) | inr k ↦ elim (node_is ps ns g n k) [ inl r ↦ inl r | inr r ↦ inr (r.0, there r.1, r.2) ] ]
node_is (p ∷ ps) (m ∷ ns) (at_start q g e f t) n h = elim (holds-first q.lower n ns h) [ inl k ↦ inr (q, here, k) | inr k ↦ elim (node_is ps ns g n k) [ inl r ↦ inl r | inr r ↦ inr (r.0, there r.1, r.2) ] ]

-- the node of a pair was taken
pub node_held : {A B : ℕ → ℕ} {root : ℕ} (ps : List Link) (ns : List ℕ) → Grown A B root ps ns → (p : Link) → In p ps → holds ns p.lower ≡ true
node_held [] ns g p i = elim i [ ]
node_held (q ∷ ps) [] h p i = elim h [ ]
node_held (q ∷ ps) (n ∷ ns) (at_end r g e f t) p i = elim (In-cases i) [ inl k ↦ or_left (eqb r.lower p.lower) (holds ns p.lower) (eq-eqb r.lower p.lower (ap (λ (x : Link). x.lower) (sym k))) | inr j ↦ or_right (eqb r.lower p.lower) (holds ns p.lower) (node_held ps ns g p j) ]
node_held (q ∷ ps) (n ∷ ns) (at_start r g e f t) p i = elim (In-cases i) [ inl k ↦ or_left (eqb r.lower p.lower) (holds ns p.lower) (eq-eqb r.lower p.lower (ap (λ (x : Link). x.lower) (sym k))) | inr j ↦ or_right (eqb r.lower p.lower) (holds ns p.lower) (node_held ps ns g p j) ]

-- the node of a pair is an end of its link
pub node_end : (A B : ℕ → ℕ) {root : ℕ} (ps : List Link) (ns : List ℕ) → Grown A B root ps ns → (p : Link) → In p ps → (A p.upper ≡ p.lower) ⊎ (B p.upper ≡ p.lower)
node_end A B [] ns g p i = elim i [ ]
node_end A B (q ∷ ps) [] h p i = elim h [ ]
node_end A B (q ∷ ps) (n ∷ ns) (at_end r g e f t) p i = elim (In-cases i) [ inl k ↦ inl (subst (λ (x : Link). A x.upper ≡ x.lower) (sym k) e) | inr j ↦ node_end A B ps ns g p j ]
node_end A B (q ∷ ps) (n ∷ ns) (at_start r g e f t) p i = elim (In-cases i) [ inl k ↦ inr (subst (λ (x : Link). B x.upper ≡ x.lower) (sym k) e) | inr j ↦ node_end A B ps ns g p j ]

-- the link of the latest pair is new
link_new : (A B : ℕ → ℕ) (root : ℕ) (qs ps : List Link) (ns : List ℕ) (q : Link) → qs ≡ q ∷ ps → Grown A B root qs ns → holds (map (λ (p : Link). p.upper) ps) q.upper ≡ false
link_new A B root qs ps ns q e g =
    turned (holds (uppers ps) q.upper) ((and_parts (not (holds (uppers ps) q.upper)) (distinct (uppers ps)) (ap (λ (xs : List Link). distinct (uppers xs)) (sym e) ∙ grown_distinct A B root qs ns g)).0)

-- both ends of the links are taken, and these are edges
ends_there : {most : ℕ} {A B : ℕ → ℕ} (root : ℕ) (ps : List Link) (ns : List ℕ) → Grown A B root ps ns → ((p : Link) → In p ps → (1 ≤ p.upper) × (p.upper ≤ most))
    → (n : ℕ) → holds (map (λ (p : Link). p.upper) ps) n ≡ true → (1 ≤ n) × (n ≤ most) × (holds ns (A n) ≡ true) × (holds ns (B n) ≡ true)
ends_there {most} {A} {B} root ps ns g l n h =
    let r = map-In (λ (p : Link). p.upper) ps (holds-In (uppers ps) h) in
    let w = l r.0 r.1 in
    let k = ends_taken ns g r.0 r.1 in
    let e : r.0.upper ≡ n = sym r.2 in
    (omega (arith, w.0, e), omega (arith, w.1, e), subst (λ (x : ℕ). holds ns (A x) ≡ true) e k.0, subst (λ (x : ℕ). holds ns (B x) ≡ true) e k.1)

-- ---- pairs of cells

abbrev pub disk_pair : Link → Pair
disk_pair p = record { dim = 1; lower = p.upper; upper = p.lower }

abbrev pub vertex_pair : Link → Pair
vertex_pair p = record { dim = 0; lower = p.lower; upper = p.upper }

-- pairs of 2-cells, the latest first, put before others
abbrev pub onto : List Link → List Pair → List Pair
onto [] qs = qs
onto (p ∷ ps) qs = onto ps (disk_pair p ∷ qs)

module _ (space : List (List (List ℕ))) (cell face : ℕ) (hs : IsSpace space) (regular : IsRegular space) (low : 1 ≤ cell) (high : cell ≤ count space 3) where
  abbrev vs : List ℕ
  vs = vertices_below space cell

  abbrev es : List ℕ
  es = edges_below space cell

  abbrev cs : List ℕ
  cs = facets_of space 3 cell

  -- what is left after the pairs of 2-cells
  pub record IsAfter (links nodes : List ℕ) (rest : List Cell) : Type 0 where
    pub vertex : (n : ℕ) → In n (vertices_below space cell) → In (cell_at 0 n) rest
    pub vertex_is : (n : ℕ) → In (cell_at 0 n) rest → In n (vertices_below space cell)
    pub edge : (n : ℕ) → In n (edges_below space cell) → holds links n ≡ false → In (cell_at 1 n) rest
    pub edge_is : (n : ℕ) → In (cell_at 1 n) rest → In n (edges_below space cell) × (holds links n ≡ false)
    pub disk : (n : ℕ) → In n (facets_of space 3 cell) → holds nodes n ≡ false → In (cell_at 2 n) rest
    pub disk_is : (n : ℕ) → In (cell_at 2 n) rest → In n (facets_of space 3 cell) × (holds nodes n ≡ false)
    pub none : (d n : ℕ) → In (cell_at (suc (suc (suc d))) n) rest → ⊥

  after-begun : IsAfter [] (face ∷ []) (boundary_less space cell face)
  after-begun =
      record {
        vertex = λ n i. In-left space cell face hs low high (left_vertex n i);
        vertex_is = λ n i. vertex_of refl (left-In space cell face hs low high 0 n i);
        edge = λ n i e. In-left space cell face hs low high (left_edge n i);
        edge_is = λ n i. (edge_of refl (left-In space cell face hs low high 1 n i), refl);
        disk = λ n i e. In-left space cell face hs low high (left_disk n i (λ q. (not-holds face n [] e).0 (sym q)));
        disk_is = λ n i. (let r = disk_of refl (left-In space cell face hs low high 2 n i) in (r.0, holds-not face n [] (λ q. r.1 (sym q)) refl));
        none = λ d n i. none_of refl (left-In space cell face hs low high (suc (suc (suc d))) n i);
      }
    where
      vertex_of : {d n : ℕ} → d ≡ 0 → IsLeft space cell face hs low high d n → In n (vertices_below space cell)
      vertex_of q (left_vertex n i) = i
      vertex_of q (left_edge n i) = absurd (omega (arith, q))
      vertex_of q (left_disk n i k) = absurd (omega (arith, q))

      edge_of : {d n : ℕ} → d ≡ 1 → IsLeft space cell face hs low high d n → In n (edges_below space cell)
      edge_of q (left_vertex n i) = absurd (omega (arith, q))
      edge_of q (left_edge n i) = i
      edge_of q (left_disk n i k) = absurd (omega (arith, q))

      disk_of : {d n : ℕ} → d ≡ 2 → IsLeft space cell face hs low high d n → In n (facets_of space 3 cell) × (n ≡ face → ⊥)
      disk_of q (left_vertex n i) = absurd (omega (arith, q))
      disk_of q (left_edge n i) = absurd (omega (arith, q))
      disk_of q (left_disk n i k) = (i, k)

      none_of : {d n k : ℕ} → d ≡ suc (suc (suc k)) → IsLeft space cell face hs low high d n → ⊥
      none_of q (left_vertex n i) = omega (arith, q)
      none_of q (left_edge n i) = omega (arith, q)
      none_of q (left_disk n i k) = omega (arith, q)

  -- a pair of an edge and a 2-cell that may go
  record MayGo (links nodes : List ℕ) (p : Link) : Type 0 where
    pub edge : In p.upper (edges_below space cell)
    pub edge_new : holds links p.upper ≡ false
    pub disk : In p.lower (facets_of space 3 cell)
    pub disk_new : holds nodes p.lower ≡ false
    pub facet : In p.upper (facets_of space 2 p.lower)
    pub other : (n : ℕ) → In n (facets_of space 3 cell) → In p.upper (facets_of space 2 n) → (n ≡ p.lower) ⊎ (holds nodes n ≡ true)

  module _ (links nodes : List ℕ) (rest : List Cell) (p : Link) (h : IsAfter links nodes rest) (m : MayGo links nodes p) where
    disk-free : IsFree space rest (disk_pair p)
    disk-free =
        record {
          lower = h.edge p.upper m.edge m.edge_new;
          upper = h.disk p.lower m.disk m.disk_new;
          facet = m.facet;
          only = λ n i f. (let r = h.disk_is n i in elim (m.other n r.0 f) [ inl e ↦ e | inr e ↦ absurd (clash nodes n r.1 e) ]);
          top = λ n i f. h.none 0 n i;
        }

    other_dim : {a b c d : ℕ} → (a ≡ c → ⊥) → cell_at a b ≡ cell_at c d → ⊥
    other_dim k e = k (ap dim_of e)

    disk-after : IsAfter (p.upper ∷ links) (p.lower ∷ nodes) (without rest (disk_pair p))
    disk-after =
        record {
          vertex = λ n i. In-without space rest (disk_pair p) (h.vertex n i) (λ e. other_dim (λ q. omega (arith, q)) e) (λ e. other_dim (λ q. omega (arith, q)) e);
          vertex_is = λ n i. h.vertex_is n (without-inside space rest (disk_pair p) i);
          edge = λ n i e. (let r = not-holds p.upper n links e in In-without space rest (disk_pair p) (h.edge n i r.1) (λ q. r.0 (ap number_of q)) (λ q. other_dim (λ q. omega (arith, q)) q));
          edge_is = λ n i. (
              let r = h.edge_is n (without-inside space rest (disk_pair p) i) in
              let k = without-not space rest (disk_pair p) i in
              (r.0, holds-not p.upper n links (λ q. k.0 (ap (cell_at 1) q)) r.1)
              );
          disk = λ n i e. (let r = not-holds p.lower n nodes e in In-without space rest (disk_pair p) (h.disk n i r.1) (λ q. other_dim (λ q. omega (arith, q)) q) (λ q. r.0 (ap number_of q)));
          disk_is = λ n i. (
              let r = h.disk_is n (without-inside space rest (disk_pair p) i) in
              let k = without-not space rest (disk_pair p) i in
              (r.0, holds-not p.lower n nodes (λ q. k.1 (ap (cell_at 2) q)) r.1)
              );
          none = λ d n i. h.none d n (without-inside space rest (disk_pair p) i);
        }

  -- the new node of a tree of 2-cells, with the link along which it is taken
  IsTaken : List ℕ → Link → Type 0
  IsTaken ns q =
      ((first_side space cell q.upper ≡ q.lower) × (holds ns (last_side space cell q.upper) ≡ true)) ⊎ ((last_side space cell q.upper ≡ q.lower) × (holds ns (first_side space cell q.upper) ≡ true))

  may-go : (links ns : List ℕ) (q : Link) → In q.upper (edges_below space cell) → holds links q.upper ≡ false → holds ns q.lower ≡ false → IsTaken ns q → MayGo links ns q
  unfolding IsTaken
  may-go links ns q i new f t =
      let e : ℕ = q.upper in
      let side : IsSide space hs regular cell low high e q.lower = elim t [
        | inl r ↦ subst (IsSide space hs regular cell low high e) r.0 (first_is space hs regular cell low high e i)
        | inr r ↦ subst (IsSide space hs regular cell low high e) r.0 (last_is space hs regular cell low high e i)
      ] in
      record { edge = i; edge_new = new; disk = side.disk; disk_new = f; facet = side.edge; other = λ n j k. other n t (side_is space hs regular cell low high n e j k) }
    where
      other : (n : ℕ)
          → ((first_side space cell q.upper ≡ q.lower) × (holds ns (last_side space cell q.upper) ≡ true)) ⊎ ((last_side space cell q.upper ≡ q.lower) × (holds ns (first_side space cell q.upper) ≡ true))
          → (first_side space cell q.upper ≡ n) ⊎ (last_side space cell q.upper ≡ n) → (n ≡ q.lower) ⊎ (holds ns n ≡ true)
      other n (inl r) (inl k) = inl (sym k ∙ r.0)
      other n (inl r) (inr k) = inr (subst (λ (x : ℕ). holds ns x ≡ true) k r.1)
      other n (inr r) (inl k) = inr (subst (λ (x : ℕ). holds ns x ≡ true) k r.1)
      other n (inr r) (inr k) = inl (sym k ∙ r.0)

  disk-goes : (links ns : List ℕ) (q : Link) (qs : List Pair) → MayGo links ns q → ((rest : List Cell) → IsAfter (q.upper ∷ links) (q.lower ∷ ns) rest → collapses space rest qs ≡ true)
      → (rest : List Cell) → IsAfter links ns rest → collapses space rest (disk_pair q ∷ qs) ≡ true
  disk-goes links ns q qs m k rest h =
      and_from (is_free space rest (disk_pair q)) (collapses space (without rest (disk_pair q)) qs) (free-from space rest (disk_pair q) (disk-free links ns rest q h m)) (k (without rest (disk_pair q)) (disk-after links ns rest q h m))

  -- the pairs of 2-cells go one after another
  disks-go : (ps : List Link) (ns : List ℕ) (qs : List Pair) → Grown (first_side space cell) (last_side space cell) face ps ns → ((p : Link) → In p ps → In p.upper (edges_below space cell))
      → ((rest : List Cell) → IsAfter (map (λ (p : Link). p.upper) ps) ns rest → collapses space rest qs ≡ true) → collapses space (boundary_less space cell face) (onto ps qs) ≡ true
  unfolding IsTaken
  disks-go [] ns qs seed l k = k (boundary_less space cell face) after-begun
  disks-go (p ∷ ps) [] qs h l k = elim h [ ]
  disks-go (p ∷ ps) (n ∷ ns) qs (at_end q g e f t) l k =
      disks-go ps ns (disk_pair q ∷ qs) g (λ x i. l x (there i))
      (disk-goes (uppers ps) ns q qs (may-go (uppers ps) ns q (l q here) (link_new (first_side space cell) (last_side space cell) face (q ∷ ps) ps (q.lower ∷ ns) q refl (at_end q g e f t)) f (inl (e, t))) k)
  disks-go (p ∷ ps) (n ∷ ns) qs (at_start q g e f t) l k =
      disks-go ps ns (disk_pair q ∷ qs) g (λ x i. l x (there i))
      (disk-goes (uppers ps) ns q qs (may-go (uppers ps) ns q (l q here) (link_new (first_side space cell) (last_side space cell) face (q ∷ ps) ps (q.lower ∷ ns) q refl (at_start q g e f t)) f (inr (e, t))) k)

  -- ---- vertices

  -- what is left of a tree of vertices
  pub record IsTreeLeft (links nodes : List ℕ) (rest : List Cell) : Type 0 where
    pub vertex : (n : ℕ) → holds nodes n ≡ true → In (cell_at 0 n) rest
    pub vertex_is : (n : ℕ) → In (cell_at 0 n) rest → holds nodes n ≡ true
    pub edge : (n : ℕ) → holds links n ≡ true → In (cell_at 1 n) rest
    pub edge_is : (n : ℕ) → In (cell_at 1 n) rest → holds links n ≡ true
    pub none : (d n : ℕ) → In (cell_at (suc (suc d)) n) rest → ⊥

  root-left : (v : ℕ) (rest : List Cell) → IsTreeLeft [] (v ∷ []) rest → collapses space rest [] ≡ true
  root-left v rest h = point-from rest v (h.vertex v (In-holds {x = v} {xs = v ∷ []} here)) (λ c i. by_dim c.dim c.number i)
    where
      by_dim : (d n : ℕ) → In (cell_at d n) rest → cell_at 0 v ≡ cell_at d n
      by_dim zero n i = elim (holds-first v n [] (h.vertex_is n i)) [ inl e ↦ ap (cell_at 0) e | inr e ↦ absurd (false≢true e) ]
      by_dim (suc zero) n i = absurd (false≢true (h.edge_is n i))
      by_dim (suc (suc d)) n i = absurd (h.none d n i)

  module _ (links ns : List ℕ) (q : Link) (rest : List Cell) (h : IsTreeLeft (q.upper ∷ links) (q.lower ∷ ns) rest) (new : holds links q.upper ≡ false) (f : holds ns q.lower ≡ false) (range : (1 ≤ q.upper) × (q.upper ≤ count space 1))
      (end : (first_end space q.upper ≡ q.lower) ⊎ (last_end space q.upper ≡ q.lower)) (taken : (n : ℕ) → holds links n ≡ true → (1 ≤ n) × (n ≤ count space 1) × (holds ns (first_end space n) ≡ true) × (holds ns (last_end space n) ≡ true)) where
    vertex-free : IsFree space rest (vertex_pair q)
    vertex-free =
        record {
          lower = h.vertex q.lower (In-holds {x = q.lower} {xs = q.lower ∷ ns} here);
          upper = h.edge q.upper (In-holds {x = q.upper} {xs = q.upper ∷ links} here);
          facet = elim end [
            | inl e ↦ subst (λ (v : ℕ). In v (facets_of space 1 q.upper)) e ((ends_in space hs regular q.upper range.0 range.1).0)
            | inr e ↦ subst (λ (v : ℕ). In v (facets_of space 1 q.upper)) e ((ends_in space hs regular q.upper range.0 range.1).1)
          ];
          only = λ n i j. elim (holds-first q.upper n links (h.edge_is n i)) [ inl e ↦ sym e | inr e ↦ absurd (earlier n (taken n e) j) ];
          top = λ n i j. h.none 0 n i;
        }
      where
        earlier : (n : ℕ) → (1 ≤ n) × (n ≤ count space 1) × (holds ns (first_end space n) ≡ true) × (holds ns (last_end space n) ≡ true) → In q.lower (facets_of space 1 n) → ⊥
        earlier n t j = elim (end_is space hs regular n q.lower t.0 t.1 j) [
          | inl e ↦ clash ns q.lower f (subst (λ (x : ℕ). holds ns x ≡ true) e t.2)
          | inr e ↦ clash ns q.lower f (subst (λ (x : ℕ). holds ns x ≡ true) e t.3)
        ]

    vertex-after : IsTreeLeft links ns (without rest (vertex_pair q))
    vertex-after =
        record {
          vertex = λ n i. In-without space rest (vertex_pair q) (h.vertex n (or_right (eqb q.lower n) (holds ns n) i)) (λ e. clash ns q.lower f (subst (λ (x : ℕ). holds ns x ≡ true) (sym (ap number_of e)) i)) (λ e. absurd (omega (arith, ap dim_of e)));
          vertex_is = λ n i. (
              let k = without-not space rest (vertex_pair q) i in
              elim (holds-first q.lower n ns (h.vertex_is n (without-inside space rest (vertex_pair q) i))) [ inl e ↦ absurd (k.0 (ap (cell_at 0) e)) | inr e ↦ e ]
              );
          edge = λ n i. In-without space rest (vertex_pair q) (h.edge n (or_right (eqb q.upper n) (holds links n) i)) (λ e. absurd (omega (arith, ap dim_of e))) (λ e. clash links q.upper new (subst (λ (x : ℕ). holds links x ≡ true) (sym (ap number_of e)) i));
          edge_is = λ n i. (
              let k = without-not space rest (vertex_pair q) i in
              elim (holds-first q.upper n links (h.edge_is n (without-inside space rest (vertex_pair q) i))) [ inl e ↦ absurd (k.1 (ap (cell_at 1) e)) | inr e ↦ e ]
              );
          none = λ d n i. h.none d n (without-inside space rest (vertex_pair q) i);
        }

    vertex-goes : (qs : List Pair) → collapses space (without rest (vertex_pair q)) qs ≡ true → collapses space rest (vertex_pair q ∷ qs) ≡ true
    vertex-goes qs k = and_from (is_free space rest (vertex_pair q)) (collapses space (without rest (vertex_pair q)) qs) (free-from space rest (vertex_pair q) vertex-free) k

  vertices-go : (v : ℕ) (ps : List Link) (ns : List ℕ) (rest : List Cell) → Grown (first_end space) (last_end space) v ps ns → ((p : Link) → In p ps → (1 ≤ p.upper) × (p.upper ≤ count space 1))
      → IsTreeLeft (map (λ (p : Link). p.upper) ps) ns rest → collapses space rest (map vertex_pair ps) ≡ true
  vertices-go v [] ns rest seed l h = root-left v rest h
  vertices-go v (p ∷ ps) [] rest h l k = elim h [ ]
  vertices-go v (p ∷ ps) (n ∷ ns) rest (at_end q g e f t) l h =
      let new = link_new (first_end space) (last_end space) v (q ∷ ps) ps (q.lower ∷ ns) q refl (at_end q g e f t) in
      let end : (first_end space q.upper ≡ q.lower) ⊎ (last_end space q.upper ≡ q.lower) = inl e in
      vertex-goes (uppers ps) ns q rest h new f (l q here) end (ends_there v ps ns g (λ x i. l x (there i))) (map vertex_pair ps)
      (vertices-go v ps ns (without rest (vertex_pair q)) g (λ x i. l x (there i)) (vertex-after (uppers ps) ns q rest h new f (l q here) end (ends_there v ps ns g (λ x i. l x (there i)))))
  vertices-go v (p ∷ ps) (n ∷ ns) rest (at_start q g e f t) l h =
      let new = link_new (first_end space) (last_end space) v (q ∷ ps) ps (q.lower ∷ ns) q refl (at_start q g e f t) in
      let end : (first_end space q.upper ≡ q.lower) ⊎ (last_end space q.upper ≡ q.lower) = inr e in
      vertex-goes (uppers ps) ns q rest h new f (l q here) end (ends_there v ps ns g (λ x i. l x (there i))) (map vertex_pair ps)
      (vertices-go v ps ns (without rest (vertex_pair q)) g (λ x i. l x (there i)) (vertex-after (uppers ps) ns q rest h new f (l q here) end (ends_there v ps ns g (λ x i. l x (there i)))))

  -- ---- both

  module _ (v : ℕ) (v_in : In v (vertices_below space cell))
      (T : HasTrees (vertices_below space cell) (edges_below space cell) (facets_of space 3 cell) (first_end space) (last_end space) (first_side space cell) (last_side space cell) (edges_of space cell) face v) where
    abbrev duals : List Link
    duals = T.cells.pairs

    abbrev primals : List Link
    primals = T.vertices.pairs

    taken_in : (n : ℕ) → holds T.vertices.taken n ≡ true → In n (vertices_below space cell)
    taken_in n h = elim (node_is primals T.vertices.taken T.vertices.grown n h) [
      | inl e ↦ subst (λ (x : ℕ). In x (vertices_below space cell)) e v_in
      | inr r ↦
          let k = edge_ends space hs regular cell low high r.0.upper (T.vertices.within r.0 r.1) in
          elim (node_end (first_end space) (last_end space) primals T.vertices.taken T.vertices.grown r.0 r.1) [
            | inl e ↦ subst (λ (x : ℕ). In x (vertices_below space cell)) (e ∙ r.2) k.0
            | inr e ↦ subst (λ (x : ℕ). In x (vertices_below space cell)) (e ∙ r.2) k.1
          ]
    ]

    tree-left : (rest : List Cell) → IsAfter (map (λ (p : Link). p.upper) T.cells.pairs) T.cells.taken rest → IsTreeLeft (map (λ (p : Link). p.upper) T.vertices.pairs) T.vertices.taken rest
    tree-left rest h =
        record {
          vertex = λ n i. h.vertex n (taken_in n i);
          vertex_is = λ n i. T.vertices.all n (h.vertex_is n i);
          edge = λ n i. (
              let r = map-In (λ (p : Link). p.upper) primals (holds-In (uppers primals) i) in
              h.edge n (subst (λ (x : ℕ). In x (edges_below space cell)) (sym r.2) (T.vertices.within r.0 r.1)) (ap (holds (uppers duals)) r.2 ∙ T.new r.0 r.1)
              );
          edge_is = λ n i. (
              let r = h.edge_is n i in
              elim (or_cases (holds (uppers primals) n) (holds (uppers duals) n) (T.either n r.0)) [ inl k ↦ k | inr k ↦ absurd (clash (uppers duals) n r.1 k) ]
              );
          none = none;
        }
      where
        none : (d n : ℕ) → In (cell_at (suc (suc d)) n) rest → ⊥
        none zero n i = let r = h.disk_is n i in clash T.cells.taken n r.1 (T.cells.all n r.0)
        none (suc d) n i = h.none d n i

    pub trees_collapse : collapses space (boundary_less space cell face) (onto T.cells.pairs (map vertex_pair T.vertices.pairs)) ≡ true
    trees_collapse =
        disks-go duals T.cells.taken (map vertex_pair primals) T.cells.grown (λ p i. T.cells.within p i)
        (λ rest h. vertices-go v primals T.vertices.taken rest T.vertices.grown (λ p i. edge_range space hs regular cell low high p.upper (T.vertices.within p i)) (tree-left rest h))
