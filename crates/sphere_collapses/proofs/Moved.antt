-- A grown tree whose nodes and links get other numbers; distinct lists; all edges used.
use Rattle.std.proofs.Common.{◌≡◌, ◌⊎◌, inl, inr, ℕ, suc, ◌≤◌, List, [], ◌∷◌, ◌++◌, Bool, true, false, ◌||◌, not, map, filter, eqb, length, refl, ap, sym, ◌∙◌, subst, arith}
use Rattle.std.proofs.lemmas.Bool.{false≢true, and_from, and_parts, cases_Bool, false_from_ne_true, eq-eqb, or_left, or_right}
use Rattle.std.proofs.lemmas.List.{length-append, length-map}
use Rattle.number_lists.specs.Words.{holds}
use Rattle.number_lists.specs.Members.{In, here, there}
use Rattle.number_lists.proofs.CallerLemmas.{any-In, In-map, map-In, In-all, In-filter, filter-In, In-inside, append-In, holds-In, In-holds}
use Rattle.pair_laws.specs.Joins.{Joins, stay, forth, back}
use Rattle.pair_laws.specs.Tree.{Link, Grown, seed, at_end, at_start, distinct, HasTree}
use Rattle.pair_laws.specs.Sphere.{IsSphere, HasTrees, swap}
use Rattle.pair_laws.specs.Ranks.{others, is_lower, ordered}
use Rattle.pair_laws.proofs.CallerLemmas.{joins-through, grown_distinct, grown_length, nodes_distinct, no_more, all_of, all-flat, dual_ordered}
use Rattle.sphere_collapses.proofs.Frees.{turned, not_yet}
use Rattle.sphere_collapses.proofs.Collapsing.{uppers, node_end}

-- ---- other numbers

held : (x n : ℕ) (ns : List ℕ) → holds ns n ≡ true → holds (x ∷ ns) n ≡ true
held x n ns e = or_right (eqb x n) (holds ns n) e

module _ (A B A' B' φ ψ : ℕ → ℕ) where
  abbrev pub moved : Link → Link
  moved p = record { lower = φ p.lower; upper = ψ p.upper }

  fresh : (ns : List ℕ) (n : ℕ) → holds ns n ≡ false → ((m : ℕ) → holds ns m ≡ true → φ n ≡ φ m → n ≡ m) → holds (map φ ns) (φ n) ≡ false
  fresh ns n f once = false_from_ne_true (holds (map φ ns) (φ n)) (λ e. (let r = map-In φ ns (holds-In (map φ ns) e) in false≢true (sym f ∙ ap (holds ns) (once r.0 (In-holds r.1) r.2) ∙ In-holds r.1)))

  pub grown-moved : (root : ℕ) (ps : List Link) (ns : List ℕ) → Grown A B root ps ns → ((p : Link) → In p ps → (A' (ψ p.upper) ≡ φ (A p.upper)) × (B' (ψ p.upper) ≡ φ (B p.upper)))
      → ((a b : ℕ) → holds ns a ≡ true → holds ns b ≡ true → φ a ≡ φ b → a ≡ b) → Grown A' B' (φ root) (map (λ (p : Link). moved p) ps) (map φ ns)
  grown-moved root [] ns seed ends once = seed
  grown-moved root (p ∷ ps) [] h ends once = elim h [ ]
  grown-moved root (p ∷ ps) (n ∷ ns) (at_end q g e f t) ends once =
      at_end (moved q) (grown-moved root ps ns g (λ x i. ends x (there i)) (λ a b i j. once a b (held q.lower a ns i) (held q.lower b ns j)))
      ((ends q here).0 ∙ ap φ e)
      (fresh ns q.lower f (λ m i. once q.lower m (In-holds {x = q.lower} {xs = q.lower ∷ ns} here) (held q.lower m ns i)))
      (ap (holds (map φ ns)) ((ends q here).1) ∙ In-holds (In-map φ (holds-In ns t)))
  grown-moved root (p ∷ ps) (n ∷ ns) (at_start q g e f t) ends once =
      at_start (moved q) (grown-moved root ps ns g (λ x i. ends x (there i)) (λ a b i j. once a b (held q.lower a ns i) (held q.lower b ns j)))
      ((ends q here).1 ∙ ap φ e)
      (fresh ns q.lower f (λ m i. once q.lower m (In-holds {x = q.lower} {xs = q.lower ∷ ns} here) (held q.lower m ns i)))
      (ap (holds (map φ ns)) ((ends q here).0) ∙ In-holds (In-map φ (holds-In ns t)))

-- where of each link both nodes were taken, or neither, all that is joined to the root was taken
pub joined_taken : {A B : ℕ → ℕ} {ok : ℕ → Bool} {u w : ℕ} (ns : List ℕ) → ((e : ℕ) → ok e ≡ true → (holds ns (A e) ≡ true → holds ns (B e) ≡ true) × (holds ns (B e) ≡ true → holds ns (A e) ≡ true)) → Joins A B ok u w → holds ns u ≡ true → holds ns w ≡ true
joined_taken ns k stay h = h
joined_taken ns k (forth e o j) h = joined_taken ns k j ((k e o).0 h)
joined_taken ns k (back e o j) h = joined_taken ns k j ((k e o).1 h)

-- a tree with all nodes
pub has_tree : (A B : ℕ → ℕ) (root : ℕ) (nodes links : List ℕ) (ps : List Link) (ns : List ℕ) → Grown A B root ps ns → distinct nodes ≡ true → ((n : ℕ) → In n ns → In n nodes) → ((p : Link) → In p ps → In p.upper links)
    → ((n : ℕ) → In n nodes → holds ns n ≡ true) → (T : HasTree A B root nodes links) × (T.pairs ≡ ps)
has_tree A B root nodes links ps ns g once i l a = (
  record {
    pairs = ps;
    taken = ns;
    grown = g;
    all = a;
    within = l;
    number = (
        let x : length ns ≤ length nodes = no_more ns nodes (nodes_distinct ps ns g) i in
        let y : length nodes ≤ length ns = no_more nodes ns once (λ n k. holds-In ns (a n k)) in
        let z : length ns ≡ suc (length ps) = grown_length ps ns g in
        omega (arith, x, y, z)
        );
  },
  refl,
)

-- ---- distinct lists joined

distinct-append : (xs ys : List ℕ) → distinct xs ≡ true → distinct ys ≡ true → ((x : ℕ) → In x xs → In x ys → ⊥) → distinct (xs ++ ys) ≡ true
distinct-append [] ys d e k = e
distinct-append (x ∷ xs) ys d e k =
    let r = and_parts (not (holds xs x)) (distinct xs) d in
    and_from (not (holds (xs ++ ys) x)) (distinct (xs ++ ys))
    (not_yet (holds (xs ++ ys) x) (λ h. elim (append-In xs ys (holds-In (xs ++ ys) h)) [ inl i ↦ false≢true (sym (turned (holds xs x) r.0) ∙ In-holds i) | inr i ↦ k x here i ]))
    (distinct-append xs ys r.1 e (λ y i j. k y (there i) j))

-- ---- the two trees

module _ (vs es cs : List ℕ) (A B L R : ℕ → ℕ) (F : ℕ → List ℕ) (b v : ℕ) (S : IsSphere vs es cs A B L R F) (dual : HasTree L R b cs es) where
  abbrev pub links_of : List ℕ
  links_of = map (λ (p : Link). p.upper) dual.pairs

  -- the edges that are no links of the tree of 2-cells
  abbrev pub free_edges : List ℕ
  free_edges = filter (λ e. not (holds (map (λ (p : Link). p.upper) dual.pairs) e)) es

  Spans : ℕ → Type 0
  Spans e = Joins A B (holds (filter (λ e. not (holds (map (λ (p : Link). p.upper) dual.pairs) e)) es)) (A e) (B e)

  order : ordered F (map swap dual.pairs) ≡ true
  order = dual_ordered F L R b dual.pairs dual.taken S.two dual.grown

  spans_free : (e : ℕ) → In e es → holds (map (λ (p : Link). p.upper) dual.pairs) e ≡ false → Spans e
  unfolding Spans
  spans_free e i k = forth e (In-holds (In-filter (λ e. not (holds (map (λ (p : Link). p.upper) dual.pairs) e)) i (ap not k))) stay

  cell_of : (p : Link) → In p dual.pairs → In p.lower cs × In p.upper (F p.lower)
  cell_of p i = elim (node_end L R dual.pairs dual.taken dual.grown p i) [
    | inl e ↦ (subst (λ (x : ℕ). In x cs) e ((S.sides p.upper (dual.within p i)).0), subst (λ (x : ℕ). In p.upper (F x)) e ((S.has p.upper (dual.within p i)).0))
    | inr e ↦ (subst (λ (x : ℕ). In x cs) e ((S.sides p.upper (dual.within p i)).1), subst (λ (x : ℕ). In p.upper (F x)) e ((S.has p.upper (dual.within p i)).1))
  ]

  swapped : (q : Link) → In q (map swap dual.pairs) → In q.upper cs × In q.lower (F q.upper)
  swapped q i = let r = map-In swap dual.pairs i in subst (λ (x : Link). In x.upper cs × In x.lower (F x.upper)) (sym r.2) (cell_of r.0 r.1)

  spans_dual : (q : Link) → In q (map swap dual.pairs) → Spans q.lower
  unfolding Spans
  spans_dual =
      all-flat F (λ e. Joins A B (holds (filter (λ e. not (holds (map (λ (p : Link). p.upper) dual.pairs) e)) es)) (A e) (B e)) (map swap dual.pairs)
      (λ q i h. joins-through A B (λ g o. h g (holds-In (others F q) o)) (S.opens q.upper q.lower ((swapped q i).0) ((swapped q i).1))) order
      (λ q g i j n. spans_free g (S.edges q.upper g ((swapped q i).0) (In-inside (λ x. not (eqb x q.lower)) (F q.upper) j)) (none g n))
    where
      none : (g : ℕ) → is_lower (map swap dual.pairs) g ≡ false → holds (map (λ (p : Link). p.upper) dual.pairs) g ≡ false
      none g n =
          false_from_ne_true (holds (map (λ (p : Link). p.upper) dual.pairs) g)
          (λ e. (let r = map-In (λ (p : Link). p.upper) dual.pairs (holds-In (map (λ (p : Link). p.upper) dual.pairs) e) in
          false≢true (sym n ∙ any-In (λ (q : Link). eqb q.lower g) (In-map swap r.1) (eq-eqb r.0.upper g (sym r.2)))))

  pub spans : (e : ℕ) → In e es → Joins A B (holds (filter (λ e. not (holds (map (λ (p : Link). p.upper) dual.pairs) e)) es)) (A e) (B e)
  unfolding Spans
  spans e i = elim (cases_Bool (holds (uppers dual.pairs) e)) [
    | inl k ↦ let r = map-In (λ (p : Link). p.upper) dual.pairs (holds-In (uppers dual.pairs) k) in subst (λ (x : ℕ). Joins A B (holds (filter (λ e. not (holds (map (λ (p : Link). p.upper) dual.pairs) e)) es)) (A x) (B x)) (sym r.2) (spans_dual (swap r.0) (In-map swap r.1))
    | inr k ↦ spans_free e i k
  ]

  -- with a tree of vertices along the other edges all edges are used
  pub both_trees : (primal : HasTree A B v vs (filter (λ e. not (holds (map (λ (p : Link). p.upper) dual.pairs) e)) es)) → (H : HasTrees vs es cs A B L R F b v) × (H.cells.pairs ≡ dual.pairs) × (H.vertices.pairs ≡ primal.pairs)
  both_trees primal = (
    record {
      cells = dual;
      vertices = record { pairs = primal.pairs; taken = primal.taken; grown = primal.grown; all = primal.all; within = λ p i. In-inside (λ e. not (holds (map (λ (p : Link). p.upper) dual.pairs) e)) es (primal.within p i); number = primal.number };
      in_order = order;
      new = new;
      either = either;
    },
    refl,
    refl,
  )
    where
      new : (p : Link) → In p primal.pairs → holds (map (λ (p : Link). p.upper) dual.pairs) p.upper ≡ false
      new p i = turned (holds (map (λ (p : Link). p.upper) dual.pairs) p.upper) (filter-In (λ e. not (holds (map (λ (p : Link). p.upper) dual.pairs) e)) es (primal.within p i))

      once : distinct (uppers primal.pairs ++ uppers dual.pairs) ≡ true
      once =
          distinct-append (uppers primal.pairs) (uppers dual.pairs) (grown_distinct A B v primal.pairs primal.taken primal.grown) (grown_distinct L R b dual.pairs dual.taken dual.grown)
          (λ x i j. (let r = map-In (λ (p : Link). p.upper) primal.pairs i in false≢true (sym (new r.0 r.1) ∙ (ap (holds (uppers dual.pairs)) (sym r.2) ∙ In-holds j))))

      inside : (x : ℕ) → In x (uppers primal.pairs) ⊎ In x (uppers dual.pairs) → holds es x ≡ true
      inside x (inl i) = let r = map-In (λ (p : Link). p.upper) primal.pairs i in ap (holds es) r.2 ∙ In-holds (In-inside (λ e. not (holds (map (λ (p : Link). p.upper) dual.pairs) e)) es (primal.within r.0 r.1))
      inside x (inr i) = let r = map-In (λ (p : Link). p.upper) dual.pairs i in ap (holds es) r.2 ∙ In-holds (dual.within r.0 r.1)

      long : length es ≤ length (uppers primal.pairs ++ uppers dual.pairs)
      long =
          omega (arith, S.number, primal.number, dual.number, length-append (uppers primal.pairs) (uppers dual.pairs), length-map primal.pairs (λ (p : Link). p.upper), length-map dual.pairs (λ (p : Link). p.upper))

      either : (e : ℕ) → In e es → (holds (map (λ (p : Link). p.upper) primal.pairs) e || holds (map (λ (p : Link). p.upper) dual.pairs) e) ≡ true
      either e i =
          by_part (append-In (uppers primal.pairs) (uppers dual.pairs)
          (holds-In (uppers primal.pairs ++ uppers dual.pairs)
          (all_of (uppers primal.pairs ++ uppers dual.pairs) es once (In-all (holds es) (uppers primal.pairs ++ uppers dual.pairs) (λ x j. inside x (append-In (uppers primal.pairs) (uppers dual.pairs) j))) long e i)))
        where
          by_part : In e (uppers primal.pairs) ⊎ In e (uppers dual.pairs) → (holds (uppers primal.pairs) e || holds (uppers dual.pairs) e) ≡ true
          by_part (inl j) = or_left (holds (uppers primal.pairs) e) (holds (uppers dual.pairs) e) (In-holds j)
          by_part (inr j) = or_right (holds (uppers primal.pairs) e) (holds (uppers dual.pairs) e) (In-holds j)
