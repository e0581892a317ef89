-- A tree in the making: one node more, and the links that were passed.
use Rattle.std.proofs.Common.{◌≡◌, ◌⊎◌, inl, inr, ℕ, zero, suc, ◌+◌, ◌-◌, ◌<◌, ◌≤◌, List, [], ◌∷◌, ◌++◌, Bool, true, false, cond, eqb, map, reverse, length, take, get_or, refl, ap, sym, ◌∙◌, subst, arith, All}
use Rattle.std.proofs.lemmas.Bool.{false≢true, cases_Bool, cases_eq, eq-eqb, ne_eqb}
use Rattle.std.proofs.lemmas.List.{reverse-append, get_or_append_left, length-append, length-map, length-reverse, take_more}
use Rattle.std.proofs.lemmas.List.Elements.{All-push}
use Rattle.number_lists.specs.Words.{upto, holds}
use Rattle.number_lists.specs.Cofaces.{cells_with}
use Rattle.number_lists.specs.Found.{inserted}
use Rattle.number_lists.specs.Members.{In}
use Rattle.number_lists.proofs.CallerLemmas.{same_bool, In-map, map-In, In-Contains, In-last, In-reverse, reverse-In, holds-In, In-holds, In-at, at-In, In-upto, upto-In, In-filter, filter-In, In-inside}
use Rattle.pair_laws.specs.Tree.{Link, Grown, seed, at_end, at_start}
use Rattle.pair_laws.proofs.CallerLemmas.{grown_length}
use Rattle.sphere_collapses.specs.declared.tree.Taken.{Taken}
use Rattle.sphere_collapses.proofs.Collapsing.{node_is, node_end, node_held}
use Rattle.sphere_collapses.specs.Trees.{IsLink, from_end, to_end, link_of, HasEnds, IsWithin, IsGrowing, IsTaken, IsLonger, across_of, IsPassed, IsCrossing, IsPlaced, IsTree}

pub holds-reverse : (xs : List ℕ) (n : ℕ) → holds (reverse xs) n ≡ holds xs n
holds-reverse xs n = same_bool (holds (reverse xs) n) (holds xs n) (λ e. In-holds (reverse-In xs (holds-In (reverse xs) e))) (λ e. In-holds (In-reverse (holds-In xs e)))

reverse-push : {A : Type 0} (xs : List A) (x : A) → reverse (xs ++ x ∷ []) ≡ x ∷ reverse xs
reverse-push xs x = reverse-append xs (x ∷ [])

module _ (links : List (List ℕ)) where
  abbrev A : ℕ → ℕ
  A = from_end links

  abbrev B : ℕ → ℕ
  B = to_end links

  pub growing-more : (root node link : ℕ) (found new : List ℕ) (tree after : List Taken) → IsTaken node link found new tree after → 1 ≤ link → link ≤ length links
      → ((from_end links link ≡ node) × (holds found (to_end links link) ≡ true)) ⊎ ((to_end links link ≡ node) × (holds found (from_end links link) ≡ true)) → IsGrowing links root found tree → IsGrowing links root new after
  growing-more root node link found new tree after t low high across h = elim (cases_Bool (holds found node)) [
    | inl e ↦ let r = t.there e in subst (λ (ns : List ℕ). IsGrowing links root ns after) (sym r.0) (subst (IsGrowing links root found) (sym r.1) h)
    | inr e ↦
        let r = t.fresh e in
        let x : Taken = record { node = node; link = link } in
        subst (λ (ns : List ℕ). IsGrowing links root ns after) (sym r.0)
        (subst (IsGrowing links root (found ++ node ∷ [])) (sym r.1)
        (record {
          grown = subst (λ (ns : List ℕ). Grown (from_end links) (to_end links) root (map link_of (reverse (tree ++ x ∷ []))) ns) (sym (reverse-push found node))
              (subst (λ (ts : List Taken). Grown (from_end links) (to_end links) root (map link_of ts) (node ∷ reverse found)) (sym (reverse-push tree x)) (one_more x e across));
          within = All-push (IsWithin (length links)) tree x h.within (record { low = low; high = high });
        }))
  ]
    where
      one_more : (x : Taken) → holds found x.node ≡ false → ((from_end links x.link ≡ x.node) × (holds found (to_end links x.link) ≡ true)) ⊎ ((to_end links x.link ≡ x.node) × (holds found (from_end links x.link) ≡ true))
          → Grown (from_end links) (to_end links) root (link_of x ∷ map link_of (reverse tree)) (x.node ∷ reverse found)
      one_more x e (inl a) = at_end (link_of x) h.grown a.0 (holds-reverse found x.node ∙ e) (holds-reverse found (to_end links x.link) ∙ a.1)
      one_more x e (inr a) = at_start (link_of x) h.grown a.0 (holds-reverse found x.node ∙ e) (holds-reverse found (from_end links x.link) ∙ a.1)

  pub growing-begun : (root : ℕ) → IsGrowing links root (root ∷ []) []
  growing-begun root = record { grown = seed; within = λ k d l. absurd (omega (arith, l)) }

  -- what was there stays
  pub longer-same : (xs : List ℕ) → IsLonger xs xs
  longer-same xs = record { stays = λ k l. refl; longer = omega arith }

  pub longer-on : (xs ys zs : List ℕ) → IsLonger xs ys → IsLonger ys zs → IsLonger xs zs
  longer-on xs ys zs a b = record { stays = λ k l. b.stays k (omega (arith, l, a.longer)) ∙ a.stays k l; longer = omega (arith, a.longer, b.longer) }

  pub longer-taken : (node link : ℕ) (found new : List ℕ) (tree after : List Taken) → IsTaken node link found new tree after → IsLonger found new × (holds new node ≡ true)
  longer-taken node link found new tree after t = elim (cases_Bool (holds found node)) [
    | inl e ↦ let r = t.there e in (subst (IsLonger found) (sym r.0) (longer-same found), ap (λ (ns : List ℕ). holds ns node) r.0 ∙ e)
    | inr e ↦
        let r = t.fresh e in (
          subst (IsLonger found) (sym r.0) (record { stays = λ k l. get_or_append_left found (node ∷ []) 0 k l; longer = omega (arith, length-append found (node ∷ [])) }),
          ap (λ (ns : List ℕ). holds ns node) r.0 ∙ In-holds (In-last found node),
        )
  ]

  pub longer-holds : (old new : List ℕ) (n : ℕ) → IsLonger old new → holds old n ≡ true → holds new n ≡ true
  longer-holds old new n h e =
      let k = In-at (holds-In old e) in
      In-holds (subst (λ (x : ℕ). In x new) (h.stays k.0 k.1 ∙ k.2) (at-In new k.0 0 (omega (arith, k.1, h.longer))))

  pub longer-ends : (old new es : List ℕ) → IsLonger old new → All (HasEnds links old) es → All (HasEnds links new) es
  longer-ends old new es h a k d l = let r = a k d l in record { from_there = longer-holds old new (from_end links (get_or es k d)) h r.from_there; to_there = longer-holds old new (to_end links (get_or es k d)) h r.to_there }

  -- ---- the links at a node

  module _ (nodes : ℕ) (h : All (IsLink nodes) links) where
    pub link_at : (e : ℕ) → 1 ≤ e → e ≤ length links → IsLink nodes (get_or links (e - 1) [])
    link_at e low high = h (e - 1) [] (omega (arith, low, high))

    pub record IsAt (node e : ℕ) : Type 0 where
      pub low : 1 ≤ e
      pub high : e ≤ length links
      pub one : (from_end links e ≡ node) ⊎ (to_end links e ≡ node)

    pub at_node : (node k d : ℕ) → k < length (cells_with links node) → IsAt node (get_or (cells_with links node) k d)
    at_node node k d l =
        let e : ℕ = get_or (cells_with links node) k d in
        let i : In e (cells_with links node) = at-In (cells_with links node) k d l in
        let w = upto-In (length links) e (In-inside (λ n. holds (get_or links (n - 1) []) node) (upto (length links)) i) in
        record { low = w.0; high = w.1; one = by_place (get_or links (e - 1) []) node (link_at e w.0 w.1).two (holds-In (get_or links (e - 1) []) (filter-In (λ n. holds (get_or links (n - 1) []) node) (upto (length links)) i)) }
      where
        by_place : (xs : List ℕ) (n : ℕ) → length xs ≡ 2 → In n xs → (get_or xs 0 0 ≡ n) ⊎ (get_or xs 1 0 ≡ n)
        by_place xs n two i = let k = In-at i in by k.0 (omega (arith, k.1, two)) k.2
          where
            by : (k : ℕ) → k < 2 → get_or xs k 0 ≡ n → (get_or xs 0 0 ≡ n) ⊎ (get_or xs 1 0 ≡ n)
            by zero l e = inl e
            by (suc zero) l e = inr e
            by (suc (suc k)) l e = absurd (omega arith)

    pub ends_range : (e : ℕ) → 1 ≤ e → e ≤ length links → ((1 ≤ from_end links e) × (from_end links e ≤ nodes)) × ((1 ≤ to_end links e) × (to_end links e ≤ nodes))
    ends_range e low high = let r = link_at e low high in (r.rising.within 0 0 (omega (arith, r.two)), r.rising.within 1 0 (omega (arith, r.two)))

    -- each end has the link
    pub at_from : (e : ℕ) → 1 ≤ e → e ≤ length links → In e (cells_with links (from_end links e)) × In e (cells_with links (to_end links e))
    at_from e low high =
        let r = link_at e low high in
        let has : ℕ → ℕ → Bool = λ node n. holds (get_or links (n - 1) []) node in (
          In-filter (has (from_end links e)) (In-upto (length links) e low high) (In-holds (at-In (get_or links (e - 1) []) 0 0 (omega (arith, r.two)))),
          In-filter (has (to_end links e)) (In-upto (length links) e low high) (In-holds (at-In (get_or links (e - 1) []) 1 0 (omega (arith, r.two)))),
        )

    -- ---- the search

    -- the nodes that were taken are nodes
    pub nodes_in : (root : ℕ) (found : List ℕ) (tree : List Taken) → 1 ≤ root → root ≤ nodes → IsGrowing links root found tree → (n : ℕ) → holds found n ≡ true → (1 ≤ n) × (n ≤ nodes)
    nodes_in root found tree low high g n e = elim (node_is (map link_of (reverse tree)) (reverse found) g.grown n (holds-reverse found n ∙ e)) [
      | inl q ↦ (omega (arith, low, q), omega (arith, high, q))
      | inr r ↦
          let t = map-In link_of (reverse tree) r.1 in
          let c = In-Contains (reverse-In tree t.1) in
          let w : IsWithin (length links) t.0 = subst (IsWithin (length links)) c.2 (g.within c.0 t.0 c.1) in
          let u : r.0.upper ≡ t.0.link = ap (λ (x : Link). x.upper) t.2 in
          let v = ends_range r.0.upper (omega (arith, w.low, u)) (omega (arith, w.high, u)) in
          elim (node_end (from_end links) (to_end links) (map link_of (reverse tree)) (reverse found) g.grown r.0 r.1) [
            | inl k ↦ let z : from_end links r.0.upper ≡ n = k ∙ r.2 in (omega (arith, v.0.0, z), omega (arith, v.0.1, z))
            | inr k ↦ let z : to_end links r.0.upper ≡ n = k ∙ r.2 in (omega (arith, v.1.0, z), omega (arith, v.1.1, z))
          ]
    ]

    pub passed-all : (root head : ℕ) (found : List ℕ) (tree : List Taken) → 1 ≤ root → root ≤ nodes → length found ≤ head → length found ≤ nodes → IsPassed links root head found tree → IsTree links nodes root tree
    passed-all root head found tree low high l most p =
        record {
          taken = found;
          growing = p.growing;
          few = tree_few;
          inside = nodes_in root found tree low high p.growing;
          closed = λ e a b i. (let k = In-at (holds-In found i) in (ends_of e k.0 k.1 (subst (λ (x : ℕ). In e (cells_with links x)) (sym k.2) ((at_from e a b).0))).to_there);
          closed_back = λ e a b i. (let k = In-at (holds-In found i) in (ends_of e k.0 k.1 (subst (λ (x : ℕ). In e (cells_with links x)) (sym k.2) ((at_from e a b).1))).from_there);
        }
      where
        tree_few : length tree ≤ nodes
        tree_few =
            let a : length (reverse found) ≡ suc (length (map link_of (reverse tree))) = grown_length (map link_of (reverse tree)) (reverse found) p.growing.grown in
            omega (arith, a, length-reverse found, length-map (reverse tree) link_of, length-reverse tree, most)

        ends_of : (e k : ℕ) → k < length found → In e (cells_with links (get_or found k 0)) → HasEnds links found e
        ends_of e k lt i = let q = In-at i in subst (HasEnds links found) q.2 (p.passed k (omega (arith, lt, l)) lt q.0 0 q.1)

    pub passed-more : (root head : ℕ) (found new : List ℕ) (tree after : List Taken) → head < length found → IsPassed links root head found tree → IsLonger found new
        → IsGrowing links root new after → All (HasEnds links new) (cells_with links (get_or found head 0)) → IsPassed links root (head + 1) new after
    passed-more root head found new tree after lt p l g now =
        record {
          growing = g;
          passed = λ k a b. elim (cases_eq k head) [
            | inl e ↦ subst (λ (j : ℕ). All (HasEnds links new) (cells_with links (get_or new j 0))) (sym e) (subst (λ (x : ℕ). All (HasEnds links new) (cells_with links x)) (sym (l.stays head lt)) now)
            | inr n ↦
                let c : k < head = omega (arith, a, n) in
                let q : k < length found = omega (arith, c, lt) in
                subst (λ (x : ℕ). All (HasEnds links new) (cells_with links x)) (sym (l.stays k q)) (longer-ends found new (cells_with links (get_or found k 0)) l (p.passed k c q))
          ];
        }

    pub passed-begun : (root : ℕ) (found : List ℕ) (tree : List Taken) → found ≡ root ∷ [] → tree ≡ [] → IsPassed links root 0 found tree
    passed-begun root found tree e f =
        record {
          growing = subst (λ (ns : List ℕ). IsGrowing links root ns tree) (sym e) (subst (IsGrowing links root (root ∷ [])) (sym f) (growing-begun root));
          passed = λ k a b. absurd (omega (arith, a));
        }

  -- ---- the links at one node

  pub crossed : (nodes : ℕ) (h : All (IsLink nodes) links) (node : ℕ) (old : List ℕ) (before : List Taken) (i : ℕ) (found new : List ℕ) (tree after : List Taken) (across : ℕ) → holds old node ≡ true → i < length (cells_with links node)
      → across ≡ across_of (get_or links (get_or (cells_with links node) i 0 - 1) []) node → IsTaken across (get_or (cells_with links node) i 0) found new tree after
      → IsCrossing links old before (cells_with links node) i found tree → IsCrossing links old before (cells_with links node) (i + 1) new after
  crossed nodes h node old before i found new tree after across held lt is t c =
      let at : List ℕ = cells_with links node in
      let e : ℕ = get_or (cells_with links node) i 0 in
      let w : IsAt nodes h node e = at_node nodes h node i 0 lt in
      let got = longer-taken across e found new tree after t in
      let here : holds found node ≡ true = longer-holds old found node c.longer held in
      let now : holds new node ≡ true = longer-holds found new node got.0 here in
      let ways = sides (from_end links e) (to_end links e) node w.one in
      record {
        longer = longer-on old found new c.longer got.0;
        grows = λ root g. growing-more root across e found new tree after t w.low w.high
            (elim ways [
              | inl r ↦ inr (sym (is ∙ r.1), subst (λ (x : ℕ). holds found x ≡ true) (sym r.0) here)
              | inr r ↦ inl (sym (is ∙ r.1), subst (λ (x : ℕ). holds found x ≡ true) (sym r.0) here)
            ]) (c.grows root g);
        taken = subst (All (HasEnds links new)) (sym (take_more at i 0 lt))
            (All-push (HasEnds links new) (take i at) e (longer-ends found new (take i at) got.0 c.taken)
            (elim ways [
              | inl r ↦ record { from_there = subst (λ (x : ℕ). holds new x ≡ true) (sym r.0) now; to_there = subst (λ (x : ℕ). holds new x ≡ true) (is ∙ r.1) got.1 }
              | inr r ↦ record { from_there = subst (λ (x : ℕ). holds new x ≡ true) (is ∙ r.1) got.1; to_there = subst (λ (x : ℕ). holds new x ≡ true) (sym r.0) now }
            ]));
      }
    where
      -- one of the two is this node, and the other lies across
      sides : (a b n : ℕ) → (a ≡ n) ⊎ (b ≡ n) → ((a ≡ n) × (cond (eqb a n) b a ≡ b)) ⊎ ((b ≡ n) × (cond (eqb a n) b a ≡ a))
      sides a b n o = elim (cases_eq a n) [
        | inl q ↦ inl (q, ap (λ (t : Bool). cond t b a) (eq-eqb a n q))
        | inr q ↦ elim o [ inl k ↦ absurd (q k) | inr k ↦ inr (k, ap (λ (t : Bool). cond t b a) (ne_eqb a n q)) ]
      ]

  pub crossing-begun : (old : List ℕ) (before : List Taken) (at : List ℕ) → IsCrossing links old before at 0 old before
  crossing-begun old before at = record { longer = longer-same old; grows = λ root g. g; taken = λ k d l. absurd (omega (arith, l)) }

-- the nodes and links of a tree
pub tree_placed : (links : List (List ℕ)) (nodes root : ℕ) (tree : List Taken) → IsTree links nodes root tree → All (IsPlaced nodes (length links)) tree
tree_placed links nodes root tree h k d l =
    let t : Taken = get_or tree k d in
    let w = h.growing.within k d l in
    let n : holds h.taken t.node ≡ true = sym (holds-reverse h.taken t.node) ∙ node_held (map link_of (reverse tree)) (reverse h.taken) h.growing.grown (link_of t) (In-map link_of (In-reverse (at-In tree k d l))) in
    let r = h.inside t.node n in
    record { node_low = r.0; node_high = r.1; link_low = w.low; link_high = w.high }

-- ---- one node

pub taken_there : (node link : ℕ) (found : List ℕ) (tree : List Taken) → holds found node ≡ true → IsTaken node link found found tree tree
taken_there node link found tree e = record { there = λ k. (refl, refl); fresh = λ k. absurd (false≢true (sym k ∙ e)) }

pub taken_new : (node link : ℕ) (found new : List ℕ) (tree after : List Taken) → holds found node ≡ false → new ≡ inserted found node → after ≡ tree ++ record { node = node; link = link } ∷ [] → IsTaken node link found new tree after
taken_new node link found new tree after e is more =
    record { there = λ k. absurd (false≢true (sym e ∙ k)); fresh = λ k. (is ∙ ap (λ (b : Bool). cond b found (found ++ node ∷ [])) e, more) }

-- what the node across a link of the node is
pub across_range : (links : List (List ℕ)) (nodes : ℕ) (h : All (IsLink nodes) links) (node i across : ℕ) → i < length (cells_with links node) → across ≡ across_of (get_or links (get_or (cells_with links node) i 0 - 1) []) node → (1 ≤ across) × (across ≤ nodes)
across_range links nodes h node i across lt is =
    let w = at_node links nodes h node i 0 lt in
    let r = ends_range links nodes h (get_or (cells_with links node) i 0) w.low w.high in
    by_test (from_end links (get_or (cells_with links node) i 0)) (to_end links (get_or (cells_with links node) i 0)) (eqb (from_end links (get_or (cells_with links node) i 0)) node) r.0 r.1 is
  where
    by_test : (a b : ℕ) (t : Bool) → (1 ≤ a) × (a ≤ nodes) → (1 ≤ b) × (b ≤ nodes) → across ≡ cond t b a → (1 ≤ across) × (across ≤ nodes)
    by_test a b true x y e = (omega (arith, y.0, e), omega (arith, y.1, e))
    by_test a b false x y e = (omega (arith, x.0, e), omega (arith, x.1, e))

-- ---- the same where the links at a node are given

module _ (links : List (List ℕ)) (nodes : ℕ) (h : All (IsLink nodes) links) (node : ℕ) (at : List ℕ) (is : at ≡ cells_with links node) (i : ℕ) (lt : i < length at) where
  pub link_read : (1 ≤ get_or at i 0) × (get_or at i 0 ≤ length links) × (length (get_or links (get_or at i 0 - 1) []) ≡ 2)
  link_read =
      subst (λ (them : List ℕ). i < length them → (1 ≤ get_or them i 0) × (get_or them i 0 ≤ length links) × (length (get_or links (get_or them i 0 - 1) []) ≡ 2)) (sym is)
      (λ l. (let w = at_node links nodes h node i 0 l in (w.low, w.high, (link_at links nodes h (get_or (cells_with links node) i 0) w.low w.high).two))) lt

  pub across_in : (ends : List ℕ) (across : ℕ) → ends ≡ get_or links (get_or at i 0 - 1) [] → across ≡ across_of ends node → (1 ≤ across) × (across ≤ nodes)
  across_in ends across e q =
      subst (λ (them : List ℕ). i < length them → ends ≡ get_or links (get_or them i 0 - 1) [] → (1 ≤ across) × (across ≤ nodes)) (sym is)
      (λ l r. across_range links nodes h node i across l (q ∙ ap (λ (xs : List ℕ). across_of xs node) r)) lt e

  pub crossed_at : (old : List ℕ) (before : List Taken) (found new : List ℕ) (tree after : List Taken) (ends : List ℕ) (across : ℕ) → holds old node ≡ true → ends ≡ get_or links (get_or at i 0 - 1) [] → across ≡ across_of ends node
      → IsTaken across (get_or at i 0) found new tree after → IsCrossing links old before at i found tree → IsCrossing links old before at (i + 1) new after
  crossed_at old before found new tree after ends across held e q t c =
      subst
      (λ (them : List ℕ). i < length them → ends ≡ get_or links (get_or them i 0 - 1) [] → IsTaken across (get_or them i 0) found new tree after → IsCrossing links old before them i found tree → IsCrossing links old before them (i + 1) new after) (sym is)
      (λ l r u d. crossed links nodes h node old before i found new tree after across held l (q ∙ ap (λ (xs : List ℕ). across_of xs node) r) u d) lt e t c
