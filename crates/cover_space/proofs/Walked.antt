-- The sheets over the vertices of a closed cell, along its tree; vertices and edges by their places.
use Rattle.std.proofs.Common.{◌≡◌, ◌⊎◌, inl, inr, ℕ, suc, ◌+◌, ◌-◌, ◌<◌, ◌≤◌, List, [], ◌∷◌, Bool, true, false, cond, length, take, get_or, set, refl, ap, sym, ◌∙◌, subst, arith, All, Contains}
use Rattle.std.specs.List.Sorted.{IsStrictlyIncreasing}
use Rattle.std.proofs.lemmas.Bool.{cases_eq}
use Rattle.std.proofs.lemmas.List.{get_or-set_same, get_or-set_other, length-set, map_more, take_all}
use Rattle.number_lists.specs.Members.{In, here, there}
use Rattle.number_lists.specs.Words.{upto, holds}
use Rattle.number_lists.proofs.CallerLemmas.{In-cases, In-Contains, In-at, at-In, append-In, In-upto, length-upto, length-inside, distinct_rising}
use Rattle.face_poset.specs.Poset.{IsLimited, IsSpace, count, cell_count, facets_of}
use Rattle.face_poset.specs.Below.{IsBelow, facet}
use Rattle.regular_check.specs.declared.cycles.Step.{Step}
use Rattle.regular_check.specs.Rules.{IsRegular}
use Rattle.regular_check.specs.Cycle.{start_of, end_of}
use Rattle.sphere_collapses.specs.declared.tree.Taken.{Taken}
use Rattle.sphere_collapses.specs.Spheres.{first_end, last_end}
use Rattle.sphere_collapses.specs.Places.{number_at, AreFacetPlaces}
use Rattle.sphere_collapses.specs.Trees.{IsLink, IsPlaced, from_end, to_end, IsTree}
use Rattle.sphere_collapses.proofs.CallerLemmas.{place_in, place_once, ends_link, from_vertex, to_vertex, tree_placed}
use Rattle.space_parts.proofs.CallerLemmas.{by_dim}
use Rattle.sheet_laws.specs.Permutations as perms
use Rattle.sheet_laws.specs.Permutations.{InRange, at}
use Rattle.sheet_laws.specs.Labellings.{label}
use Rattle.sheet_laws.proofs.CallerLemmas.{ends-two}
use Rattle.edge_words.specs.Labels.{Labelled}
use Rattle.cover_space.specs.Total.{least_vertex, below, Along, here as at_least, on, sheet}
use Rattle.cover_space.specs.Laws.{SheetsAreAlong}
use Rattle.cover_space.specs.Making.{HasLabelling, IsInside, IsAgreeing}
use Rattle.cover_space.proofs.Inside.{In-closed, closed-In, In-below, below-In, below-range, least-below, first-below, facets_cell}
use Rattle.cover_space.proofs.Labelled.{IsLabelled, is_labelled}
use Rattle.cover_space.proofs.Joining.{along-below}
use Rattle.cover_space.proofs.TreeOrder.{nodes_of, IsStep, step-at, node-in, root-held}
use Rattle.cover_space.proofs.Rising.{below-rises}

-- ---- vertices and edges of a closed cell

module _ (X : List (List (List ℕ))) (hs : IsSpace X) (limited : IsLimited X) (regular : IsRegular X) (d c : ℕ) (r : InRange (count X d) c) where
  abbrev vs : List ℕ
  vs = below X d c 0

  abbrev es : List ℕ
  es = below X d c 1

  pub some-vertex : 1 ≤ length (below X d c 0)
  some-vertex = let k = In-at (In-below X hs d c r (least-below X hs d c r)) in omega (arith, k.1)

  below-few : (e : ℕ) → e ≤ 3 → length (below X d c e) ≤ 60000
  below-few e l =
      let n : length (below X d c e) ≤ length (upto (count X e)) =
      length-inside (below X d c e) (upto (count X e)) (distinct_rising (below X d c e) (below-rises X d c e)) (λ y i. let w = below-range X hs d c r (below-In X hs d c r i) in In-upto (count X e) y w.0 w.1) in
      omega (arith, n, length-upto (count X e), by_dim (λ e. count X e ≤ cell_count X) (omega arith) (omega arith) (omega arith) (omega arith) e l, limited.most)

  pub vertices-few : length (below X d c 0) ≤ 4294967295
  vertices-few = omega (arith, below-few 0 (omega arith))

  pub edges-few : length (below X d c 1) ≤ 4294967295
  edges-few = omega (arith, below-few 1 (omega arith))

  pub edges-in : All (λ e. (1 ≤ e) × (e ≤ count X 1)) (below X d c 1)
  edges-in k z l = below-range X hs d c r (below-In X hs d c r (at-In es k z l))

  pub ends-there : All (λ e. All (Contains (below X d c 0)) (facets_of X 1 e)) (below X d c 1)
  ends-there k z l j y m =
      let e : ℕ = get_or es k z in
      In-Contains (In-below X hs d c r (facet 0 e (get_or (facets_of X 1 e) j y) (below-In X hs d c r (at-In es k z l)) (In-Contains (at-In (facets_of X 1 e) j y m))))

  edge-at : (k : ℕ) → k < length (below X d c 1) → InRange (count X 1) (get_or (below X d c 1) k 0)
  edge-at k l = edges-in k 0 l

  pub links-fit : (ends : List (List ℕ)) → AreFacetPlaces X 1 (below X d c 0) (below X d c 1) ends → All (IsLink (length (below X d c 0))) ends
  links-fit ends h =
      ends_link X es vs ends (below-rises X d c 0) h (λ k l. ends-two X (get_or es k 0) regular (edge-at k l)) (λ k l. (facets_cell X hs 0 (get_or es k 0) (edge-at k l)).rises)

-- ---- the tree

-- the first i nodes of the tree have their sheets
pub record AreWalked (X : List (List (List ℕ))) (of : Labelled) (d c s : ℕ) (tree : List Taken) (i : ℕ) (over : List ℕ) : Type 0 where
  pub long : length over ≡ length (below X d c 0)
  pub along : (n : ℕ) → In n (1 ∷ nodes_of (take i tree)) → Along X of.labels d c s (number_at (below X d c 0) n) (get_or over (n - 1) 0)

pub inside-at : (X : List (List (List ℕ))) (d c : ℕ) (vertices edges : List ℕ) (ends : List (List ℕ)) (tree : List Taken) → IsInside X d c vertices edges ends tree → IsInside X d c (below X d c 0) (below X d c 1) ends tree
inside-at X d c vertices edges ends tree h =
    record {
      vertices_are = refl;
      edges_are = refl;
      ends_are = subst (λ (es : List ℕ). AreFacetPlaces X 1 (below X d c 0) es ends) h.edges_are (subst (λ (vs : List ℕ). AreFacetPlaces X 1 vs edges ends) h.vertices_are h.ends_are);
      tree_is = subst (λ (vs : List ℕ). IsTree ends (length vs) 1 tree) h.vertices_are h.tree_is;
    }

module _ (X : List (List (List ℕ))) (of : Labelled) (hl : HasLabelling X of) (d c : ℕ) (r : InRange (count X d) c) (s : ℕ) (q : InRange of.sheets s) (law : SheetsAreAlong)
    (ends : List (List ℕ)) (tree : List Taken) (I : IsInside X d c (below X d c 0) (below X d c 1) ends tree) where
  abbrev at_vertex : ℕ → ℕ
  at_vertex n = number_at (below X d c 0) n

  labels : IsLabelled X of.sheets of.labels
  labels = is_labelled X of.sheets of.labels hl.labelling

  -- a sheet to which a path leads is the sheet there
  pub told : {w y : ℕ} → Along X of.labels d c s w y → (y ≡ sheet X of.sheets of.labels d c s w) × InRange of.sheets y
  told {w} {y} a =
      let k = law X of.sheets of.labels d c s w hl.valid hl.regular hl.labelling r q (In-closed X hl.valid d c r (along-below X hl.valid hl.regular of.sheets of.labels labels d c r s a)) in
      let e : y ≡ sheet X of.sheets of.labels d c s w = k.only y a in
      (e, subst (InRange of.sheets) (sym e) k.range)

  -- ---- a link

  pub record IsLinked (f : ℕ) : Type 0 where
    pub edge_below : IsBelow X d c 1 (number_at (below X d c 1) f)
    pub edge_range : InRange (count X 1) (number_at (below X d c 1) f)
    pub from_is : number_at (below X d c 0) (from_end ends f) ≡ first_end X (number_at (below X d c 1) f)
    pub to_is : number_at (below X d c 0) (to_end ends f) ≡ last_end X (number_at (below X d c 1) f)
    pub from_range : InRange (length (below X d c 0)) (from_end ends f)
    pub to_range : InRange (length (below X d c 0)) (to_end ends f)
    pub rising : from_end ends f < to_end ends f
    pub two : length (get_or ends (f - 1) []) ≡ 2

  pub linked : (f : ℕ) → InRange (length ends) f → IsLinked f
  linked f w =
      let n : length ends ≡ length (below X d c 1) = I.ends_are.as_many in
      let i : In (number_at (below X d c 1) f) (below X d c 1) = at-In (below X d c 1) (f - 1) 0 (omega (arith, w.0, w.1, n)) in
      let b : IsBelow X d c 1 (number_at (below X d c 1) f) = below-In X hl.valid d c r i in
      let two : (k : ℕ) → k < length (below X d c 1) → length (facets_of X 1 (get_or (below X d c 1) k 0)) ≡ 2 =
      λ k l. ends-two X (get_or (below X d c 1) k 0) hl.regular (below-range X hl.valid d c r (below-In X hl.valid d c r (at-In (below X d c 1) k 0 l))) in
      let up : (k : ℕ) → k < length (below X d c 1) → IsStrictlyIncreasing (facets_of X 1 (get_or (below X d c 1) k 0)) =
      λ k l. (facets_cell X hl.valid 0 (get_or (below X d c 1) k 0) (below-range X hl.valid d c r (below-In X hl.valid d c r (at-In (below X d c 1) k 0 l)))).rises in
      let k : IsLink (length (below X d c 0)) (get_or ends (f - 1) []) = links-fit X hl.valid hl.limited hl.regular d c r ends I.ends_are (f - 1) [] (omega (arith, w.0, w.1)) in
      record {
        edge_below = b;
        edge_range = below-range X hl.valid d c r b;
        from_is = from_vertex X (below X d c 1) (below X d c 0) ends (below-rises X d c 0) I.ends_are two up f w.0 (omega (arith, w.1, n));
        to_is = to_vertex X (below X d c 1) (below X d c 0) ends (below-rises X d c 0) I.ends_are two up f w.0 (omega (arith, w.1, n));
        from_range = k.rising.within 0 0 (omega (arith, k.two));
        to_range = k.rising.within 1 0 (omega (arith, k.two));
        rising = k.rising.rises 0 (omega (arith, k.two));
        two = k.two;
      }

  -- the node taken next
  pub node-placed : (i : ℕ) (z : Taken) → i < length tree → IsPlaced (length (below X d c 0)) (length ends) (get_or tree i z)
  node-placed i z l = tree_placed ends (length (below X d c 0)) 1 tree I.tree_is i z l

  pub link-range : (i : ℕ) (z : Taken) → i < length tree → InRange (length ends) (get_or tree i z).link
  link-range i z l = let p = node-placed i z l in (p.link_low, p.link_high)

  -- ---- one step

  -- written at one more node
  walked-more : (i : ℕ) (z : Taken) (over : List ℕ) (y : ℕ) → i < length tree → AreWalked X of d c s tree i over → Along X of.labels d c s (number_at (below X d c 0) (get_or tree i z).node) y → AreWalked X of d c s tree (i + 1) (set over ((get_or tree i z).node - 1) y)
  walked-more i z over y l h a =
      let n : ℕ = (get_or tree i z).node in
      let p = node-placed i z l in
      let lt : n - 1 < length over = omega (arith, p.node_low, p.node_high, h.long) in
      let new : Along X of.labels d c s (number_at (below X d c 0) n) (get_or (set over (n - 1) y) (n - 1) 0) = subst (λ (x : ℕ). Along X of.labels d c s (number_at (below X d c 0) n) x) (sym (get_or-set_same over (n - 1) y 0 lt)) a in
      record {
        long = length-set over (n - 1) y ∙ h.long;
        along = λ k j. by k new (split k j);
      }
    where
      n : ℕ
      n = (get_or tree i z).node

      split : (k : ℕ) → In k (1 ∷ nodes_of (take (i + 1) tree)) → In k (1 ∷ nodes_of (take i tree)) ⊎ (k ≡ n)
      split k j = elim (In-cases j) [
        | inl e ↦ inl (subst (λ (x : ℕ). In x (1 ∷ nodes_of (take i tree))) (sym e) here)
        | inr m ↦ elim (append-In (nodes_of (take i tree)) ((get_or tree i z).node ∷ []) (subst (In k) (map_more (λ (t : Taken). t.node) tree i z l) m)) [
          | inl o ↦ inl (there o)
          | inr o ↦ elim (In-cases o) [ inl e ↦ inr e | inr m ↦ elim m [ ] ]
        ]
      ]

      by : (k : ℕ) → Along X of.labels d c s (number_at (below X d c 0) n) (get_or (set over (n - 1) y) (n - 1) 0) → In k (1 ∷ nodes_of (take i tree)) ⊎ (k ≡ n) → Along X of.labels d c s (number_at (below X d c 0) k) (get_or (set over (n - 1) y) (k - 1) 0)
      by k new (inr e) = subst (λ (x : ℕ). Along X of.labels d c s (number_at (below X d c 0) x) (get_or (set over (n - 1) y) (x - 1) 0)) (sym e) new
      by k new (inl j) = elim (cases_eq (k - 1) (n - 1)) [
        | inl e ↦ subst (λ (x : ℕ). Along X of.labels d c s (get_or (below X d c 0) x 0) (get_or (set over (n - 1) y) x 0)) (sym e) new
        | inr f ↦ subst (λ (x : ℕ). Along X of.labels d c s (number_at (below X d c 0) k) x) (sym (get_or-set_other over (n - 1) (k - 1) y 0 f)) (h.along k j)
      ]

  -- the sheet over the last end of the link of a node, where the first end is the node
  pub record IsBack (i : ℕ) (z : Taken) (over : List ℕ) : Type 0 where
    pub sheet_range : InRange of.sheets (get_or over (to_end ends (get_or tree i z).link - 1) 0)
    pub more :
        (y : ℕ) → y ≡ perms.back (label of.labels (number_at (below X d c 1) (get_or tree i z).link)) (get_or over (to_end ends (get_or tree i z).link - 1) 0)
        → AreWalked X of d c s tree (i + 1) (set over ((get_or tree i z).node - 1) y)

  pub record IsForth (i : ℕ) (z : Taken) (over : List ℕ) : Type 0 where
    pub sheet_range : InRange of.sheets (get_or over (from_end ends (get_or tree i z).link - 1) 0)
    pub more :
        (y : ℕ) → y ≡ at (label of.labels (number_at (below X d c 1) (get_or tree i z).link)) (get_or over (from_end ends (get_or tree i z).link - 1) 0)
        → AreWalked X of d c s tree (i + 1) (set over ((get_or tree i z).node - 1) y)

  module _ (i : ℕ) (z : Taken) (over : List ℕ) (l : i < length tree) (h : AreWalked X of d c s tree i over) where
    abbrev t : Taken
    t = get_or tree i z

    k : IsLinked (get_or tree i z).link
    k = linked (get_or tree i z).link (link-range i z l)

    next : IsStep (from_end ends) (to_end ends) (get_or tree i z) (1 ∷ nodes_of (take i tree))
    next = step-at ends (length (below X d c 0)) 1 tree I.tree_is i z l

    pub is-back : from_end ends (get_or tree i z).link ≡ (get_or tree i z).node → IsBack i z over
    is-back e = by next
      where
        by : IsStep (from_end ends) (to_end ends) (get_or tree i z) (1 ∷ nodes_of (take i tree)) → IsBack i z over
        by (inr w) = absurd (omega (arith, k.rising, e, w.0))
        by (inl w) =
            let a = h.along (to_end ends (get_or tree i z).link) w.1 in
            let o : Step = record { edge = number_at (below X d c 1) (get_or tree i z).link; forward = false } in
            let x : ℕ = get_or over (to_end ends (get_or tree i z).link - 1) 0 in
            let b : Along X of.labels d c s (last_end X (number_at (below X d c 1) (get_or tree i z).link)) x = subst (λ (v : ℕ). Along X of.labels d c s v x) k.to_is a in
            let f : Along X of.labels d c s (first_end X (number_at (below X d c 1) (get_or tree i z).link)) (perms.back (label of.labels (number_at (below X d c 1) (get_or tree i z).link)) x) = on {y = x} o (In-closed X hl.valid d c r k.edge_below) b in
            let v : first_end X (number_at (below X d c 1) (get_or tree i z).link) ≡ number_at (below X d c 0) (get_or tree i z).node = sym k.from_is ∙ ap (number_at (below X d c 0)) e in
            record {
              sheet_range = (told a).1;
              more = λ y p. walked-more i z over y l h (subst (λ (x : ℕ). Along X of.labels d c s (number_at (below X d c 0) (get_or tree i z).node) x) (sym p) (subst (λ (v : ℕ). Along X of.labels d c s v (perms.back (label of.labels (number_at (below X d c 1) (get_or tree i z).link)) x)) v f));
            }

    pub is-forth : (from_end ends (get_or tree i z).link ≡ (get_or tree i z).node → ⊥) → IsForth i z over
    is-forth e = by next
      where
        by : IsStep (from_end ends) (to_end ends) (get_or tree i z) (1 ∷ nodes_of (take i tree)) → IsForth i z over
        by (inl w) = absurd (e w.0)
        by (inr w) =
            let a = h.along (from_end ends (get_or tree i z).link) w.1 in
            let o : Step = record { edge = number_at (below X d c 1) (get_or tree i z).link; forward = true } in
            let x : ℕ = get_or over (from_end ends (get_or tree i z).link - 1) 0 in
            let b : Along X of.labels d c s (first_end X (number_at (below X d c 1) (get_or tree i z).link)) x = subst (λ (v : ℕ). Along X of.labels d c s v x) k.from_is a in
            let f : Along X of.labels d c s (last_end X (number_at (below X d c 1) (get_or tree i z).link)) (at (label of.labels (number_at (below X d c 1) (get_or tree i z).link)) x) = on {y = x} o (In-closed X hl.valid d c r k.edge_below) b in
            let v : last_end X (number_at (below X d c 1) (get_or tree i z).link) ≡ number_at (below X d c 0) (get_or tree i z).node = sym k.to_is ∙ ap (number_at (below X d c 0)) w.0 in
            record {
              sheet_range = (told a).1;
              more = λ y p. walked-more i z over y l h (subst (λ (x : ℕ). Along X of.labels d c s (number_at (below X d c 0) (get_or tree i z).node) x) (sym p) (subst (λ (v : ℕ). Along X of.labels d c s v (at (label of.labels (number_at (below X d c 1) (get_or tree i z).link)) x)) v f));
            }

  -- ---- the first and the last

  pub walked-begun : (over : List ℕ) → length over ≡ length (below X d c 0) → AreWalked X of d c s tree 0 (set over 0 s)
  walked-begun over long =
      let lt : 0 < length over = omega (arith, long, some-vertex X hl.valid hl.limited hl.regular d c r) in
      let a : Along X of.labels d c s (number_at (below X d c 0) 1) (get_or (set over 0 s) 0 0) =
      subst (λ (v : ℕ). Along X of.labels d c s v (get_or (set over 0 s) 0 0)) (sym (first-below X hl.valid d c r)) (subst (λ (y : ℕ). Along X of.labels d c s (least_vertex X d c) y) (sym (get_or-set_same over 0 s 0 lt)) at_least) in
      record {
        long = length-set over 0 s ∙ long;
        along = λ n j. elim (In-cases j) [ inl e ↦ subst (λ (x : ℕ). Along X of.labels d c s (number_at (below X d c 0) x) (get_or (set over 0 s) (x - 1) 0)) (sym e) a | inr m ↦ elim m [ ] ];
      }

  -- all vertices of the closed cell are taken
  held : {w y : ℕ} → Along X of.labels d c s w y → (p : ℕ) → InRange (length (below X d c 0)) p → number_at (below X d c 0) p ≡ w → holds I.tree_is.taken p ≡ true
  held at_least p w e =
      let one : InRange (length (below X d c 0)) 1 = (omega arith, some-vertex X hl.valid hl.limited hl.regular d c r) in
      let o : 1 ≡ p = place_once (below X d c 0) (below-rises X d c 0) 1 p one.0 one.1 w.0 w.1 (first-below X hl.valid d c r ∙ sym e) in
      subst (λ (x : ℕ). holds I.tree_is.taken x ≡ true) o (root-held ends (length (below X d c 0)) 1 tree I.tree_is)
  held (on {y} o i a) p w e =
      let j : IsBelow X d c 1 o.edge = closed-In X hl.valid d c r i in
      let f = place_in (below X d c 1) (below-rises X d c 1) o.edge (In-below X hl.valid d c r j) in
      let n : length ends ≡ length (below X d c 1) = I.ends_are.as_many in
      by f.0 (f.1, omega (arith, f.2, n)) f.3 (linked f.0 (f.1, omega (arith, f.2, n))) (held a)
    where
      start-at : (b : Bool) → o.forward ≡ b → start_of X o ≡ get_or (facets_of X 1 o.edge) (cond b 0 1) 0
      start-at b e = ap (λ (b : Bool). get_or (facets_of X 1 o.edge) (cond b 0 1) 0) e

      end-at : (b : Bool) → o.forward ≡ b → end_of X o ≡ get_or (facets_of X 1 o.edge) (cond b 1 0) 0
      end-at b e = ap (λ (b : Bool). get_or (facets_of X 1 o.edge) (cond b 1 0) 0) e

      by : (f : ℕ) → InRange (length ends) f → number_at (below X d c 1) f ≡ o.edge → IsLinked f → ((p : ℕ) → InRange (length (below X d c 0)) p → number_at (below X d c 0) p ≡ start_of X o → holds I.tree_is.taken p ≡ true) → holds I.tree_is.taken p ≡ true
      by f ran g k again = which o.forward refl
        where
          which : (b : Bool) → o.forward ≡ b → holds I.tree_is.taken p ≡ true
          which true q =
              let a1 : number_at (below X d c 0) (from_end ends f) ≡ start_of X o = k.from_is ∙ (ap (first_end X) g ∙ sym (start-at true q)) in
              let z : number_at (below X d c 0) (to_end ends f) ≡ end_of X o = k.to_is ∙ (ap (last_end X) g ∙ sym (end-at true q)) in
              subst (λ (x : ℕ). holds I.tree_is.taken x ≡ true) (place_once (below X d c 0) (below-rises X d c 0) (to_end ends f) p k.to_range.0 k.to_range.1 w.0 w.1 (z ∙ sym e))
              (I.tree_is.closed f ran.0 ran.1 (again (from_end ends f) k.from_range a1))
          which false q =
              let a1 : number_at (below X d c 0) (to_end ends f) ≡ start_of X o = k.to_is ∙ (ap (last_end X) g ∙ sym (start-at false q)) in
              let z : number_at (below X d c 0) (from_end ends f) ≡ end_of X o = k.from_is ∙ (ap (first_end X) g ∙ sym (end-at false q)) in
              subst (λ (x : ℕ). holds I.tree_is.taken x ≡ true) (place_once (below X d c 0) (below-rises X d c 0) (from_end ends f) p k.from_range.0 k.from_range.1 w.0 w.1 (z ∙ sym e))
              (I.tree_is.closed_back f ran.0 ran.1 (again (to_end ends f) k.to_range a1))

  pub walked-all : (i : ℕ) (over : List ℕ) → length tree ≤ i → AreWalked X of d c s tree i over → IsAgreeing (below X d c 0) (sheet X of.sheets of.labels d c s) over
  walked-all i over l h p lt =
      let v : ℕ = get_or (below X d c 0) p 0 in
      let e : suc p - 1 ≡ p = omega arith in
      let b : IsBelow X d c 0 v = below-In X hl.valid d c r (at-In (below X d c 0) p 0 lt) in
      let a = (law X of.sheets of.labels d c s v hl.valid hl.regular hl.labelling r q (In-closed X hl.valid d c r b)).is in
      let t : holds I.tree_is.taken (suc p) ≡ true = held a (suc p) (omega arith, omega (arith, lt)) (ap (λ (n : ℕ). get_or (below X d c 0) n 0) e) in
      let j : In (suc p) (1 ∷ nodes_of (take i tree)) = subst (λ (ts : List Taken). In (suc p) (1 ∷ nodes_of ts)) (sym (take_all i tree l)) (node-in ends (length (below X d c 0)) 1 tree I.tree_is (suc p) t) in
      let k = (told (h.along (suc p) j)).0 in
      subst (λ (n : ℕ). get_or over n 0 ≡ sheet X of.sheets of.labels d c s (get_or (below X d c 0) n 0)) e k
