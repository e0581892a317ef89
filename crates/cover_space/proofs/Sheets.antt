-- The sheet of a cell over a vertex: the computed one, the one to which edge paths lead, and the one of each choice are the same.
use Rattle.std.proofs.Common.{◌≡◌, inl, inr, ◌⊎◌, ℕ, suc, ◌≤◌, List, [], ◌∷◌, map, filter, eqb, Bool, true, false, ◌&&◌, ◌||◌, get_or, refl, ap, sym, ◌∙◌, subst, Contains}
use Rattle.std.specs.List.{list_any}
use Rattle.std.proofs.lemmas.Bool.{eqb-true, eq-eqb, and_parts, and_from, or_left, or_right, or_cases}
use Rattle.number_lists.specs.Members.{In, here}
use Rattle.number_lists.specs.Words.{upto, holds}
use Rattle.number_lists.specs.Reach.{reaches, Reaches, at_start, on as reach_on}
use Rattle.number_lists.proofs.CallerLemmas.{In-filter, filter-In, In-inside, any-In, any-some, In-holds, In-upto, upto-In, In-map, In-flat_map, reaches_is}
use Rattle.face_poset.specs.Poset.{IsSpace, count, facets_of}
use Rattle.face_poset.specs.Below.{cell_at, closed_cell, IsBelow, itself, facet}
use Rattle.regular_check.specs.declared.cycles.Step.{Step}
use Rattle.regular_check.specs.Rules.{IsRegular}
use Rattle.regular_check.specs.Cycle.{start_of, end_of}
use Rattle.sphere_collapses.specs.Spheres.{first_end, last_end}
use Rattle.sheet_laws.specs.Permutations as perms
use Rattle.sheet_laws.specs.Permutations.{InRange, at}
use Rattle.sheet_laws.specs.Labellings.{label, step}
use Rattle.sheet_laws.proofs.CallerLemmas.{ends-of, same_vertex, same_sheet, back_turn, turn_of, at-of-back, back-of-at, label-permutes}
use Rattle.cover_space.specs.Total.{least_vertex, sheeted, below, Along, here as at_least, on, leads, places, sheet}
use Rattle.cover_space.specs.Laws.{IsChoice, HasOneChoice, IsSheet}
use Rattle.cover_space.proofs.Inside.{below-range, below-then, In-closed, closed-In, In-below, below-In, least-below}
use Rattle.cover_space.proofs.Labelled.{IsLabelled}
use Rattle.cover_space.proofs.Joining.{HasRoot, choice, leads-to, ends-there, along-range, along-below}
use Rattle.cover_space.proofs.Solids.{Given, has_root}

-- the first of a list that has one number alone
first-one : (xs : List ℕ) (z : ℕ) → In z xs → ((y : ℕ) → In y xs → y ≡ z) → get_or xs 0 0 ≡ z
first-one [] z i h = elim i [ ]
first-one (x ∷ xs) z i h = h x here

module _ (G : Given) (X : List (List (List ℕ))) (hs : IsSpace X) (regular : IsRegular X) (m : ℕ) (u : List (List ℕ)) (h : IsLabelled X m u) (d c s : ℕ) (r : InRange (count X d) c) (q : InRange m s) where
  root : HasRoot X m u d c
  root = has_root G X hs regular m u h d c r

  along-in : {w y : ℕ} → Along X u d c s w y → InRange m y
  along-in a = along-range X hs regular m u h d c r s root q a

  vertex-low : {w : ℕ} → IsBelow X d c 0 w → 1 ≤ w
  vertex-low i = (below-range X hs d c r i).0

  -- ---- from paths to rounds

  In-places : {w y : ℕ} → IsBelow X d c 0 w → InRange m y → In (sheeted m w y) (places X m d c)
  In-places {w} {y} i p = In-flat_map (λ v. map (sheeted m v) (upto m)) (In-below X hs d c r i) (In-map (sheeted m w) (In-upto m y p.0 p.1))

  place-start : holds (places X m d c) (sheeted m (least_vertex X d c) s) ≡ true
  place-start = In-holds (In-places (least-below X hs d c r) q)

  abbrev goes : ℕ → ℕ → Bool
  goes = leads X m u (below X d c 1)

  edge-forth : (e x : ℕ) → IsBelow X d c 1 e → InRange m x → leads X m u (below X d c 1) (sheeted m (first_end X e) x) (sheeted m (last_end X e) (at (label u e) x)) ≡ true
  edge-forth e x i p =
      let a : ℕ = sheeted m (first_end X e) x in
      let b : ℕ = sheeted m (last_end X e) (at (label u e) x) in
      any-In (λ e. list_any (λ x. (eqb a (sheeted m (first_end X e) x) && eqb b (sheeted m (last_end X e) (at (label u e) x))) || (eqb a (sheeted m (last_end X e) (at (label u e) x)) && eqb b (sheeted m (first_end X e) x))) (upto m)) (In-below X hs d c r i)
      (any-In (λ x. (eqb a (sheeted m (first_end X e) x) && eqb b (sheeted m (last_end X e) (at (label u e) x))) || (eqb a (sheeted m (last_end X e) (at (label u e) x)) && eqb b (sheeted m (first_end X e) x))) (In-upto m x p.0 p.1)
      (or_left (eqb a a && eqb b b) (eqb a b && eqb b a) (and_from (eqb a a) (eqb b b) (eq-eqb a a refl) (eq-eqb b b refl))))

  edge-back : (e x : ℕ) → IsBelow X d c 1 e → InRange m x → leads X m u (below X d c 1) (sheeted m (last_end X e) (at (label u e) x)) (sheeted m (first_end X e) x) ≡ true
  edge-back e x i p =
      let a : ℕ = sheeted m (first_end X e) x in
      let b : ℕ = sheeted m (last_end X e) (at (label u e) x) in
      any-In (λ e. list_any (λ x. (eqb b (sheeted m (first_end X e) x) && eqb a (sheeted m (last_end X e) (at (label u e) x))) || (eqb b (sheeted m (last_end X e) (at (label u e) x)) && eqb a (sheeted m (first_end X e) x))) (upto m)) (In-below X hs d c r i)
      (any-In (λ x. (eqb b (sheeted m (first_end X e) x) && eqb a (sheeted m (last_end X e) (at (label u e) x))) || (eqb b (sheeted m (last_end X e) (at (label u e) x)) && eqb a (sheeted m (first_end X e) x))) (In-upto m x p.0 p.1)
      (or_right (eqb b a && eqb a b) (eqb b b && eqb a a) (and_from (eqb b b) (eqb a a) (eq-eqb b b refl) (eq-eqb a a refl))))

  permutation : (e : ℕ) → IsBelow X d c 1 e → perms.is_permutation m (label u e) ≡ true
  permutation e i = label-permutes m (count X 1) u h.long h.permutations e (below-range X hs d c r i)

  edge-against : (e y : ℕ) → IsBelow X d c 1 e → InRange m y → leads X m u (below X d c 1) (sheeted m (last_end X e) y) (sheeted m (first_end X e) (perms.back (label u e) y)) ≡ true
  edge-against e y i p =
      subst (λ (n : ℕ). leads X m u (below X d c 1) (sheeted m (last_end X e) n) (sheeted m (first_end X e) (perms.back (label u e) y)) ≡ true) (at-of-back m (label u e) (permutation e i) y p)
      (edge-back e (perms.back (label u e) y) i ((back_turn m (label u e) (permutation e i)).into y p))

  to-rounds : {w y : ℕ} → Along X u d c s w y → Reaches (leads X m u (below X d c 1)) (places X m d c) (sheeted m (least_vertex X d c) s) (sheeted m w y)
  to-rounds at_least = at_start
  to-rounds (on {y} t i a) = by t.forward refl (to-rounds a) (along-in a) (In-holds (In-places (along-below X hs regular m u h d c r s (on {y = y} t i a)) (along-in (on {y = y} t i a))))
    where
      j : IsBelow X d c 1 t.edge
      j = closed-In X hs d c r i

      by : (b : Bool) → t.forward ≡ b → Reaches (leads X m u (below X d c 1)) (places X m d c) (sheeted m (least_vertex X d c) s) (sheeted m (start_of X t) y) → InRange m y
          → holds (places X m d c) (sheeted m (end_of X t) (step u t y)) ≡ true → Reaches (leads X m u (below X d c 1)) (places X m d c) (sheeted m (least_vertex X d c) s) (sheeted m (end_of X t) (step u t y))
      by true e k p n = reach_on k (rw e (edge-forth t.edge y j p)) n
      by false e k p n = reach_on k (rw e (edge-against t.edge y j p)) n

  -- ---- and back

  record IsPlace (p : ℕ) : Type 0 where
    pub vertex : ℕ
    pub at_sheet : ℕ
    pub along : Along X u d c s vertex at_sheet
    pub is : p ≡ sheeted m vertex at_sheet

  -- a place that is the number of a sheet over a vertex
  placed : (p w y : ℕ) → IsPlace p → 1 ≤ w → InRange m y → p ≡ sheeted m w y → Along X u d c s w y
  placed p w y k l n e =
      let a : sheeted m k.vertex k.at_sheet ≡ sheeted m w y = sym k.is ∙ e in
      let v : k.vertex ≡ w = same_vertex m k.vertex w k.at_sheet y (vertex-low (along-below X hs regular m u h d c r s k.along)) l (along-in k.along) n a in
      let z : k.at_sheet ≡ y = same_sheet m k.vertex w k.at_sheet y (along-in k.along) n a in
      subst (λ (w : ℕ). Along X u d c s w y) v (subst (λ (y : ℕ). Along X u d c s k.vertex y) z k.along)

  one-more : (p z : ℕ) → IsPlace p → leads X m u (below X d c 1) p z ≡ true → IsPlace z
  one-more p z k t =
      let e = any-some (λ e. list_any (λ x. (eqb p (sheeted m (first_end X e) x) && eqb z (sheeted m (last_end X e) (at (label u e) x))) || (eqb p (sheeted m (last_end X e) (at (label u e) x)) && eqb z (sheeted m (first_end X e) x))) (upto m)) (below X d c 1) t in
      let x = any-some (λ x. (eqb p (sheeted m (first_end X e.0) x) && eqb z (sheeted m (last_end X e.0) (at (label u e.0) x))) || (eqb p (sheeted m (last_end X e.0) (at (label u e.0) x)) && eqb z (sheeted m (first_end X e.0) x))) (upto m) e.2 in
      by e.0 x.0 (below-In X hs d c r e.1) (upto-In m x.0 x.1) (or_cases _ _ x.2)
    where
      by : (e x : ℕ) → IsBelow X d c 1 e → InRange m x
          → (eqb p (sheeted m (first_end X e) x) && eqb z (sheeted m (last_end X e) (at (label u e) x)) ≡ true) ⊎ (eqb p (sheeted m (last_end X e) (at (label u e) x)) && eqb z (sheeted m (first_end X e) x) ≡ true) → IsPlace z
      by e x i n (inl b) =
          let w = and_parts (eqb p (sheeted m (first_end X e) x)) (eqb z (sheeted m (last_end X e) (at (label u e) x))) b in
          let a = placed p (first_end X e) x k (ends-of X e hs regular (below-range X hs d c r i)).first.0 n (eqb-true p (sheeted m (first_end X e) x) w.0) in
          let t : Step = record { edge = e; forward = true } in
          record { vertex = last_end X e; at_sheet = at (label u e) x; along = on {y = x} t (In-closed X hs d c r i) a; is = eqb-true z (sheeted m (last_end X e) (at (label u e) x)) w.1 }
      by e x i n (inr b) =
          let w = and_parts (eqb p (sheeted m (last_end X e) (at (label u e) x))) (eqb z (sheeted m (first_end X e) x)) b in
          let a = placed p (last_end X e) (at (label u e) x) k (ends-of X e hs regular (below-range X hs d c r i)).second.0 ((turn_of m (label u e) (permutation e i)).into x n) (eqb-true p (sheeted m (last_end X e) (at (label u e) x)) w.0) in
          let t : Step = record { edge = e; forward = false } in
          let o : Along X u d c s (first_end X e) (perms.back (label u e) (at (label u e) x)) = on {y = at (label u e) x} t (In-closed X hs d c r i) a in
          record { vertex = first_end X e; at_sheet = x; along = subst (λ (y : ℕ). Along X u d c s (first_end X e) y) (back-of-at m (label u e) (permutation e i) x n) o; is = eqb-true z (sheeted m (first_end X e) x) w.1 }

  from-rounds : {p : ℕ} → Reaches (leads X m u (below X d c 1)) (places X m d c) (sheeted m (least_vertex X d c) s) p → IsPlace p
  from-rounds at_start = record { vertex = least_vertex X d c; at_sheet = s; along = at_least; is = refl }
  from-rounds (reach_on {y} {z} k t n) = one-more y z (from-rounds k) t

  -- ---- the computed sheet

  reached-along : (w y : ℕ) → IsBelow X d c 0 w → InRange m y → reaches (leads X m u (below X d c 1)) (places X m d c) (sheeted m (least_vertex X d c) s) (sheeted m w y) ≡ true → Along X u d c s w y
  reached-along w y i n e =
      placed (sheeted m w y) w y (from-rounds ((reaches_is (leads X m u (below X d c 1)) (places X m d c) (sheeted m (least_vertex X d c) s) (sheeted m w y) place-start).0 e)) (vertex-low i) n refl

  along-reached : (w y : ℕ) → Along X u d c s w y → reaches (leads X m u (below X d c 1)) (places X m d c) (sheeted m (least_vertex X d c) s) (sheeted m w y) ≡ true
  along-reached w y a = (reaches_is (leads X m u (below X d c 1)) (places X m d c) (sheeted m (least_vertex X d c) s) (sheeted m w y) place-start).1 (to-rounds a)

  -- it is the one of any choice
  pub sheet-of : (over : ℕ → ℕ) → IsChoice X m u d c s over → (w : ℕ) → IsBelow X d c 0 w → sheet X m u d c s w ≡ over w
  sheet-of over is w i =
      let t = leads-to X hs regular m u h d c r s root w i in
      let has : ℕ → Bool = λ y. reaches (leads X m u (below X d c 1)) (places X m d c) (sheeted m (least_vertex X d c) s) (sheeted m w y) in
      let e : t.0 ≡ over w = ends-there X hs regular m u h d c r s over is t.1 in
      let n : InRange m t.0 = along-in t.1 in
      first-one (filter has (upto m)) (over w) (subst (λ (z : ℕ). In z (filter has (upto m))) e (In-filter has (In-upto m t.0 n.0 n.1) (along-reached w t.0 t.1)))
      (λ y j. ends-there X hs regular m u h d c r s over is (reached-along w y i (upto-In m y (In-inside has (upto m) j)) (filter-In has (upto m) j)))

  pub one-choice : HasOneChoice X m u d c s
  one-choice =
      let t = choice X hs regular m u h d c r root s q in
      record {
        over = t.0;
        is = t.1;
        only = λ f is w k. (let i = closed-In X hs d c r k in sym (sheet-of f is w i) ∙ sheet-of t.0 t.1 w i);
        ends = λ w y a. ends-there X hs regular m u h d c r s t.0 t.1 a;
      }

  pub is-sheet : (w : ℕ) → IsBelow X d c 0 w → IsSheet X m u d c s w
  is-sheet w i =
      let t = choice X hs regular m u h d c r root s q in
      let a = leads-to X hs regular m u h d c r s root w i in
      let e : sheet X m u d c s w ≡ t.0 w = sheet-of t.0 t.1 w i in
      record {
        is = subst (λ (y : ℕ). Along X u d c s w y) (ends-there X hs regular m u h d c r s t.0 t.1 a.1 ∙ sym e) a.1;
        only = λ y b. ends-there X hs regular m u h d c r s t.0 t.1 b ∙ sym e;
        range = subst (InRange m) (sym e) (t.1.sheets w);
      }

-- ---- faces

module _ (G : Given) (X : List (List (List ℕ))) (hs : IsSpace X) (regular : IsRegular X) (m : ℕ) (u : List (List ℕ)) (h : IsLabelled X m u) (d c s : ℕ) (r : InRange (count X d) c) (q : InRange m s) where
  -- a choice on a closed cell is one on each face
  pub choice-below : (over : ℕ → ℕ) → IsChoice X m u d c s over → (e n : ℕ) → IsBelow X d c e n → IsChoice X m u e n (over (least_vertex X e n)) over
  choice-below over is e n i =
      record { least = refl; sheets = is.sheets; edges = λ k j. is.edges k (In-closed X hs d c r (below-then X hs d c e n i (closed-In X hs e n (below-range X hs d c r i) j))) }

  -- so the sheets of a face are those of the cell
  pub sheet-below : (over : ℕ → ℕ) → IsChoice X m u d c s over → (e n w : ℕ) → IsBelow X d c e n → IsBelow X e n 0 w → sheet X m u e n (over (least_vertex X e n)) w ≡ over w
  sheet-below over is e n w i j =
      sheet-of G X hs regular m u h e n (over (least_vertex X e n)) (below-range X hs d c r i) (is.sheets (least_vertex X e n)) over (choice-below over is e n i) w j

  -- over the vertices of a facet
  module _ (over : ℕ → ℕ) (is : IsChoice X m u d c s over) where
    same-below : (e n w : ℕ) → IsBelow X d c e n → IsBelow X e n 0 w → sheet X m u e n (sheet X m u d c s (least_vertex X e n)) w ≡ sheet X m u d c s w
    same-below e n w i j =
        let r1 : InRange (count X e) n = below-range X hs d c r i in
        let at : sheet X m u d c s (least_vertex X e n) ≡ over (least_vertex X e n) = sheet-of G X hs regular m u h d c s r q over is (least_vertex X e n) (below-then X hs d c e n i (least-below X hs e n r1)) in
        ap (λ (t : ℕ). sheet X m u e n t w) at ∙ (sheet-below over is e n w i j ∙ sym (sheet-of G X hs regular m u h d c s r q over is w (below-then X hs d c e n i j)))

module _ (G : Given) (X : List (List (List ℕ))) (hs : IsSpace X) (regular : IsRegular X) (m : ℕ) (u : List (List ℕ)) (h : IsLabelled X m u) where
  pub facet-agrees : (d c s f w : ℕ) → InRange (count X (suc d)) c → InRange m s → Contains (facets_of X (suc d) c) f → Contains (closed_cell X d f) (cell_at 0 w) → sheet X m u d f (sheet X m u (suc d) c s (least_vertex X d f)) w ≡ sheet X m u (suc d) c s w
  facet-agrees d c s f w r q i k =
      let t = one-choice G X hs regular m u h (suc d) c s r q in
      let j : IsBelow X (suc d) c d f = facet d c f itself i in
      same-below G X hs regular m u h (suc d) c s r q t.over t.is d f w j (closed-In X hs d f (below-range X hs (suc d) c r j) k)
