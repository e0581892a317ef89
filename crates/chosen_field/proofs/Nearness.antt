-- Distances along loose edges are the least numbers of edges on paths, and each vertex but the first has an edge in the tree.
use Rattle.std.proofs.Common.{◌≡◌, ◌⊎◌, inl, inr, ℕ, zero, suc, ◌+◌, ◌-◌, ◌≤◌, List, length, Bool, true, false, ◌&&◌, ◌||◌, eqb, Option, Some, None, refl, sym, subst, arith}
use Rattle.std.specs.List.{list_any}
use Rattle.std.proofs.lemmas.Bool.{and_parts, and_from, both_ways, eqb-true, eq-eqb, ne_eqb, cases_eq, cases_lt, or_cases, or_left, or_right}
use Rattle.number_lists.specs.Words.{holds}
use Rattle.number_lists.specs.Members.{In}
use Rattle.number_lists.proofs.CallerLemmas.{any-In, any-some, In-filter, filter-In, In-inside, In-holds, holds-In, In-upto, holds-upto}
use Rattle.face_poset.specs.Poset.{count, facets_of, IsSpace}
use Rattle.regular_check.specs.Components.{vertices}
use Rattle.pair_laws.specs.Distance.{within, first, HasNearer}
use Rattle.pair_laws.proofs.CallerLemmas.{find-none, nearer_is}
use Rattle.chosen_field.specs.Chosen.{loose, joined_by, distances, goes_nearer, tree_edge}
use Rattle.chosen_field.specs.Laws.{Path, at_first, along_edge, IsDistance, Loose}
use Rattle.chosen_field.proofs.TreePairs.{distance, end-range, goes-back}

module _ (space : List (List (List ℕ))) (valid : IsSpace space) (some : 1 ≤ count space 0) where
  abbrev near : (n : ℕ) → List ℕ
  near n = within (joined_by space (loose space)) (vertices space) 1 n

  abbrev keeps : List ℕ → ℕ → Bool
  keeps ys y = holds ys y || list_any (λ x. joined_by space (loose space) x y) ys

  first_vertex : holds (vertices space) 1 ≡ true
  first_vertex = holds-upto (count space 0) 1 (omega arith) some

  -- an edge joins its ends
  joins : (e x y : ℕ) → In e (loose space) → In x (facets_of space 1 e) → In y (facets_of space 1 e) → joined_by space (loose space) x y ≡ true
  joins e x y m i j = any-In (λ f. holds (facets_of space 1 f) x && holds (facets_of space 1 f) y) m (and_from (holds (facets_of space 1 e) x) (holds (facets_of space 1 e) y) (In-holds i) (In-holds j))

  pub record Joins (x y : ℕ) : Type 0 where
    pub edge : ℕ
    pub loose_edge : In edge (loose space)
    pub here : In x (facets_of space 1 edge)
    pub there : In y (facets_of space 1 edge)

  joined : (x y : ℕ) → joined_by space (loose space) x y ≡ true → Joins x y
  joined x y t =
      let s = any-some (λ f. holds (facets_of space 1 f) x && holds (facets_of space 1 f) y) (loose space) t in
      let b = and_parts (holds (facets_of space 1 s.0) x) (holds (facets_of space 1 s.0) y) s.2 in
      record { edge = s.0; loose_edge = s.1; here = holds-In (facets_of space 1 s.0) b.0; there = holds-In (facets_of space 1 s.0) b.1 }

  -- ---- rounds

  near-vertex : (n v : ℕ) → holds (near n) v ≡ true → In v (vertices space)
  near-vertex zero v e = In-inside (λ z. eqb z 1) (vertices space) (holds-In (near 0) e)
  near-vertex (suc n) v e = In-inside (keeps (near n)) (vertices space) (holds-In (near (suc n)) e)

  near-more : (n v : ℕ) → holds (near n) v ≡ true → holds (near (suc n)) v ≡ true
  near-more n v e = In-holds (In-filter (keeps (near n)) (near-vertex n v e) (or_left (holds (near n) v) (list_any (λ x. joined_by space (loose space) x v) (near n)) e))

  near-step : (n w v : ℕ) → holds (near n) w ≡ true → joined_by space (loose space) w v ≡ true → In v (vertices space) → holds (near (suc n)) v ≡ true
  near-step n w v e s i = In-holds (In-filter (keeps (near n)) i (or_right (holds (near n) v) (list_any (λ x. joined_by space (loose space) x v) (near n)) (any-In (λ x. joined_by space (loose space) x v) (holds-In (near n) e) s)))

  near-later : (n k v : ℕ) → holds (near n) v ≡ true → holds (near (k + n)) v ≡ true
  near-later n zero v e = subst (λ (m : ℕ). holds (near m) v ≡ true) (let s : n ≡ 0 + n = omega arith in s) e
  near-later n (suc k) v e = subst (λ (m : ℕ). holds (near m) v ≡ true) (let s : suc (k + n) ≡ suc k + n = omega arith in s) (near-more (k + n) v (near-later n k v e))

  near-at : (n m v : ℕ) → n ≤ m → holds (near n) v ≡ true → holds (near m) v ≡ true
  near-at n m v l e = subst (λ (k : ℕ). holds (near k) v ≡ true) (let s : (m - n) + n ≡ m = omega (arith, l) in s) (near-later n (m - n) v e)

  -- ---- paths

  path-near : {n v : ℕ} → Path space n v → holds (near n) v ≡ true
  path-near at_first = In-holds (In-filter (λ z. eqb z 1) (holds-In (vertices space) first_vertex) (eq-eqb 1 1 refl))
  path-near (along_edge {n = n} {v = v} e w p m i j) =
      let r = end-range space valid e w m j in
      subst (λ (k : ℕ). holds (near k) w ≡ true) (let s : suc n ≡ n + 1 = omega arith in s) (near-step n v w (path-near p) (joins e v w m i j) (In-upto (count space 0) w r.0 r.1))

  near-path : (n v : ℕ) → holds (near n) v ≡ true → (m : ℕ) × (m ≤ n) × Path space m v
  near-path zero v e = (0, omega arith, subst (λ (k : ℕ). Path space 0 k) (sym (eqb-true v 1 (filter-In (λ z. eqb z 1) (vertices space) (holds-In (near 0) e)))) at_first)
  near-path (suc n) v e = by (or_cases (holds (near n) v) (list_any (λ x. joined_by space (loose space) x v) (near n)) (filter-In (keeps (near n)) (vertices space) (holds-In (near (suc n)) e))) (λ w h. near-path n w h)
    where
      by : (holds (near n) v ≡ true) ⊎ (list_any (λ x. joined_by space (loose space) x v) (near n) ≡ true) → ((w : ℕ) → holds (near n) w ≡ true → (m : ℕ) × (m ≤ n) × Path space m w) → (m : ℕ) × (m ≤ suc n) × Path space m v
      by (inl h) rec = let r = rec v h in (r.0, omega (arith, r.1), r.2)
      by (inr h) rec =
          let s = any-some (λ x. joined_by space (loose space) x v) (near n) h in
          let r = rec s.0 (In-holds s.1) in
          let j : Joins s.0 v = joined s.0 v s.2 in
          (r.0 + 1, omega (arith, r.1), along_edge j.edge v r.2 j.loose_edge j.here j.there)

  -- a vertex that is reached in one round more than another number
  exact : (n v : ℕ) → holds (near (suc n)) v ≡ true → holds (near n) v ≡ false → IsDistance space v (suc n)
  exact n v e f =
      let low : (m : ℕ) → Path space m v → suc n ≤ m = λ m p. elim (cases_lt n m) [ inl l ↦ omega (arith, l) | inr l ↦ absurd (both_ways (holds (near n) v) f (near-at m n v l (path-near p))) ] in
      let r = near-path (suc n) v e in
      record { path = subst (λ (k : ℕ). Path space k v) (let s : r.0 ≡ suc n = omega (arith, r.1, low r.0 r.2) in s) r.2; least = low }

  pub distance-first : distance space valid 1 ≡ 0
  distance-first = by (length (vertices space))
    where
      by : (n : ℕ) → first n (λ k. holds (near k) 1) ≡ 0
      by zero = refl
      by (suc n) = rw (path-near at_first) refl

  module _ (reached : (v : ℕ) → 1 ≤ v → v ≤ count space 0 → Loose space 1 v) where
    has_nearer : (v : ℕ) → 2 ≤ v → v ≤ count space 0 → HasNearer (joined_by space (loose space)) (vertices space) 1 v
    has_nearer v a b = nearer_is (joined_by space (loose space)) (vertices space) 1 v first_vertex (reached v (omega (arith, a)) b) (ne_eqb v 1 (λ e. omega (arith, a, e)))

    -- distances are least numbers of edges
    pub distance-is : (v : ℕ) → 1 ≤ v → v ≤ count space 0 → IsDistance space v (distance space valid v)
    distance-is v a b = elim (cases_eq v 1) [
      | inl e ↦ subst (λ (w : ℕ). IsDistance space w (distance space valid w)) (sym e) (subst (λ (n : ℕ). IsDistance space 1 n) (sym distance-first) (record { path = at_first; least = λ m p. omega arith }))
      | inr ne ↦
          let h : HasNearer (joined_by space (loose space)) (vertices space) 1 v = has_nearer v (omega (arith, a, ne)) b in
          subst (λ (n : ℕ). IsDistance space v n) (sym h.distance) (exact h.round v (near-step h.round h.nearer v h.there h.steps (In-upto (count space 0) v a b)) h.not_there)
    ]

    -- each vertex but the first has an edge
    pub has_edge : (v : ℕ) → 2 ≤ v → v ≤ count space 0 → (e : ℕ) × (tree_edge space (loose space) (distances space (loose space)) v ≡ Some e)
    has_edge v a b = by (tree_edge space (loose space) (distances space (loose space)) v) refl
      where
        h : HasNearer (joined_by space (loose space)) (vertices space) 1 v
        h = has_nearer v a b

        j : Joins h.nearer v
        j = joined h.nearer v h.steps

        by : (o : Option ℕ) → tree_edge space (loose space) (distances space (loose space)) v ≡ o → (e : ℕ) × (tree_edge space (loose space) (distances space (loose space)) v ≡ Some e)
        by (Some e) f = (e, f)
        by None f =
            absurd (both_ways (goes_nearer space (distances space (loose space)) v j.edge) (find-none (goes_nearer space (distances space (loose space)) v) (loose space) f j.loose_edge)
            (goes-back space valid v j.edge h.nearer j.loose_edge j.there j.here (omega (arith, h.distance, h.distance_of))))

-- a vertex has one distance
pub one-distance : (space : List (List (List ℕ))) (v n m : ℕ) → IsDistance space v n → IsDistance space v m → n ≡ m
one-distance space v n m h k = omega (arith, h.least m k.path, k.least n h.path)
