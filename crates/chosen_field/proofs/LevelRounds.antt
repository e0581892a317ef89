-- Level by level: what was found after so many rounds, and the numbers of those that were visited.
use Rattle.std.proofs.Common.{◌≡◌, ◌⊎◌, inl, inr, ℕ, zero, suc, ◌+◌, ◌-◌, ◌<◌, ◌≤◌, List, [], ◌∷◌, ◌++◌, length, take, drop, replicate, get_or, Bool, true, false, cond, ◌&&◌, ◌||◌, eqb, refl, ap, sym, ◌∙◌, subst, arith, if◌then◌else◌}
use Rattle.std.specs.List.{list_any, IsDistinct, AllByRecursion}
use Rattle.std.proofs.lemmas.Bool.{and_parts, both_ways, eqb-true, eq-eqb, cases_Bool, or_cases, or_left, or_right, false_from_ne_true, false≢true}
use Rattle.std.proofs.lemmas.List.{ext_get_or, get_or-take, take-append-drop, length-take-le, length-map, get_or-replicate, length-replicate}
use Rattle.number_lists.specs.Words.{holds}
use Rattle.number_lists.specs.Members.{In, here}
use Rattle.number_lists.proofs.CallerLemmas.{In-cases, append-In, In-left, In-right, any-In, any-some, In-filter, filter-In, In-inside, In-holds, holds-In, In-upto, same_bool, length-upto, distinct_rising, increasing-upto}
use Rattle.face_poset.specs.Poset.{count, facets_of, IsSpace}
use Rattle.regular_check.specs.Components.{vertices}
use Rattle.pair_laws.specs.Distance.{within, first, distance_to}
use Rattle.vector_field.proofs.CallerLemmas.{facet-range}
use Rattle.chosen_field.specs.Chosen.{joined_by, distances}
use Rattle.chosen_field.specs.Listings.{at}
use Rattle.chosen_field.specs.Levels.{Grows, AreVisited}
use Rattle.chosen_field.proofs.Uppers.{at-upto}

-- ---- lists

-- no number stands in two parts of a list without repetition
parts-apart : (xs ys : List ℕ) (v : ℕ) → IsDistinct eqb (xs ++ ys) → In v xs → In v ys → ⊥
unfolding IsDistinct
parts-apart [] ys v d m n = elim m [ ]
parts-apart (x ∷ xs) ys v d m n = elim (In-cases m) [
  | inl e ↦ none (xs ++ ys) d.0 (subst (λ (z : ℕ). In z (xs ++ ys)) e (In-right xs n))
  | inr i ↦ parts-apart xs ys v d.1 i n
]
  where
    none : (zs : List ℕ) → AllByRecursion (λ y. eqb x y ≡ false) zs → In x zs → ⊥
    none [] h i = elim i [ ]
    none (z ∷ zs) h i = elim (In-cases i) [ inl e ↦ both_ways (eqb x z) h.0 (eq-eqb x z e) | inr j ↦ none zs h.1 j ]

-- the first number that passes
first-at : (n : ℕ) (b : ℕ → Bool) (r : ℕ) → r < n → b r ≡ true → ((k : ℕ) → k < r → b k ≡ false) → first n b ≡ r
first-at zero b r l e h = absurd (omega (arith, l))
first-at (suc n) b zero l e h = ap (λ (t : Bool). if t then zero else suc (first n (λ k. b (suc k)))) e
first-at (suc n) b (suc r) l e h =
    ap (λ (t : Bool). if t then zero else suc (first n (λ k. b (suc k)))) (h zero (omega arith))
    ∙ ap (λ (k : ℕ). suc k) (first-at n (λ k. b (suc k)) r (omega (arith, l)) e (λ k m. h (suc k) (omega (arith, m))))

first-none : (n : ℕ) (b : ℕ → Bool) → ((k : ℕ) → k < n → b k ≡ false) → first n b ≡ n
first-none zero b h = refl
first-none (suc n) b h =
    ap (λ (t : Bool). if t then zero else suc (first n (λ k. b (suc k)))) (h zero (omega arith)) ∙ ap (λ (k : ℕ). suc k) (first-none n (λ k. b (suc k)) (λ k m. h (suc k) (omega (arith, m))))

-- a list that grows begins with what it was
take-grown : (old new : List ℕ) → Grows old new → take (length old) new ≡ old
take-grown old new g =
    let l : length (take (length old) new) ≡ length old = length-take-le (length old) new g.long in
    ext_get_or 0 (take (length old) new) old l (λ i m. let k : i < length old = omega (arith, m, l) in get_or-take (length old) new i 0 k ∙ g.place i k)

-- reached in fewer rounds
abbrev pub under : (space : List (List (List ℕ))) (es : List ℕ) → ℕ → ℕ → Bool
under space es zero y = false
under space es (suc n) y = holds (within (joined_by space es) (vertices space) 1 n) y

-- what was found in so many rounds, and the numbers of what was reached in fewer
pub record IsLevel (space : List (List (List ℕ))) (es : List ℕ) (r head : ℕ) (found numbers : List ℕ) : Type 0 where
  pub found_is : (y : ℕ) → holds found y ≡ holds (within (joined_by space es) (vertices space) 1 r) y
  pub before : (y : ℕ) → holds (take head found) y ≡ under space es r y
  pub distinct : IsDistinct eqb found
  pub head_in : head ≤ length found
  pub long : length numbers ≡ count space 0
  pub numbers_are : (v : ℕ) → 1 ≤ v → v ≤ count space 0 → at numbers v ≡ cond (under space es r v) (distance_to (joined_by space es) (vertices space) 1 v) (count space 0)

module _ (space : List (List (List ℕ))) (valid : IsSpace space) (es : List ℕ) (inside : (e : ℕ) → In e es → (1 ≤ e) × (e ≤ count space 1)) where
  abbrev near : (n : ℕ) → List ℕ
  near n = within (joined_by space es) (vertices space) 1 n

  abbrev keeps : List ℕ → ℕ → Bool
  keeps ys y = holds ys y || list_any (λ x. joined_by space es x y) ys

  abbrev steps : ℕ → ℕ
  steps v = distance_to (joined_by space es) (vertices space) 1 v

  near-vertex : (n v : ℕ) → holds (near n) v ≡ true → In v (vertices space)
  near-vertex zero v e = In-inside (λ z. eqb z 1) (vertices space) (holds-In (near 0) e)
  near-vertex (suc n) v e = In-inside (keeps (near n)) (vertices space) (holds-In (near (suc n)) e)

  near-more : (n v : ℕ) → holds (near n) v ≡ true → holds (near (suc n)) v ≡ true
  near-more n v e = In-holds (In-filter (keeps (near n)) (near-vertex n v e) (or_left (holds (near n) v) (list_any (λ x. joined_by space es x v) (near n)) e))

  near-step : (n w v : ℕ) → holds (near n) w ≡ true → joined_by space es w v ≡ true → In v (vertices space) → holds (near (suc n)) v ≡ true
  near-step n w v e s i = In-holds (In-filter (keeps (near n)) i (or_right (holds (near n) v) (list_any (λ x. joined_by space es x v) (near n)) (any-In (λ x. joined_by space es x v) (holds-In (near n) e) s)))

  near-later : (n k v : ℕ) → holds (near n) v ≡ true → holds (near (k + n)) v ≡ true
  near-later n zero v e = subst (λ (m : ℕ). holds (near m) v ≡ true) (let s : n ≡ 0 + n = omega arith in s) e
  near-later n (suc k) v e = subst (λ (m : ℕ). holds (near m) v ≡ true) (let s : suc (k + n) ≡ suc k + n = omega arith in s) (near-more (k + n) v (near-later n k v e))

  near-at : (n m v : ℕ) → n ≤ m → holds (near n) v ≡ true → holds (near m) v ≡ true
  near-at n m v l e = subst (λ (k : ℕ). holds (near k) v ≡ true) (let s : (m - n) + n ≡ m = omega (arith, l) in s) (near-later n (m - n) v e)

  -- what is not reached in fewer rounds is in none of these
  not-before : (r v k : ℕ) → under space es r v ≡ false → k < r → holds (near k) v ≡ false
  not-before zero v k u l = absurd (omega (arith, l))
  not-before (suc r) v k u l = false_from_ne_true (holds (near k) v) (λ e. both_ways (holds (near r) v) u (near-at k r v (omega (arith, l)) e))

  joined-vertex : (x y : ℕ) → joined_by space es x y ≡ true → In y (vertices space)
  joined-vertex x y t =
      let s = any-some (λ e. holds (facets_of space 1 e) x && holds (facets_of space 1 e) y) es t in
      let b = and_parts (holds (facets_of space 1 s.0) x) (holds (facets_of space 1 s.0) y) s.2 in
      let i = inside s.0 s.1 in
      let r = facet-range space 0 s.0 y valid i.0 i.1 (holds-In (facets_of space 1 s.0) b.1) in
      In-upto (count space 0) y r.0 r.1

  steps-at : (r v : ℕ) → r < count space 0 → holds (near r) v ≡ true → under space es r v ≡ false → steps v ≡ r
  steps-at r v l e u = first-at (length (vertices space)) (λ n. holds (near n) v) r (omega (arith, l, length-upto (count space 0))) e (λ k m. not-before r v k u m)

  steps-none : (v : ℕ) → under space es (count space 0) v ≡ false → steps v ≡ count space 0
  steps-none v u = first-none (length (vertices space)) (λ n. holds (near n) v) (λ k m. not-before (count space 0) v k u (omega (arith, m, length-upto (count space 0)))) ∙ length-upto (count space 0)

  -- ---- the levels

  pub level-begun : (numbers : List ℕ) → 1 ≤ count space 0 → numbers ≡ replicate (count space 0) (count space 0) → IsLevel space es 0 0 (1 ∷ []) numbers
  level-begun numbers some e = record {
    found_is = λ y. same_bool (holds (1 ∷ []) y) (holds (near 0) y)
        (λ h. elim (In-cases (holds-In (1 ∷ []) h)) [ inl s ↦ subst (λ (k : ℕ). holds (near 0) k ≡ true) (sym s) (In-holds (In-filter (λ z. eqb z 1) (In-upto (count space 0) 1 (omega arith) some) (eq-eqb 1 1 refl))) | inr i ↦ elim i [ ] ])
        (λ h. subst (λ (k : ℕ). holds (1 ∷ []) k ≡ true) (sym (eqb-true y 1 (filter-In (λ z. eqb z 1) (vertices space) (holds-In (near 0) h)))) (In-holds {x = 1} {xs = 1 ∷ []} here));
    before = λ y. refl;
    distinct = distinct_rising (1 ∷ []) (increasing-upto 1);
    head_in = omega arith;
    long = ap (λ (ns : List ℕ). length ns) e ∙ length-replicate (count space 0) (count space 0);
    numbers_are = λ v a b. ap (λ (ns : List ℕ). at ns v) e ∙ get_or-replicate (count space 0) (v - 1) (count space 0) 0 (omega (arith, a, b));
  }

  module _ (r head : ℕ) (found numbers new numbers' : List ℕ) (h : IsLevel space es r head found numbers) (more : r < count space 0) (v : AreVisited space es (drop head found) found new) (same : length numbers' ≡ length numbers)
      (put : (w : ℕ) → 1 ≤ w → at numbers' w ≡ cond (holds (drop head found) w) r (at numbers w)) where
    cut : take head found ++ drop head found ≡ found
    cut = take-append-drop head found

    part : {x : ℕ} → In x found → In x (take head found) ⊎ In x (drop head found)
    part {x} m = append-In (take head found) (drop head found) (subst (λ (xs : List ℕ). In x xs) (sym cut) m)

    from-drop : {x : ℕ} → In x (drop head found) → In x found
    from-drop {x} m = subst (λ (xs : List ℕ). In x xs) cut (In-right (take head found) m)

    next-found : (y : ℕ) → holds new y ≡ holds (near (suc r)) y
    next-found y = same_bool (holds new y) (holds (near (suc r)) y) to from
      where
        to : holds new y ≡ true → holds (near (suc r)) y ≡ true
        to e = elim (v.only y (holds-In new e)) [
          | inl m ↦ near-more r y (sym (h.found_is y) ∙ In-holds m)
          | inr s ↦ near-step r s.0 y (sym (h.found_is s.0) ∙ In-holds (from-drop s.1)) s.2 (joined-vertex s.0 y s.2)
        ]

        earlier : (k x : ℕ) → under space es k x ≡ true → joined_by space es x y ≡ true → holds (near k) y ≡ true
        earlier zero x u j = absurd (false≢true u)
        earlier (suc k) x u j = near-step k x y u j (joined-vertex x y j)

        from : holds (near (suc r)) y ≡ true → holds new y ≡ true
        from e = elim (or_cases (holds (near r) y) (list_any (λ x. joined_by space es x y) (near r)) (filter-In (keeps (near r)) (vertices space) (holds-In (near (suc r)) e))) [
          | inl k ↦ In-holds (v.grows.kept y (holds-In found (h.found_is y ∙ k)))
          | inr k ↦
              let s = any-some (λ x. joined_by space es x y) (near r) k in
              elim (part (holds-In found (h.found_is s.0 ∙ In-holds s.1))) [
                | inl m ↦ In-holds (v.grows.kept y (holds-In found (h.found_is y ∙ earlier r s.0 (sym (h.before s.0) ∙ In-holds m) s.2)))
                | inr m ↦ In-holds (v.added s.0 y m s.2)
              ]
        ]

    next-number : (w : ℕ) → 1 ≤ w → w ≤ count space 0 → at numbers' w ≡ cond (holds (near r) w) (steps w) (count space 0)
    next-number w a b = elim (cases_Bool (holds (drop head found) w)) [
      | inl e ↦
          let n : holds (near r) w ≡ true = sym (h.found_is w) ∙ In-holds (from-drop (holds-In (drop head found) e)) in
          let u : under space es r w ≡ false = sym (h.before w) ∙ false_from_ne_true (holds (take head found) w) (λ t. parts-apart (take head found) (drop head found) w (subst (IsDistinct eqb) (sym cut) h.distinct) (holds-In (take head found) t) (holds-In (drop head found) e)) in
          put w a ∙ (ap (λ (t : Bool). cond t r (at numbers w)) e ∙ (sym (steps-at r w more n u) ∙ ap (λ (t : Bool). cond t (steps w) (count space 0)) (sym n)))
      | inr e ↦
          let same_test : under space es r w ≡ holds (near r) w =
          same_bool (under space es r w) (holds (near r) w)
          (λ u. sym (h.found_is w) ∙ In-holds (subst (λ (xs : List ℕ). In w xs) cut (In-left (drop head found) (holds-In (take head found) (h.before w ∙ u)))))
          (λ n. elim (part (holds-In found (h.found_is w ∙ n))) [ inl m ↦ sym (h.before w) ∙ In-holds m | inr m ↦ absurd (both_ways (holds (drop head found) w) e (In-holds m)) ]) in
          put w a ∙ (ap (λ (t : Bool). cond t r (at numbers w)) e ∙ (h.numbers_are w a b ∙ ap (λ (t : Bool). cond t (steps w) (count space 0)) same_test))
    ]

    pub level-next : IsLevel space es (suc r) (length found) new numbers'
    level-next = record {
      found_is = next-found;
      before = λ y. ap (λ (xs : List ℕ). holds xs y) (take-grown found new v.grows) ∙ h.found_is y;
      distinct = v.grows.distinct h.distinct;
      head_in = v.grows.long;
      long = same ∙ h.long;
      numbers_are = next-number;
    }

  -- after as many rounds as there are vertices
  pub level-done : (head : ℕ) (found numbers : List ℕ) → IsLevel space es (count space 0) head found numbers → numbers ≡ distances space es
  level-done head found numbers h =
      ext_get_or 0 numbers (distances space es) (h.long ∙ sym (length-map (vertices space) (steps) ∙ length-upto (count space 0)))
      (λ i m.
      let b : i + 1 ≤ count space 0 = omega (arith, m, h.long) in
      let at_i : at numbers (i + 1) ≡ at (distances space es) (i + 1) = numbered (i + 1) (omega arith) b ∙ sym (at-upto (steps) (count space 0) (i + 1) (omega arith) b) in
      subst (λ (k : ℕ). get_or numbers k 0 ≡ get_or (distances space es) k 0) (let s : i + 1 - 1 ≡ i = omega arith in s) at_i)
    where
      numbered : (w : ℕ) → 1 ≤ w → w ≤ count space 0 → at numbers w ≡ steps w
      numbered w a b = elim (cases_Bool (under space es (count space 0) w)) [
        | inl e ↦ h.numbers_are w a b ∙ ap (λ (t : Bool). cond t (steps w) (count space 0)) e
        | inr e ↦ h.numbers_are w a b ∙ (ap (λ (t : Bool). cond t (steps w) (count space 0)) e ∙ sym (steps-none w e))
      ]
