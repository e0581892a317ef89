-- The cells of a space of sets, by the places of the sets.
use Rattle.std.proofs.Common.{◌≡◌, ◌<◌, ◌≤◌, ◌+◌, ◌*◌, ◌^◌, ◌-◌, ℕ, suc, List, [], ◌∷◌, length, map, filter, replicate, refl, ap, sym, ◌∙◌, subst, arith, Bool, true, cond}
use Rattle.std.specs.List.Sorted.{IsStrictlyIncreasing}
use Rattle.std.proofs.lemmas.List.{length-map, map-id}
use Rattle.std.proofs.lemmas.Simd.{map-map}
use Rattle.number_lists.specs.Words.{upto}
use Rattle.number_lists.specs.Members.{In, here, there}
use Rattle.number_lists.proofs.CallerLemmas.{In-map, map-In, In-filter, filter-In, In-inside, upto-In, length-upto}
use Rattle.tuple_spaces.specs.Tuples.{numbers_in}
use Rattle.tuple_spaces.proofs.CallerLemmas.{map_same}
use Rattle.facet_reader.specs.SetSpaces.{choices, leave_one, sets_of, layer_of, set_space, IsClosed}
use Rattle.facet_reader.specs.Places.{place_of, members, facets_at, AreHeld, AreSets, IsComplex}
use Rattle.facet_reader.proofs.Choices.{choice-part, choice-of-part, part_of_part, part-In, leave-part}
use Rattle.facet_reader.proofs.FacePlaces.{place-below, sets-increase}
use Rattle.facet_reader.proofs.FacetPlaces.{members-place}

module _ (n : ℕ) (test : List ℕ → Bool) (small : n < 65536) where
  long : (d : ℕ) (s : List ℕ) → In s (sets_of n test d) → length s ≡ suc d
  long d s i = (choice-part (suc d) s (upto n) (In-inside test (choices (suc d) (upto n)) i)).1

  low : (d : ℕ) (s : List ℕ) → In s (sets_of n test d) → (x : ℕ) → In x s → x < 65536
  low d s i x j = let r = upto-In n x (part-In (choice-part (suc d) s (upto n) (In-inside test (choices (suc d) (upto n)) i)).0 j) in omega (arith, r.1, small)

  pub set-members : (d : ℕ) (s : List ℕ) → In s (sets_of n test d) → members (suc d) (place_of s) ≡ s
  set-members d s i = ap (λ (k : ℕ). members k (place_of s)) (sym (long d s i)) ∙ members-place s (low d s i)

  place-low : (d p : ℕ) → In p (map place_of (sets_of n test d)) → p < 65536 ^ suc d
  place-low d p i =
      let r = map-In place_of (sets_of n test d) i in
      let l : place_of r.0 < 65536 ^ length r.0 = place-below r.0 (low d r.0 r.1) in
      let e : 65536 ^ length r.0 ≡ 65536 ^ suc d = ap (λ (k : ℕ). 65536 ^ k) (long d r.0 r.1) in
      omega (arith, l, e, r.2)

  facet-set : IsClosed test → (d : ℕ) (s u : List ℕ) → In s (sets_of n test (suc d)) → In u (leave_one s) → In u (sets_of n test d)
  facet-set closed d s u i j =
      let p = choice-part (suc (suc d)) s (upto n) (In-inside test (choices (suc (suc d)) (upto n)) i) in
      let q = leave-part s u j in
      let l : length u ≡ suc d = omega (arith, p.1, q.1) in
      In-filter test (choice-of-part (suc d) (part_of_part q.0 p.0) l) (closed (suc d) s u (filter-In test (choices (suc (suc d)) (upto n)) i) (choice-of-part (suc d) q.0 l))

  pub held-sets : IsClosed test → (size d : ℕ) → size ≡ suc (suc d) → AreHeld size (map place_of (sets_of n test d)) (map place_of (sets_of n test (suc d)))
  held-sets closed size d e =
      let f : size - 1 ≡ suc d = omega (arith, e) in
      record {
        below_fit = λ q i. subst (λ (k : ℕ). q < 65536 ^ k) (sym f) (place-low d q i);
        fit = λ p i. subst (λ (k : ℕ). p < 65536 ^ k) (sym e) (place-low (suc d) p i);
        held = λ p i u j.
            let r = map-In place_of (sets_of n test (suc d)) i in
            let is : members size p ≡ r.0 = ap (λ (k : ℕ). members k p) e ∙ (ap (members (suc (suc d))) r.2 ∙ set-members (suc d) r.0 r.1) in
            In-map place_of (facet-set closed d r.0 u r.1 (subst (λ (s : List ℕ). In u (leave_one s)) is j));
      }

  pub layer-is : (size d : ℕ) → size ≡ suc (suc d) → map (facets_at size (map place_of (sets_of n test d))) (map place_of (sets_of n test (suc d))) ≡ layer_of (sets_of n test) (suc d)
  layer-is size d e =
      let f : size - 1 ≡ suc d = omega (arith, e) in
      let cells : map (members (size - 1)) (map place_of (sets_of n test d)) ≡ sets_of n test d =
      map-map (members (size - 1)) place_of (sets_of n test d)
      ∙ (map_same (λ s. members (size - 1) (place_of s)) (λ s. s) (sets_of n test d) (λ s i. ap (λ (k : ℕ). members k (place_of s)) f ∙ set-members d s i) ∙ map-id (sets_of n test d)) in
      map-map (facets_at size (map place_of (sets_of n test d))) place_of (sets_of n test (suc d))
      ∙ map_same (λ s. facets_at size (map place_of (sets_of n test d)) (place_of s)) (λ s. numbers_in (sets_of n test d) (leave_one s)) (sets_of n test (suc d))
      (λ s i.
      ap (λ (cs : List (List ℕ)). numbers_in cs (leave_one (members size (place_of s)))) cells
      ∙ ap (λ (t : List ℕ). numbers_in (sets_of n test d) (leave_one t)) (ap (λ (k : ℕ). members k (place_of s)) e ∙ set-members (suc d) s i))

-- ---- vertices

module _ (n : ℕ) (test : List ℕ → Bool) where
  singles : (xs : List ℕ) → choices 1 xs ≡ map (λ x. x ∷ []) xs
  singles [] = refl
  singles (x ∷ xs) = ap (λ (ss : List (List ℕ)). (x ∷ []) ∷ ss) (singles xs)

  all_pass : (p : List ℕ → Bool) (ss : List (List ℕ)) → ((s : List ℕ) → In s ss → p s ≡ true) → filter p ss ≡ ss
  all_pass p [] h = refl
  all_pass p (s ∷ ss) h = ap (λ (b : Bool). cond b (s ∷ filter p ss) (filter p ss)) (h s here) ∙ ap (λ (ts : List (List ℕ)). s ∷ ts) (all_pass p ss (λ t i. h t (there i)))

  pub vertex-sets : ((x : ℕ) → 1 ≤ x → x ≤ n → test (x ∷ []) ≡ true) → sets_of n test 0 ≡ map (λ x. x ∷ []) (upto n)
  vertex-sets points =
      ap (filter test) (singles (upto n))
      ∙ all_pass test (map (λ x. x ∷ []) (upto n))
      (λ s i. (let r = map-In (λ x. x ∷ []) (upto n) i in let b = upto-In n r.0 r.1 in ap test r.2 ∙ points r.0 b.0 b.1))

  pub vertex-places : ((x : ℕ) → 1 ≤ x → x ≤ n → test (x ∷ []) ≡ true) → map place_of (sets_of n test 0) ≡ upto n
  vertex-places points =
      ap (map place_of) (vertex-sets points)
      ∙ (map-map place_of (λ x. x ∷ []) (upto n) ∙ (map_same (λ x. place_of (x ∷ [])) (λ x. x) (upto n) (λ x i. one x) ∙ map-id (upto n)))
    where
      one : (x : ℕ) → x * 65536 ^ 0 + 0 ≡ x
      one x = omega arith

  pub count-vertices : ((x : ℕ) → 1 ≤ x → x ≤ n → test (x ∷ []) ≡ true) → length (sets_of n test 0) ≡ n
  count-vertices points = ap length (vertex-sets points) ∙ (length-map (upto n) (λ x. x ∷ []) ∙ length-upto n)

  pub vertices-is : ((x : ℕ) → 1 ≤ x → x ≤ n → test (x ∷ []) ≡ true) → replicate n [] ≡ layer_of (sets_of n test) 0
  vertices-is points = ap (λ (k : ℕ). replicate {A = List ℕ} k []) (sym (count-vertices points)) ∙ sym (blanks (sets_of n test 0))
    where
      blanks : (ss : List (List ℕ)) → map {B = List ℕ} (λ _. []) ss ≡ replicate (length ss) []
      blanks [] = refl
      blanks (s ∷ ss) = ap (λ (ts : List (List ℕ)). [] ∷ ts) (blanks ss)

-- ---- the whole

module _ (n : ℕ) (edges triangles solids : List ℕ) (small : n < 65536) where
  pub first-held : IsComplex n edges triangles solids → AreHeld 2 (upto n) edges
  first-held h = subst (λ (xs : List ℕ). AreHeld 2 (upto n) xs) (sym h.are.edges_are) (subst (λ (xs : List ℕ). AreHeld 2 xs (map place_of (sets_of n h.test 1))) (vertex-places n h.test h.are.points) (held-sets n h.test small h.are.closed 2 0 refl))

  pub second-held : IsComplex n edges triangles solids → AreHeld 3 edges triangles
  second-held h = subst (λ (xs : List ℕ). AreHeld 3 xs triangles) (sym h.are.edges_are) (subst (λ (xs : List ℕ). AreHeld 3 (map place_of (sets_of n h.test 1)) xs) (sym h.are.triangles_are) (held-sets n h.test small h.are.closed 3 1 refl))

  pub third-held : IsComplex n edges triangles solids → AreHeld 4 triangles solids
  third-held h = subst (λ (xs : List ℕ). AreHeld 4 xs solids) (sym h.are.triangles_are) (subst (λ (xs : List ℕ). AreHeld 4 (map place_of (sets_of n h.test 2)) xs) (sym h.are.solids_are) (held-sets n h.test small h.are.closed 4 2 refl))

  pub edges-rise : IsComplex n edges triangles solids → IsStrictlyIncreasing edges
  edges-rise h = subst IsStrictlyIncreasing (sym h.are.edges_are) (sets-increase n h.test 1 small)

  pub triangles-rise : IsComplex n edges triangles solids → IsStrictlyIncreasing triangles
  triangles-rise h = subst IsStrictlyIncreasing (sym h.are.triangles_are) (sets-increase n h.test 2 small)

  pub space-is : (test : List ℕ → Bool) → AreSets n test edges triangles solids
      → replicate n [] ∷ map (facets_at 2 (upto n)) edges ∷ map (facets_at 3 edges) triangles ∷ map (facets_at 4 triangles) solids ∷ [] ≡ set_space (sets_of n test)
  space-is test h =
      ap (λ (l : List (List ℕ)). l ∷ map (facets_at 2 (upto n)) edges ∷ map (facets_at 3 edges) triangles ∷ map (facets_at 4 triangles) solids ∷ []) (vertices-is n test h.points)
      ∙ (ap (λ (l : List (List ℕ)). layer_of (sets_of n test) 0 ∷ l ∷ map (facets_at 3 edges) triangles ∷ map (facets_at 4 triangles) solids ∷ []) first
      ∙ (ap (λ (l : List (List ℕ)). layer_of (sets_of n test) 0 ∷ layer_of (sets_of n test) 1 ∷ l ∷ map (facets_at 4 triangles) solids ∷ []) second
      ∙ ap (λ (l : List (List ℕ)). layer_of (sets_of n test) 0 ∷ layer_of (sets_of n test) 1 ∷ layer_of (sets_of n test) 2 ∷ l ∷ []) third))
    where
      first : map (facets_at 2 (upto n)) edges ≡ layer_of (sets_of n test) 1
      first = ap (λ (xs : List ℕ). map (facets_at 2 xs) edges) (sym (vertex-places n test h.points)) ∙ (ap (map (facets_at 2 (map place_of (sets_of n test 0)))) h.edges_are ∙ layer-is n test small 2 0 refl)

      second : map (facets_at 3 edges) triangles ≡ layer_of (sets_of n test) 2
      second = ap (λ (xs : List ℕ). map (facets_at 3 xs) triangles) h.edges_are ∙ (ap (map (facets_at 3 (map place_of (sets_of n test 1)))) h.triangles_are ∙ layer-is n test small 3 1 refl)

      third : map (facets_at 4 triangles) solids ≡ layer_of (sets_of n test) 3
      third = ap (λ (xs : List ℕ). map (facets_at 4 xs) solids) h.triangles_are ∙ (ap (map (facets_at 4 (map place_of (sets_of n test 2)))) h.solids_are ∙ layer-is n test small 4 2 refl)
