-- Places in place of numbers: the edges of 2-cells, the 2-cells of edges, the ends of edges.
use Rattle.std.proofs.Common.{◌≡◌, inl, inr, ℕ, suc, ◌+◌, ◌-◌, ◌<◌, ◌≤◌, List, [], ◌∷◌, Bool, true, cond, filter, map, length, get_or, refl, ap, sym, ◌∙◌, subst, arith, All}
use Rattle.std.specs.List.Sorted.{IsStrictlyIncreasing}
use Rattle.std.proofs.lemmas.Bool.{cases_lt}
use Rattle.std.proofs.lemmas.List.{length-map, get_or-map, same_lists, get_or_default}
use Rattle.std.proofs.lemmas.List.FromFn.{length-map-range_with_len, get_or-map-range_with_len}
use Rattle.std.proofs.lemmas.List.Kept.{AllPairs-from_increasing, IsStrictlyIncreasing-filter}
use Rattle.number_lists.specs.Words.{upto, holds}
use Rattle.number_lists.specs.Cofaces.{IsRising, cells_with, coface_lists}
use Rattle.number_lists.specs.Members.{In, here, there}
use Rattle.number_lists.proofs.CallerLemmas.{same_bool, filter-map, In-inside, increasing-upto, increasing-once, In-map, map-In, In-at, at-In, holds-In, In-holds, upto-In}
use Rattle.face_poset.specs.Poset.{facets_of}
use Rattle.regular_check.specs.Rules.{sharing}
use Rattle.sphere_collapses.specs.Places.{number_at, ArePlaces, AreFacetPlaces}
use Rattle.sphere_collapses.specs.Trees.{IsLink, from_end, to_end}

pub filter_agree : (p q : ℕ → Bool) (xs : List ℕ) → ((x : ℕ) → In x xs → p x ≡ q x) → filter p xs ≡ filter q xs
filter_agree p q [] h = refl
filter_agree p q (x ∷ xs) h =
    ap (λ (b : Bool). cond b (x ∷ filter p xs) (filter p xs)) (h x here) ∙ ap (λ (ys : List ℕ). cond (q x) (x ∷ ys) ys) (filter_agree p q xs (λ y i. h y (there i)))

-- the numbers at all places
pub all_places : (xs : List ℕ) → map (number_at xs) (upto (length xs)) ≡ xs
all_places xs =
    same_lists (map (number_at xs) (upto (length xs))) xs (length-map-range_with_len (number_at xs) 1 (length xs))
    (λ k d l.
    let lt : k < length xs = omega (arith, l, length-map-range_with_len (number_at xs) 1 (length xs)) in
    let e : k + 1 - 1 ≡ k = omega arith in
    get_or-map-range_with_len (number_at xs) 1 (length xs) k (k + 1) d lt (omega arith) ∙ (ap (λ (n : ℕ). get_or xs n 0) e ∙ get_or_default xs k 0 d lt))

module _ (xs : List ℕ) (rises : IsStrictlyIncreasing xs) where
  -- two places with one number
  pub place_once : (a b : ℕ) → 1 ≤ a → a ≤ length xs → 1 ≤ b → b ≤ length xs → number_at xs a ≡ number_at xs b → a ≡ b
  place_once a b la ha lb hb e =
      let q : a - 1 ≡ b - 1 = increasing-once xs (a - 1) (b - 1) rises (omega (arith, la, ha)) (omega (arith, lb, hb)) e in
      omega (arith, q, la, lb)

  -- a lesser number stands before
  pub place_lt : (a b : ℕ) → 1 ≤ a → a ≤ length xs → 1 ≤ b → b ≤ length xs → number_at xs a < number_at xs b → a < b
  place_lt a b la ha lb hb l = elim (cases_lt a b) [ inl k ↦ k | inr k ↦ absurd (omega (arith, l, no_less k)) ]
    where
      no_less : b ≤ a → number_at xs b ≤ number_at xs a
      no_less k = elim (cases_lt b a) [
        | inl q ↦ let r : get_or xs (b - 1) 0 < get_or xs (a - 1) 0 = AllPairs-from_increasing xs rises (b - 1) (a - 1) 0 (omega (arith, q, lb)) (omega (arith, la, ha)) in omega (arith, r)
        | inr q ↦ let e : a ≡ b = omega (arith, k, q) in omega (arith, ap (number_at xs) e)
      ]

  -- a member has a place
  pub place_in : (x : ℕ) → In x xs → (p : ℕ) × (1 ≤ p) × (p ≤ length xs) × (number_at xs p ≡ x)
  place_in x i = let k = In-at i in let e : suc k.0 - 1 ≡ k.0 = omega arith in (suc k.0, omega arith, omega (arith, k.1), ap (λ (n : ℕ). get_or xs n 0) e ∙ k.2)

  pub In-place : (p : ℕ) → 1 ≤ p → p ≤ length xs → In (number_at xs p) xs
  In-place p low high = at-In xs (p - 1) 0 (omega (arith, low, high))

  -- places hold a place where the numbers hold the number
  pub places_hold : (numbers places : List ℕ) (p : ℕ) → ArePlaces xs numbers places → 1 ≤ p → p ≤ length xs → holds numbers (number_at xs p) ≡ holds places p
  places_hold numbers places p h low high = same_bool (holds numbers (number_at xs p)) (holds places p) to back
    where
      to : holds numbers (number_at xs p) ≡ true → holds places p ≡ true
      to e =
          let r = map-In (number_at xs) places (subst (In (number_at xs p)) (sym h.numbers_are) (holds-In numbers e)) in
          let k = In-at r.1 in
          let w = h.within k.0 0 k.1 in
          let same : p ≡ r.0 = place_once p r.0 low high (omega (arith, w.0, k.2)) (omega (arith, w.1, k.2)) r.2 in
          In-holds (subst (λ (q : ℕ). In q places) (sym same) r.1)

      back : holds places p ≡ true → holds numbers (number_at xs p) ≡ true
      back e = In-holds (subst (In (number_at xs p)) h.numbers_are (In-map (number_at xs) (holds-In places e)))

  -- places of rising numbers rise
  pub places_rise : (numbers places : List ℕ) → ArePlaces xs numbers places → IsStrictlyIncreasing numbers → IsRising (length xs) places
  places_rise numbers places h up =
      record {
        rises = λ k l. (
            let a : k < length places = omega (arith, l) in
            let n : length numbers ≡ length places = ap length (sym h.numbers_are) ∙ length-map places (number_at xs) in
            let x = h.within k 0 a in
            let y = h.within (k + 1) 0 l in
            let u : get_or numbers k 0 < get_or numbers (k + 1) 0 = up k (omega (arith, l, n)) in
            place_lt (get_or places k 0) (get_or places (k + 1) 0) x.0 x.1 y.0 y.1 (omega (arith, u, at k a, at (k + 1) l))
            );
        within = h.within;
      }
    where
      at : (k : ℕ) → k < length places → get_or numbers k 0 ≡ number_at xs (get_or places k 0)
      at k l = ap (λ (ns : List ℕ). get_or ns k 0) (sym h.numbers_are) ∙ get_or-map (number_at xs) places k 0 0 l

  pub number_of_place : (numbers places : List ℕ) (k : ℕ) → ArePlaces xs numbers places → k < length places → number_at xs (get_or places k 0) ≡ get_or numbers k 0
  number_of_place numbers places k h l = sym (get_or-map (number_at xs) places k 0 0 l) ∙ ap (λ (ns : List ℕ). get_or ns k 0) h.numbers_are

-- ---- the 2-cells of an edge

module _ (space : List (List (List ℕ))) (disks edges : List ℕ) (borders : List (List ℕ)) (rises : IsStrictlyIncreasing edges) (h : AreFacetPlaces space 2 edges disks borders) where
  -- the 2-cells that have an edge, by their places
  pub sharing_at : (f : ℕ) → 1 ≤ f → f ≤ length edges → sharing space 2 disks (number_at edges f) ≡ map (number_at disks) (cells_with borders f)
  sharing_at f low high =
      ap (filter (λ c. holds (facets_of space 2 c) (number_at edges f))) (sym (all_places disks))
      ∙ (filter-map (λ c. holds (facets_of space 2 c) (number_at edges f)) (number_at disks) (upto (length disks))
      ∙ ap (map (number_at disks))
      (ap (λ (n : ℕ). filter (λ c. holds (facets_of space 2 (number_at disks c)) (number_at edges f)) (upto n)) (sym h.as_many)
      ∙ filter_agree (λ c. holds (facets_of space 2 (number_at disks c)) (number_at edges f)) (λ n. holds (get_or borders (n - 1) []) f) (upto (length borders))
      (λ n i.
      let w = upto-In (length borders) n i in
      places_hold edges rises (facets_of space 2 (number_at disks n)) (get_or borders (n - 1) []) f (h.each (n - 1) (omega (arith, w.0, w.1, h.as_many))) low high)))

  pub side_list : (f : ℕ) → 1 ≤ f → f ≤ length edges → get_or (coface_lists (length edges) borders) (f - 1) [] ≡ cells_with borders f
  side_list f low high = get_or-map-range_with_len (cells_with borders) 1 (length edges) (f - 1) f [] (omega (arith, low, high)) (omega (arith, low))

  pub length_sides : length (coface_lists (length edges) borders) ≡ length edges
  length_sides = length-map-range_with_len (cells_with borders) 1 (length edges)

  side_rise : (f : ℕ) → IsRising (length disks) (cells_with borders f)
  side_rise f =
      record {
        rises = IsStrictlyIncreasing-filter (λ n. holds (get_or borders (n - 1) []) f) (upto (length borders)) (increasing-upto (length borders));
        within = λ k d l. (let w = upto-In (length borders) (get_or (cells_with borders f) k d) (inside f k d l) in (w.0, omega (arith, w.1, h.as_many)));
      }
    where
      inside : (f k d : ℕ) → k < length (cells_with borders f) → In (get_or (cells_with borders f) k d) (upto (length borders))
      inside f k d l = In-inside (λ n. holds (get_or borders (n - 1) []) f) (upto (length borders)) (at-In (cells_with borders f) k d l)

  module _ (two : (f : ℕ) → 1 ≤ f → f ≤ length edges → length (sharing space 2 disks (number_at edges f)) ≡ 2) where
    two_places : (f : ℕ) → 1 ≤ f → f ≤ length edges → length (cells_with borders f) ≡ 2
    two_places f low high = sym (length-map (cells_with borders f) (number_at disks)) ∙ (ap length (sym (sharing_at f low high)) ∙ two f low high)

    pub sides_link : All (IsLink (length disks)) (coface_lists (length edges) borders)
    sides_link k d l =
        let lt : k < length edges = omega (arith, l, length_sides) in
        let e : get_or (coface_lists (length edges) borders) k d ≡ cells_with borders (k + 1) = get_or-map-range_with_len (cells_with borders) 1 (length edges) k (k + 1) d lt (omega arith) in
        subst (IsLink (length disks)) (sym e) (record { rising = side_rise (k + 1); two = two_places (k + 1) (omega arith) (omega (arith, lt)) })

    pub from_side : (f : ℕ) → 1 ≤ f → f ≤ length edges → number_at disks (from_end (coface_lists (length edges) borders) f) ≡ get_or (sharing space 2 disks (number_at edges f)) 0 0
    from_side f low high =
        ap (λ (xs : List ℕ). number_at disks (get_or xs 0 0)) (side_list f low high)
        ∙ (sym (get_or-map (number_at disks) (cells_with borders f) 0 0 0 (omega (arith, two_places f low high))) ∙ ap (λ (xs : List ℕ). get_or xs 0 0) (sym (sharing_at f low high)))

    pub to_side : (f : ℕ) → 1 ≤ f → f ≤ length edges → number_at disks (to_end (coface_lists (length edges) borders) f) ≡ get_or (sharing space 2 disks (number_at edges f)) 1 0
    to_side f low high =
        ap (λ (xs : List ℕ). number_at disks (get_or xs 1 0)) (side_list f low high)
        ∙ (sym (get_or-map (number_at disks) (cells_with borders f) 1 0 0 (omega (arith, two_places f low high))) ∙ ap (λ (xs : List ℕ). get_or xs 1 0) (sym (sharing_at f low high)))

-- ---- the ends of edges

module _ (space : List (List (List ℕ))) (left vertices : List ℕ) (ends : List (List ℕ)) (rises : IsStrictlyIncreasing vertices) (h : AreFacetPlaces space 1 vertices left ends)
    (two : (k : ℕ) → k < length left → length (facets_of space 1 (get_or left k 0)) ≡ 2) (up : (k : ℕ) → k < length left → IsStrictlyIncreasing (facets_of space 1 (get_or left k 0))) where
  end_two : (k : ℕ) → k < length left → length (get_or ends k []) ≡ 2
  end_two k l = sym (length-map (get_or ends k []) (number_at vertices)) ∙ (ap length ((h.each k l).numbers_are) ∙ two k l)

  pub ends_link : All (IsLink (length vertices)) ends
  ends_link k d l =
      let lt : k < length left = omega (arith, l, h.as_many) in
      subst (IsLink (length vertices)) (get_or_default ends k [] d l)
      (record { rising = places_rise vertices rises (facets_of space 1 (get_or left k 0)) (get_or ends k []) (h.each k lt) (up k lt); two = end_two k lt })

  pub from_vertex : (f : ℕ) → 1 ≤ f → f ≤ length left → number_at vertices (from_end ends f) ≡ get_or (facets_of space 1 (number_at left f)) 0 0
  from_vertex f low high =
      let lt : f - 1 < length left = omega (arith, low, high) in
      number_of_place vertices rises (facets_of space 1 (number_at left f)) (get_or ends (f - 1) []) 0 (h.each (f - 1) lt) (omega (arith, end_two (f - 1) lt))

  pub to_vertex : (f : ℕ) → 1 ≤ f → f ≤ length left → number_at vertices (to_end ends f) ≡ get_or (facets_of space 1 (number_at left f)) 1 0
  to_vertex f low high =
      let lt : f - 1 < length left = omega (arith, low, high) in
      number_of_place vertices rises (facets_of space 1 (number_at left f)) (get_or ends (f - 1) []) 1 (h.each (f - 1) lt) (omega (arith, end_two (f - 1) lt))
