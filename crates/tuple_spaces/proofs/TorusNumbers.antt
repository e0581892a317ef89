-- The numbers of the facets of a triple.
use Rattle.std.proofs.Common.{◌≡◌, ℕ, ◌+◌, ◌-◌, ◌<◌, ◌≤◌, List, [], Bool, eqb, map, length, get_or, Contains, ap, sym, ◌∙◌, subst, arith}
use Rattle.std.specs.List.{range_with_len, list_any}
use Rattle.std.specs.List.Sorted.{IsStrictlyIncreasing}
use Rattle.std.proofs.lemmas.Bool.{eq-eqb}
use Rattle.std.proofs.lemmas.List.{get_or-map, length-map}
use Rattle.std.proofs.lemmas.List.Kept.{IsStrictlyIncreasing-filter}
use Rattle.std.proofs.lemmas.List.FromFn.{get_or-map-range_with_len}
use Rattle.face_poset.specs.Words.{upto, holds}
use Rattle.number_lists.proofs.CallerLemmas.{same_increasing, increasing-upto, Contains-holds, holds-Contains, In-filter, In-inside, filter-In, any-In, any-some, holds-In, In-holds, In-upto, upto-In, In-map, map-In, increasing-range, list_any-map, increasing-once}
use Rattle.std.specs.Cmp.{both_ways}
use Rattle.number_lists.specs.Members.{In}
use Rattle.tuple_spaces.specs.Tuples.{tuples, same, cells_in}
use Rattle.tuple_spaces.specs.Torus.{facets_round}
use Rattle.tuple_spaces.specs.TorusPlaces.{volume, triple_at, dim_at, number_at, facet_places, facets_at}
use Rattle.tuple_spaces.proofs.PassingPlaces.{passing, passing-at}
use Rattle.tuple_spaces.proofs.Triples.{cells_are, triple_once}
use Rattle.tuple_spaces.proofs.OddCoordinates.{same-eq, eq-same}
use Rattle.tuple_spaces.proofs.ListLemmas.{map_same}
use Rattle.tuple_spaces.proofs.TorusFacets.{IsNeighbor, Turns, round_is, are_neighbors}

-- ---- lists

-- ---- the cells of a dimension

module _ (side dim : ℕ) (some : 0 < side) where
  -- the places of the triples of the dimension
  abbrev pub spots : List ℕ
  spots = passing (λ p. eqb (dim_at side p) dim) (volume side)

  pub length-cells : length (cells_in (tuples 3 side) dim) ≡ length (passing (λ p. eqb (dim_at side p) dim) (volume side))
  length-cells = ap length (cells_are side dim some) ∙ length-map (passing (λ p. eqb (dim_at side p) dim) (volume side)) (triple_at side)

  pub cell-at : (i : ℕ) → i < length (passing (λ p. eqb (dim_at side p) dim) (volume side)) → get_or (cells_in (tuples 3 side) dim) i [] ≡ triple_at side (get_or (passing (λ p. eqb (dim_at side p) dim) (volume side)) i 0)
  cell-at i l = ap (λ (ts : List (List ℕ)). get_or ts i []) (cells_are side dim some) ∙ get_or-map (triple_at side) spots i 0 [] l

  -- the number of a triple of the dimension leads to it
  pub numbered : (k : ℕ) → k < volume side → dim_at side k ≡ dim
      → (1 ≤ number_at side k) × (number_at side k ≤ length (cells_in (tuples 3 side) dim)) × (get_or (passing (λ p. eqb (dim_at side p) dim) (volume side)) (number_at side k - 1) 0 ≡ k)
  numbered k l e =
      let r = passing-at (λ p. eqb (dim_at side p) dim) (volume side) k 0 l (eq-eqb (dim_at side k) dim e) in
      let n : number_at side k ≡ length (passing (λ p. eqb (dim_at side p) dim) k) + 1 = ap (λ (d : ℕ). length (passing (λ p. eqb (dim_at side p) d) k) + 1) e in
      let m : number_at side k - 1 ≡ length (passing (λ p. eqb (dim_at side p) dim) k) = omega (arith, n) in
      (omega (arith, n), omega (arith, n, r.0, length-cells), ap (λ (i : ℕ). get_or (passing (λ p. eqb (dim_at side p) dim) (volume side)) i 0) m ∙ r.1)

  pub numbered_cell : (k : ℕ) → k < volume side → dim_at side k ≡ dim → get_or (cells_in (tuples 3 side) dim) (number_at side k - 1) [] ≡ triple_at side k
  numbered_cell k l e =
      let r = numbered k l e in
      cell-at (number_at side k - 1) (omega (arith, r.0, r.1, length-cells)) ∙ ap (triple_at side) r.2

  -- a number whose triple is that of a place is the number of the place
  pub number_of : (n k : ℕ) → 1 ≤ n → n ≤ length (cells_in (tuples 3 side) dim) → k < volume side → dim_at side k ≡ dim → get_or (cells_in (tuples 3 side) dim) (n - 1) [] ≡ triple_at side k → n ≡ number_at side k
  number_of n k low high l e t =
      let r = numbered k l e in
      let m : n - 1 < length spots = omega (arith, low, high, length-cells) in
      let same_place : get_or spots (n - 1) 0 ≡ k = triple_once side (get_or spots (n - 1) 0) k (sym (cell-at (n - 1) m) ∙ t) in
      let i : n - 1 ≡ number_at side k - 1 = increasing-once spots (n - 1) (number_at side k - 1) (IsStrictlyIncreasing-filter (λ p. eqb (dim_at side p) dim) (range_with_len 0 (volume side)) (increasing-range 0 (volume side))) m (omega (arith, r.0, r.1, length-cells)) (same_place ∙ sym r.2) in
      omega (arith, i, low, r.0)

-- ---- the facets of a triple

module _ (side place : ℕ) (some : 0 < side) (low : place < volume side) (turns : Turns side) where
  abbrev below : List (List ℕ)
  below = cells_in (tuples 3 side) (dim_at side place - 1)

  abbrev has : ℕ → Bool
  has n = list_any (same (get_or (cells_in (tuples 3 side) (dim_at side place - 1)) (n - 1) [])) (facets_round side (triple_at side place))

  neighbor : (k : ℕ) → In k (facet_places side place) → IsNeighbor side place some low k
  neighbor k i = are_neighbors side place some low turns k i

  -- the test of a number, over places
  has-places : (n : ℕ) → has n ≡ list_any (λ k. same (get_or (cells_in (tuples 3 side) (dim_at side place - 1)) (n - 1) []) (triple_at side k)) (facet_places side place)
  has-places n =
      ap (list_any (same (get_or below (n - 1) []))) (sym (round_is side place some low)) ∙ list_any-map (same (get_or below (n - 1) [])) (triple_at side) (facet_places side place)

  -- the numbers of the places of the facets
  pub to_facet : (n : ℕ) → In n (map (number_at side) (facet_places side place)) → In n (facets_at side (dim_at side place) place)
  to_facet n i =
      let r = map-In (number_at side) (facet_places side place) i in
      let k : ℕ = r.0 in
      let b : IsNeighbor side place some low k = neighbor k r.1 in
      let d : dim_at side k ≡ dim_at side place - 1 = omega (arith, b.dim) in
      let w = numbered side (dim_at side place - 1) some k b.below d in
      let t : get_or below (n - 1) [] ≡ triple_at side k = ap (λ (m : ℕ). get_or below (m - 1) []) r.2 ∙ numbered_cell side (dim_at side place - 1) some k b.below d in
      In-filter has (In-upto (length below) n (omega (arith, w.0, r.2)) (omega (arith, w.1, r.2)))
      (has-places n ∙ any-In (λ j. same (get_or below (n - 1) []) (triple_at side j)) r.1 (ap (λ (u : List ℕ). same u (triple_at side k)) t ∙ eq-same (triple_at side k)))

  pub from_facet : (n : ℕ) → In n (facets_at side (dim_at side place) place) → In n (map (number_at side) (facet_places side place))
  from_facet n i =
      let w = upto-In (length below) n (In-inside has (upto (length below)) i) in
      let s = any-some (λ k. same (get_or below (n - 1) []) (triple_at side k)) (facet_places side place) (sym (has-places n) ∙ filter-In has (upto (length below)) i) in
      let b : IsNeighbor side place some low s.0 = neighbor s.0 s.1 in
      let e : n ≡ number_at side s.0 = number_of side (dim_at side place - 1) some n s.0 w.0 w.1 b.below (omega (arith, b.dim)) (same-eq (get_or below (n - 1) []) (triple_at side s.0) s.2) in
      subst (λ (m : ℕ). In m (map (number_at side) (facet_places side place))) (sym e) (In-map (number_at side) s.1)

  pub rises : IsStrictlyIncreasing (facets_at side (dim_at side place) place)
  rises = IsStrictlyIncreasing-filter has (upto (length below)) (increasing-upto (length below))

  -- the sorted numbers are the facets
  pub facets_are : (xs : List ℕ) → IsStrictlyIncreasing xs → ((n : ℕ) → In n xs → In n (map (number_at side) (facet_places side place))) → ((n : ℕ) → In n (map (number_at side) (facet_places side place)) → In n xs) → xs ≡ facets_at side (dim_at side place) place
  facets_are xs r f g =
      same_increasing xs (facets_at side (dim_at side place) place) r rises
      (λ n. both_ways (holds xs n) (holds (facets_at side (dim_at side place) place) n)
      (λ e. In-holds (to_facet n (f n (holds-In xs e))))
      (λ e. In-holds (g n (from_facet n (holds-In (facets_at side (dim_at side place) place) e)))))

-- the numbers that stand at the places of the facets
pub numbers_read : (side place : ℕ) (numbers : List ℕ) → 0 < side → place < volume side → Turns side → numbers ≡ map (number_at side) (range_with_len 0 (volume side))
    → map (λ k. get_or numbers k 0) (facet_places side place) ≡ map (number_at side) (facet_places side place)
numbers_read side place numbers some low turns e =
    map_same (λ k. get_or numbers k 0) (number_at side) (facet_places side place)
    (λ k i. ap (λ (ns : List ℕ). get_or ns k 0) e ∙ get_or-map-range_with_len (number_at side) 0 (volume side) k k 0 (are_neighbors side place some low turns k i).below (omega arith))

-- the sorted list is that of the facets
pub sorted_facets : (side place : ℕ) (found sorted : List ℕ) → 0 < side → place < volume side → Turns side → found ≡ map (number_at side) (facet_places side place) → IsStrictlyIncreasing sorted
    → ((n : ℕ) → Contains found n → Contains sorted n) → ((n : ℕ) → Contains sorted n → Contains found n) → sorted ≡ facets_at side (dim_at side place) place
sorted_facets side place found sorted some low turns e r keeps adds_none =
    facets_are side place some low turns sorted r
    (λ n i. subst (In n) e (holds-In found (Contains-holds found n (adds_none n (holds-Contains sorted n (In-holds i))))))
    (λ n i. holds-In sorted (Contains-holds sorted n (keeps n (holds-Contains found n (In-holds (subst (In n) (sym e) i))))))
