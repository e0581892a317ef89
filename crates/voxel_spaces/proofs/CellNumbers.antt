-- The numbers of the facets of a cell.
use Rattle.std.proofs.Common.{◌≡◌, inl, inr, ℕ, zero, suc, ◌+◌, ◌-◌, ◌<◌, ◌≤◌, List, [], ◌∷◌, Bool, true, false, cond, ◌&&◌, eqb, nat_lt, filter, map, length, get_or, take, set, Contains, refl, ap, sym, ◌∙◌, subst, arith}
use Rattle.std.specs.List.{list_any, All}
use Rattle.std.specs.List.Sorted.{IsStrictlyIncreasing}
use Rattle.std.proofs.lemmas.Bool.{eq-eqb, ltb-true, lt-ltb, false_from_ne_true}
use Rattle.std.proofs.lemmas.Bool.Decides.{eqb_tells}
use Rattle.std.proofs.lemmas.List.{get_or-map, length-map, length-append, take_more, get_or-set_same, get_or-set_other}
use Rattle.std.proofs.lemmas.List.Elements.{filter-append}
use Rattle.std.proofs.lemmas.List.Kept.{IsStrictlyIncreasing-filter}
use Rattle.face_poset.specs.Words.{upto, holds}
use Rattle.face_poset.specs.Poset.{IsCell}
use Rattle.number_lists.proofs.CallerLemmas.{same_increasing, increasing-upto, increasing_head, increasing_tail, Contains-holds, holds-Contains, In-filter, In-inside, filter-In, any-In, any-some, holds-In, In-holds, In-at, at-In, In-upto, upto-In, In-map, map-In, filter-map, list_any-map, increasing-once}
use Rattle.std.specs.Cmp.{both_ways}
use Rattle.number_lists.specs.Members.{In}
use Rattle.array_values.specs.Bits.{volume}
use Rattle.tuple_spaces.specs.Tuples.{same, dim_of, cells_in, numbers_in}
use Rattle.tuple_spaces.proofs.CallerLemmas.{none_in, same-eq, eq-same}
use Rattle.tuple_spaces.specs.Voxels.{facets}
use Rattle.voxel_spaces.specs.Places.{dim_at, facet_places, number_among}
use Rattle.voxel_spaces.specs.BoxTuples.{strides_of, tuple_at}
use Rattle.voxel_spaces.proofs.PlacesInBoxes.{Some, tuple_once}
use Rattle.voxel_spaces.proofs.FacetPlaces.{OddBox, IsFacetOf, are_facets, facets-are, some_facet}

-- ---- lists

none_below : (test : ℕ → Bool) (x : ℕ) (xs : List ℕ) → All (λ y. x < y) xs → filter (λ q. nat_lt q x && test q) xs ≡ []
none_below test x [] h = refl
none_below test x (y ∷ ys) h =
    let l : x < y = h 0 0 (omega arith) in
    ap (λ (b : Bool). cond (b && test y) (y ∷ filter (λ q. nat_lt q x && test q) ys) (filter (λ q. nat_lt q x && test q) ys)) (false_from_ne_true (nat_lt y x) (λ e. let m : y < x = ltb-true y x e in omega arith))
    ∙ none_below test x ys (λ k d m. h (suc k) d (omega arith))

-- those below a member are those that stand before it
pub below_is : (test : ℕ → Bool) (xs : List ℕ) (i : ℕ) → IsStrictlyIncreasing xs → i < length xs → filter (λ q. nat_lt q (get_or xs i 0) && test q) xs ≡ filter test (take i xs)
below_is test [] i h l = absurd (omega arith)
below_is test (x ∷ xs) zero h l =
    ap (λ (b : Bool). cond (b && test x) (x ∷ filter (λ q. nat_lt q x && test q) xs) (filter (λ q. nat_lt q x && test q) xs)) (false_from_ne_true (nat_lt x x) (λ e. let m : x < x = ltb-true x x e in omega arith))
    ∙ none_below test x xs (increasing_head x xs h)
below_is test (x ∷ xs) (suc i) h l =
    let m : i < length xs = omega arith in
    let less : x < get_or xs i 0 = increasing_head x xs h i 0 m in
    ap (λ (b : Bool). cond (b && test x) (x ∷ filter (λ q. nat_lt q (get_or xs i 0) && test q) xs) (filter (λ q. nat_lt q (get_or xs i 0) && test q) xs)) (lt-ltb x (get_or xs i 0) less)
    ∙ ap (λ (ys : List ℕ). cond (test x) (x ∷ ys) ys) (below_is test xs i (increasing_tail x xs h) m)

-- one that passes stands at the place that those before it leave
pub filter_spot : (test : ℕ → Bool) (xs : List ℕ) (i : ℕ) → i < length xs → test (get_or xs i 0) ≡ true → (length (filter test (take i xs)) < length (filter test xs)) × (get_or (filter test xs) (length (filter test (take i xs))) 0 ≡ get_or xs i 0)
filter_spot test [] i l e = absurd (omega arith)
filter_spot test (x ∷ xs) zero l e =
    subst (λ (b : Bool). (0 < length (cond b (x ∷ filter test xs) (filter test xs))) × (get_or (cond b (x ∷ filter test xs) (filter test xs)) 0 0 ≡ x)) (sym e) (omega arith, refl)
filter_spot test (x ∷ xs) (suc i) l e = by_test (test x) (filter_spot test xs i (omega arith) e)
  where
    by_test : (b : Bool) → (length (filter test (take i xs)) < length (filter test xs)) × (get_or (filter test xs) (length (filter test (take i xs))) 0 ≡ get_or xs i 0)
        → (length (cond b (x ∷ filter test (take i xs)) (filter test (take i xs))) < length (cond b (x ∷ filter test xs) (filter test xs))) × (get_or (cond b (x ∷ filter test xs) (filter test xs)) (length (cond b (x ∷ filter test (take i xs)) (filter test (take i xs)))) 0 ≡ get_or xs i 0)
    by_test true h = let a = h.0 in (omega arith, h.1)
    by_test false h = h

pub number-is : (ss P : List ℕ) (i d : ℕ) → IsStrictlyIncreasing P → i < length P → dim_at ss (get_or P i 0) ≡ d → number_among ss P (get_or P i 0) ≡ length (filter (λ p. eqb (dim_at ss p) d) (take i P)) + 1
number-is ss P i d inc l e =
    ap (λ (xs : List ℕ). length xs + 1) (below_is (λ p. eqb (dim_at ss p) (dim_at ss (get_or P i 0))) P i inc l) ∙ ap (λ (n : ℕ). length (filter (λ p. eqb (dim_at ss p) n) (take i P)) + 1) e

-- one cell more is counted at its dimension
count-more : (test : ℕ → Bool) (P : List ℕ) (i : ℕ) → i < length P → length (filter test (take (i + 1) P)) ≡ length (filter test (take i P)) + cond (test (get_or P i 0)) 1 0
count-more test P i l =
    ap (λ (xs : List ℕ). length (filter test xs)) (take_more P i 0 l)
    ∙ (ap length (filter-append test (take i P) (get_or P i 0 ∷ []))
    ∙ (length-append (filter test (take i P)) (filter test (get_or P i 0 ∷ [])) ∙ ap (λ (n : ℕ). length (filter test (take i P)) + n) (by_test (test (get_or P i 0)))))
  where
    by_test : (b : Bool) → length (cond b (get_or P i 0 ∷ []) []) ≡ cond b 1 0
    by_test true = refl
    by_test false = refl

pub counts-more : (ss P counts : List ℕ) (i dim : ℕ) → i < length P → length counts ≡ 4 → dim ≡ dim_at ss (get_or P i 0) → dim ≤ 3
    → ((d : ℕ) → d ≤ 3 → get_or counts d 0 ≡ length (filter (λ p. eqb (dim_at ss p) d) (take i P)))
    → (d : ℕ) → d ≤ 3 → get_or (set counts dim (get_or counts dim 0 + 1)) d 0 ≡ length (filter (λ p. eqb (dim_at ss p) d) (take (i + 1) P))
counts-more ss P counts i dim lt long is most h d l =
    let n : ℕ = length (filter (λ p. eqb (dim_at ss p) d) (take i P)) in
    let more = count-more (λ p. eqb (dim_at ss p) d) P i lt in
    elim (eqb_tells (dim_at ss (get_or P i 0)) d) [
      | inl q ↦
          let same_dim : dim ≡ d = is ∙ q.1 in
          ap (λ (j : ℕ). get_or (set counts dim (get_or counts dim 0 + 1)) j 0) (sym same_dim)
          ∙ (get_or-set_same counts dim (get_or counts dim 0 + 1) 0 (omega (arith, long, most))
          ∙ (ap (λ (j : ℕ). get_or counts j 0 + 1) same_dim ∙ (ap (λ (m : ℕ). m + 1) (h d l) ∙ sym (more ∙ ap (λ (b : Bool). n + cond b 1 0) q.0))))
      | inr q ↦
          get_or-set_other counts dim d (get_or counts dim 0 + 1) 0 (λ e. q.1 (sym is ∙ sym e))
          ∙ (h d l ∙ sym (more ∙ (ap (λ (b : Bool). n + cond b 1 0) q.0 ∙ omega arith)))
    ]

-- ---- the cells at places

module _ (ls : List ℕ) (P : List ℕ) (some : Some ls) (inc : IsStrictlyIncreasing P) (low : (p : ℕ) → In p P → p < volume ls) where
  abbrev T : ℕ → List ℕ
  T = tuple_at (strides_of ls)

  abbrev D : ℕ → ℕ
  D = dim_at (strides_of ls)

  abbrev spots : ℕ → List ℕ
  spots d = filter (λ p. eqb (dim_at (strides_of ls) p) d) P

  abbrev cells : ℕ → List (List ℕ)
  cells d = cells_in (map (tuple_at (strides_of ls)) P) d

  cells-are : (d : ℕ) → cells d ≡ map T (spots d)
  cells-are d = filter-map (λ t. eqb (dim_of t) d) T P

  pub length-cells : (d : ℕ) → length (cells_in (map (tuple_at (strides_of ls)) P) d) ≡ length (filter (λ p. eqb (dim_at (strides_of ls) p) d) P)
  length-cells d = ap length (cells-are d) ∙ length-map (spots d) T

  cell-at : (d i : ℕ) → i < length (spots d) → get_or (cells d) i [] ≡ T (get_or (spots d) i 0)
  cell-at d i l = ap (λ (ts : List (List ℕ)). get_or ts i []) (cells-are d) ∙ get_or-map T (spots d) i 0 [] l

  pub numbered : (k d : ℕ) → In k P → dim_at (strides_of ls) k ≡ d
      → (1 ≤ number_among (strides_of ls) P k) × (number_among (strides_of ls) P k ≤ length (cells_in (map (tuple_at (strides_of ls)) P) d)) × (get_or (filter (λ p. eqb (dim_at (strides_of ls) p) d) P) (number_among (strides_of ls) P k - 1) 0 ≡ k)
  numbered k d i e =
      let w = In-at i in
      let at : get_or P w.0 0 ≡ k = w.2 in
      let n : number_among (strides_of ls) P k ≡ length (filter (λ p. eqb (D p) d) (take w.0 P)) + 1 = ap (number_among (strides_of ls) P) (sym at) ∙ number-is (strides_of ls) P w.0 d inc w.1 (ap D at ∙ e) in
      let r = filter_spot (λ p. eqb (D p) d) P w.0 w.1 (ap (λ (p : ℕ). eqb (D p) d) at ∙ eq-eqb (D k) d e) in
      let m : number_among (strides_of ls) P k - 1 ≡ length (filter (λ p. eqb (D p) d) (take w.0 P)) = omega (arith, n) in
      (omega (arith, n), omega (arith, n, r.0, length-cells d), ap (λ (j : ℕ). get_or (spots d) j 0) m ∙ (r.1 ∙ at))

  numbered_cell : (k d : ℕ) → In k P → D k ≡ d → get_or (cells d) (number_among (strides_of ls) P k - 1) [] ≡ T k
  numbered_cell k d i e =
      let r = numbered k d i e in
      cell-at d (number_among (strides_of ls) P k - 1) (omega (arith, r.0, r.1, length-cells d)) ∙ ap T r.2

  -- a number whose tuple is that of a place is the number of the place
  number_of : (n k d : ℕ) → 1 ≤ n → n ≤ length (cells d) → In k P → D k ≡ d → get_or (cells d) (n - 1) [] ≡ T k → n ≡ number_among (strides_of ls) P k
  number_of n k d one most i e t =
      let r = numbered k d i e in
      let m : n - 1 < length (spots d) = omega (arith, one, most, length-cells d) in
      let there_is : In (get_or (spots d) (n - 1) 0) P = In-inside (λ p. eqb (D p) d) P (at-In (spots d) (n - 1) 0 m) in
      let same_place : get_or (spots d) (n - 1) 0 ≡ k = tuple_once ls (get_or (spots d) (n - 1) 0) k some (low (get_or (spots d) (n - 1) 0) there_is) (low k i) (sym (cell-at d (n - 1) m) ∙ t) in
      let j : n - 1 ≡ number_among (strides_of ls) P k - 1 = increasing-once (spots d) (n - 1) (number_among (strides_of ls) P k - 1) (IsStrictlyIncreasing-filter (λ p. eqb (D p) d) P inc) m (omega (arith, r.0, r.1, length-cells d)) (same_place ∙ sym r.2) in
      omega (arith, j, one, r.0)

  -- ---- the facets of a cell

  module _ (odd : OddBox ls) (closed : (p : ℕ) → In p P → (k : ℕ) → In k (facet_places (strides_of ls) p) → In k P) (place : ℕ) (inside : In place P) where
    abbrev below : List (List ℕ)
    below = cells_in (map (tuple_at (strides_of ls)) P) (dim_at (strides_of ls) place - 1)

    abbrev has : ℕ → Bool
    has n = list_any (same (get_or (cells_in (map (tuple_at (strides_of ls)) P) (dim_at (strides_of ls) place - 1)) (n - 1) [])) (facets (tuple_at (strides_of ls) place))

    abbrev found : List ℕ
    found = map (number_among (strides_of ls) P) (facet_places (strides_of ls) place)

    abbrev facets_at : List ℕ
    facets_at = numbers_in (cells_in (map (tuple_at (strides_of ls)) P) (dim_at (strides_of ls) place - 1)) (facets (tuple_at (strides_of ls) place))

    is_facet : (k : ℕ) → In k (facet_places (strides_of ls) place) → IsFacetOf ls place k
    is_facet k i = are_facets ls place some odd (low place inside) k i

    has-places : (n : ℕ) → has n ≡ list_any (λ k. same (get_or below (n - 1) []) (T k)) (facet_places (strides_of ls) place)
    has-places n =
        ap (list_any (same (get_or below (n - 1) []))) (sym (facets-are ls place some odd (low place inside))) ∙ list_any-map (same (get_or below (n - 1) [])) T (facet_places (strides_of ls) place)

    to_facet : (n : ℕ) → In n found → In n facets_at
    to_facet n i =
        let r = map-In (number_among (strides_of ls) P) (facet_places (strides_of ls) place) i in
        let k : ℕ = r.0 in
        let b : IsFacetOf ls place k = is_facet k r.1 in
        let d : D k ≡ D place - 1 = omega (arith, b.dim) in
        let kin : In k P = closed place inside k r.1 in
        let w = numbered k (D place - 1) kin d in
        let t : get_or below (n - 1) [] ≡ T k = ap (λ (m : ℕ). get_or below (m - 1) []) r.2 ∙ numbered_cell k (D place - 1) kin d in
        In-filter has (In-upto (length below) n (omega (arith, w.0, r.2)) (omega (arith, w.1, r.2)))
        (has-places n ∙ any-In (λ j. same (get_or below (n - 1) []) (T j)) r.1 (ap (λ (u : List ℕ). same u (T k)) t ∙ eq-same (T k)))

    from_facet : (n : ℕ) → In n facets_at → In n found
    from_facet n i =
        let w = upto-In (length below) n (In-inside has (upto (length below)) i) in
        let s = any-some (λ k. same (get_or below (n - 1) []) (T k)) (facet_places (strides_of ls) place) (sym (has-places n) ∙ filter-In has (upto (length below)) i) in
        let b : IsFacetOf ls place s.0 = is_facet s.0 s.1 in
        let e : n ≡ number_among (strides_of ls) P s.0 = number_of n s.0 (D place - 1) w.0 w.1 (closed place inside s.0 s.1) (omega (arith, b.dim)) (same-eq (get_or below (n - 1) []) (T s.0) s.2) in
        subst (λ (m : ℕ). In m found) (sym e) (In-map (number_among (strides_of ls) P) s.1)

    rises : IsStrictlyIncreasing facets_at
    rises = IsStrictlyIncreasing-filter has (upto (length below)) (increasing-upto (length below))

    -- the sorted list is that of the facets
    pub sorted_facets : (listed sorted : List ℕ) → listed ≡ map (number_among (strides_of ls) P) (facet_places (strides_of ls) place) → IsStrictlyIncreasing sorted
        → ((n : ℕ) → Contains listed n → Contains sorted n) → ((n : ℕ) → Contains sorted n → Contains listed n)
        → sorted ≡ numbers_in (cells_in (map (tuple_at (strides_of ls)) P) (dim_at (strides_of ls) place - 1)) (facets (tuple_at (strides_of ls) place))
    sorted_facets listed sorted e r keeps adds_none =
        same_increasing sorted facets_at r rises
        (λ n. both_ways (holds sorted n) (holds facets_at n)
        (λ h. In-holds (to_facet n (subst (In n) e (holds-In listed (Contains-holds listed n (adds_none n (holds-Contains sorted n h)))))))
        (λ h. Contains-holds sorted n (keeps n (holds-Contains listed n (In-holds (subst (In n) (sym e) (from_facet n (holds-In facets_at h))))))))

    -- a vertex has no facet
    pub no_facets : dim_at (strides_of ls) place ≡ 0 → numbers_in (cells_in (map (tuple_at (strides_of ls)) P) (dim_at (strides_of ls) place - 1)) (facets (tuple_at (strides_of ls) place)) ≡ []
    no_facets e = none_in facets_at (λ n i. let r = map-In (number_among (strides_of ls) P) (facet_places (strides_of ls) place) (from_facet n i) in omega (arith, (is_facet r.0 r.1).dim, e))

    pub cell_facets : 1 ≤ dim_at (strides_of ls) place
        → IsCell (length (cells_in (map (tuple_at (strides_of ls)) P) (dim_at (strides_of ls) place - 1))) (numbers_in (cells_in (map (tuple_at (strides_of ls)) P) (dim_at (strides_of ls) place - 1)) (facets (tuple_at (strides_of ls) place)))
    cell_facets h =
        let f = some_facet ls place some h in
        let i = In-at (to_facet (number_among (strides_of ls) P f.0) (In-map (number_among (strides_of ls) P) f.1)) in
        record {
          rises = rises;
          within = λ k d l. upto-In (length below) (get_or facets_at k d) (In-inside has (upto (length below)) (at-In facets_at k d l));
          some = omega (arith, i.1);
        }
