-- The cells of voxels, by their places.
use Rattle.std.proofs.Common.{◌≡◌, inl, inr, ℕ, zero, suc, ◌+◌, ◌-◌, ◌*◌, ◌/◌, ◌%◌, ◌<◌, ◌≤◌, List, [], ◌∷◌, Bool, true, cond, eqb, filter, map, length, get_or, Contains, refl, ap, sym, ◌∙◌, subst, arith}
use Rattle.std.specs.List.{list_any, flat_map, range_with_len, All}
use Rattle.std.specs.List.Sorted.{IsStrictlyIncreasing}
use Rattle.std.proofs.Math.Nat.{mul-le-mul, mul-le-mul_right}
use Rattle.std.proofs.lemmas.Bool.{eq-eqb, cases_lt, false≢true, or_left, or_right, or_cases}
use Rattle.std.proofs.lemmas.Nat.{div-add-mod', mod_below}
use Rattle.std.proofs.lemmas.List.{get_or-map, length-map}
use Rattle.std.proofs.lemmas.List.Folds.{list_any-append}
use Rattle.std.proofs.lemmas.List.Kept.{IsStrictlyIncreasing-filter}
use Rattle.face_poset.specs.Words.{holds}
use Rattle.number_lists.proofs.CallerLemmas.{length-filter-le, same_increasing, Contains-holds, holds-Contains, In-filter, In-inside, filter-In, holds-In, In-holds, In-at, at-In, map-In, In-flat_map, flat_map-In, filter-map, increasing-range}
use Rattle.std.specs.Cmp.{both_ways}
use Rattle.number_lists.specs.Members.{In, here, there}
use Rattle.array_values.specs.Bits.{volume}
use Rattle.tuple_spaces.specs.Tuples.{same, dim_of}
use Rattle.tuple_spaces.proofs.CallerLemmas.{dim-cons, even-is, same-eq, eq-same, In-below, below-In}
use Rattle.tuple_spaces.specs.Voxels.{voxel, faces, limits_of, cells_of}
use Rattle.voxel_spaces.specs.Places.{dim_at, voxel_place, face_places, facet_places, count_at}
use Rattle.voxel_spaces.specs.BoxTuples.{strides_of, tuple_at}
use Rattle.voxel_spaces.proofs.PlacesInBoxes.{Some, all-head, all-tail, IsWithin, place_of, some-volume, place-below, tuple-place, place-tuple, tuple-within, boxed-is}
use Rattle.voxel_spaces.proofs.FacePlaces.{IsInner, IsNear, IsOdd, voxel-inner, voxel-odd, faces-are, voxel_place-is, near-any, any-near}
use Rattle.voxel_spaces.proofs.FacetPlaces.{IsFacetOf, are_facets, odd_box, some_box}

-- ---- lists

-- a tuple whose image this is
map-any : (f : List ℕ → ℕ) (n : ℕ) (us : List (List ℕ)) → In n (map f us) → (t : List ℕ) × (n ≡ f t) × (list_any (same t) us ≡ true)
map-any f n [] i = elim i [ ]
map-any f n (u ∷ us) here = (u, refl, or_left (same u u) (list_any (same u) us) (eq-same u))
map-any f n (u ∷ us) (there i) = let r = map-any f n us i in (r.0, r.1, or_right (same r.0 u) (list_any (same r.0) us) r.2)

any-map : (f : List ℕ → ℕ) (t : List ℕ) (us : List (List ℕ)) → list_any (same t) us ≡ true → In (f t) (map f us)
any-map f t [] h = absurd (false≢true h)
any-map f t (u ∷ us) h =
    elim (or_cases (same t u) (list_any (same t) us) h) [
      | inl q ↦ subst (λ (w : List ℕ). In (f t) (f w ∷ map f us)) (same-eq t u q) here
      | inr q ↦ there (any-map f t us q)
    ]

any-flat : (p : List ℕ → Bool) (h : List ℕ → List (List ℕ)) (g : ℕ → List ℕ) (xs : List ℕ) → list_any p (flat_map h (map g xs)) ≡ true → (i : ℕ) × In i xs × (list_any p (h (g i)) ≡ true)
any-flat p h g [] e = absurd (false≢true e)
any-flat p h g (x ∷ xs) e =
    elim (or_cases (list_any p (h (g x))) (list_any p (flat_map h (map g xs))) (sym (list_any-append p (h (g x)) (flat_map h (map g xs))) ∙ e)) [
      | inl q ↦ (x, here, q)
      | inr q ↦ let r = any-flat p h g xs q in (r.0, there r.1, r.2)
    ]

flat-any : (p : List ℕ → Bool) (h : List ℕ → List (List ℕ)) (g : ℕ → List ℕ) (i : ℕ) (xs : List ℕ) → In i xs → list_any p (h (g i)) ≡ true → list_any p (flat_map h (map g xs)) ≡ true
flat-any p h g i [] j e = elim j [ ]
flat-any p h g i (x ∷ xs) here e = list_any-append p (h (g x)) (flat_map h (map g xs)) ∙ or_left (list_any p (h (g x))) (list_any p (flat_map h (map g xs))) e
flat-any p h g i (x ∷ xs) (there j) e = list_any-append p (h (g x)) (flat_map h (map g xs)) ∙ or_right (list_any p (h (g x))) (list_any p (flat_map h (map g xs))) (flat-any p h g i xs j e)

-- ---- tuples near a voxel

near-within : (ls v t : List ℕ) → IsInner ls v → IsNear v t → IsWithin ls t
near-within [] [] [] h n = tt
near-within [] [] (d ∷ ds) h n = absurd n
near-within [] (c ∷ cs) t h n = absurd h
near-within (l ∷ ls) [] t h n = absurd h
near-within (l ∷ ls) (c ∷ cs) [] h n = absurd n
near-within (l ∷ ls) (c ∷ cs) (d ∷ ds) h n =
    let a : c + 1 < l = h.1 in
    (elim n.0 [ inl q ↦ omega arith | inr q ↦ elim q [ inl s ↦ omega arith | inr s ↦ omega arith ] ], near-within ls cs ds h.2 n.1)

near-self : (v : List ℕ) → IsNear v v
near-self [] = tt
near-self (c ∷ cs) = (inr (inl refl), near-self cs)

-- the vertex with the least coordinates
near-low : (v : List ℕ) → IsOdd v → (t : List ℕ) × IsNear v t × (dim_of t ≡ 0)
near-low [] o = ([], tt, refl)
near-low (c ∷ cs) o =
    let r = near-low cs o.1 in
    let a : c % 2 ≡ 1 = o.0 in
    ((c - 1) ∷ r.0, (inl (omega arith), r.1), dim-cons (c - 1) r.0 ∙ (ap (λ (b : Bool). cond b 1 0 + dim_of r.0) (even-is (c - 1) (omega arith)) ∙ omega (arith, r.2)))

-- ---- how far voxels are

pub voxel_place-below : (sizes : List ℕ) (i : ℕ) → Some sizes → i < volume sizes → voxel_place (strides_of sizes) (strides_of (limits_of sizes)) i < volume (limits_of sizes)
voxel_place-below sizes i s h =
    let v : List ℕ = voxel (tuple_at (strides_of sizes) i) in
    let inner : IsInner (limits_of sizes) v = voxel-inner sizes (tuple_at (strides_of sizes) i) (tuple-within sizes i s h) in
    subst (λ (n : ℕ). n < volume (limits_of sizes)) (sym (voxel_place-is sizes i)) (place-below (limits_of sizes) v (near-within (limits_of sizes) v v inner (near-self v)))

voxel_place-rises : (sizes : List ℕ) (i j : ℕ) → Some sizes → i < j → j < volume sizes → voxel_place (strides_of sizes) (strides_of (limits_of sizes)) i < voxel_place (strides_of sizes) (strides_of (limits_of sizes)) j
voxel_place-rises [] i j s l h = absurd (omega arith)
voxel_place-rises (x ∷ ss) i j s l h =
    let V : ℕ = volume ss in
    let W : ℕ = volume (limits_of ss) in
    let some = all-tail (λ limit. 1 ≤ limit) x ss s in
    let one : 0 < V = some-volume ss some in
    let p : ℕ → ℕ = voxel_place (strides_of ss) (strides_of (limits_of ss)) in
    let ri : i % V < V = mod_below i V one in
    let rj : j % V < V = mod_below j V one in
    let a : p (i % V) < W = voxel_place-below ss (i % V) some ri in
    let ei : i / V * V + i % V ≡ i = div-add-mod' i V in
    let ej : j / V * V + j % V ≡ j = div-add-mod' j V in
    elim (cases_lt (i / V) (j / V)) [
      | inl q ↦ let m : suc (2 * (i / V) + 1) * W ≤ (2 * (j / V) + 1) * W = mul-le-mul_right W (let z : suc (2 * (i / V) + 1) ≤ 2 * (j / V) + 1 = omega arith in z) in let e : suc (2 * (i / V) + 1) * W ≡ (2 * (i / V) + 1) * W + W = omega arith in omega (arith, m, a, e)
      | inr q ↦
          let up : j / V * V ≤ i / V * V = mul-le-mul_right V q in
          let same : i / V ≡ j / V = equal (i / V) (j / V) V i j (i % V) (j % V) q ei ej rj ri l in
          let e : i / V * V ≡ j / V * V = ap (λ (n : ℕ). n * V) same in
          let less : p (i % V) < p (j % V) = voxel_place-rises ss (i % V) (j % V) some (omega (arith, e, ei, ej, l)) rj in
          omega (arith, less, ap (λ (n : ℕ). (2 * n + 1) * W) same)
    ]
  where
    equal : (a b v i j r s : ℕ) → b ≤ a → a * v + r ≡ i → b * v + s ≡ j → s < v → r < v → i < j → a ≡ b
    equal a b v i j r s q ei ej ls lr l =
        elim (cases_lt b a) [
          | inl z ↦ let m : suc b * v ≤ a * v = mul-le-mul_right v z in let e : suc b * v ≡ b * v + v = omega arith in absurd (omega arith)
          | inr z ↦ omega arith
        ]

-- ---- the places of the cells

module _ (sizes I : List ℕ) (s : Some sizes) (inside : (i : ℕ) → In i I → i < volume sizes) where
  inner : (i : ℕ) → In i I → IsInner (limits_of sizes) (voxel (tuple_at (strides_of sizes) i))
  inner i j = voxel-inner sizes (tuple_at (strides_of sizes) i) (tuple-within sizes i s (inside i j))

  places-are : (i : ℕ) → In i I → face_places (strides_of (limits_of sizes)) (voxel_place (strides_of sizes) (strides_of (limits_of sizes)) i) ≡ map (place_of (limits_of sizes)) (faces (voxel (tuple_at (strides_of sizes) i)))
  places-are i j = ap (face_places (strides_of (limits_of sizes))) (voxel_place-is sizes i) ∙ faces-are (limits_of sizes) (voxel (tuple_at (strides_of sizes) i)) (inner i j)

  -- the tuple at a place that was found is near a voxel
  pub record IsCellAt (n : ℕ) : Type 0 where
    pub below : n < volume (limits_of sizes)
    pub index : ℕ
    pub there_is : In index I
    pub near : IsNear (voxel (tuple_at (strides_of sizes) index)) (tuple_at (strides_of (limits_of sizes)) n)

  abbrev all_places : List ℕ
  all_places = flat_map (λ i. face_places (strides_of (limits_of sizes)) (voxel_place (strides_of sizes) (strides_of (limits_of sizes)) i)) I

  pub flat-cell : (n : ℕ) → In n (flat_map (λ i. face_places (strides_of (limits_of sizes)) (voxel_place (strides_of sizes) (strides_of (limits_of sizes)) i)) I) → IsCellAt n
  flat-cell n i =
      let L : List ℕ = limits_of sizes in
      let T : ℕ → List ℕ = tuple_at (strides_of L) in
      let w = flat_map-In (λ i. face_places (strides_of (limits_of sizes)) (voxel_place (strides_of sizes) (strides_of (limits_of sizes)) i)) I i in
      let j : ℕ = w.0 in
      let v : List ℕ = voxel (tuple_at (strides_of sizes) j) in
      let r = map-any (place_of L) n (faces v) (subst (In n) (places-are j w.1) w.2) in
      let t : List ℕ = r.0 in
      let close : IsNear v t = any-near v t (voxel-odd (tuple_at (strides_of sizes) j)) r.2 in
      let within : IsWithin L t = near-within L v t (inner j w.1) close in
      record {
        below = subst (λ (k : ℕ). k < volume L) (sym r.1) (place-below L t within);
        index = j;
        there_is = w.1;
        near = subst (IsNear v) (sym (ap T r.1 ∙ tuple-place L t within)) close;
      }

module _ (sizes I P : List ℕ) (s : Some sizes) (inside : (i : ℕ) → In i I → i < volume sizes) (inc : IsStrictlyIncreasing P)
    (keeps : (n : ℕ) → Contains (flat_map (λ i. face_places (strides_of (limits_of sizes)) (voxel_place (strides_of sizes) (strides_of (limits_of sizes)) i)) I) n → Contains P n)
    (adds_none : (n : ℕ) → Contains P n → Contains (flat_map (λ i. face_places (strides_of (limits_of sizes)) (voxel_place (strides_of sizes) (strides_of (limits_of sizes)) i)) I) n) where
  abbrev L : List ℕ
  L = limits_of sizes

  abbrev ss : List ℕ
  ss = strides_of (limits_of sizes)

  abbrev T : ℕ → List ℕ
  T = tuple_at (strides_of (limits_of sizes))

  abbrev vox : ℕ → List ℕ
  vox i = voxel (tuple_at (strides_of sizes) i)

  abbrev near_places : ℕ → List ℕ
  near_places i = face_places (strides_of (limits_of sizes)) (voxel_place (strides_of sizes) (strides_of (limits_of sizes)) i)

  pub found-cell : (n : ℕ) → In n P → IsCellAt sizes I s inside n
  found-cell n i = flat-cell sizes I s inside n (holds-In (flat_map near_places I) (Contains-holds (flat_map near_places I) n (adds_none n (holds-Contains P n (In-holds i)))))

  pub cell-found : (n i : ℕ) → n < volume (limits_of sizes) → In i I → IsNear (voxel (tuple_at (strides_of sizes) i)) (tuple_at (strides_of (limits_of sizes)) n) → In n P
  cell-found n i l j close =
      let at : place_of L (T n) ≡ n = place-tuple L n (some_box sizes) l in
      let a : In n (map (place_of L) (faces (vox i))) = subst (λ (k : ℕ). In k (map (place_of L) (faces (vox i)))) at (any-map (place_of L) (T n) (faces (vox i)) (near-any (vox i) (T n) close)) in
      let b : In n (flat_map near_places I) = In-flat_map near_places j (subst (In n) (sym (places-are sizes I s inside i j)) a) in
      holds-In P (Contains-holds P n (keeps n (holds-Contains (flat_map near_places I) n (In-holds b))))

  pub closed-cells : (p : ℕ) → In p P → (k : ℕ) → In k (facet_places (strides_of (limits_of sizes)) p) → In k P
  closed-cells p i k j =
      let c : IsCellAt sizes I s inside p = found-cell p i in
      let f : IsFacetOf L p k = are_facets L p (some_box sizes) (odd_box sizes) c.below k j in
      cell-found k c.index f.below c.there_is (f.near (vox c.index) (voxel-odd (tuple_at (strides_of sizes) c.index)) c.near)

  abbrev test : List ℕ → Bool
  test t = list_any (same t) (flat_map (λ i. faces (voxel i)) (map (tuple_at (strides_of sizes)) I))

  passing-is : P ≡ filter (λ n. test (T n)) (range_with_len 0 (volume L))
  passing-is =
      let Q : List ℕ = filter (λ n. test (T n)) (range_with_len 0 (volume L)) in
      same_increasing P Q inc (IsStrictlyIncreasing-filter (λ n. test (T n)) (range_with_len 0 (volume L)) (increasing-range 0 (volume L)))
      (λ n. both_ways (holds P n) (holds Q n)
      (λ h. let c : IsCellAt sizes I s inside n = found-cell n (holds-In P h) in
      In-holds (In-filter (λ m. test (T m)) (In-below (volume L) n c.below) (flat-any (same (T n)) (λ i. faces (voxel i)) (tuple_at (strides_of sizes)) c.index I c.there_is (near-any (vox c.index) (T n) c.near))))
      (λ h. let i : In n Q = holds-In Q h in
      let w = any-flat (same (T n)) (λ i. faces (voxel i)) (tuple_at (strides_of sizes)) I (filter-In (λ m. test (T m)) (range_with_len 0 (volume L)) i) in
      In-holds (cell-found n w.0 (below-In (volume L) n (In-inside (λ m. test (T m)) (range_with_len 0 (volume L)) i)) w.1 (any-near (vox w.0) (T n) (voxel-odd (tuple_at (strides_of sizes) w.0)) w.2))))

  -- the cells stand at the places
  pub cells-at : cells_of sizes (map (tuple_at (strides_of sizes)) I) ≡ map (tuple_at (strides_of (limits_of sizes))) P
  cells-at =
      ap (filter test) (boxed-is L (some_box sizes)) ∙ (filter-map test T (range_with_len 0 (volume L)) ∙ ap (map T) (sym passing-is))

  -- there is a vertex
  pub some-vertex : 1 ≤ length I → 1 ≤ count_at (strides_of (limits_of sizes)) P 0
  some-vertex h =
      let i : ℕ = get_or I 0 0 in
      let j : In i I = at-In I 0 0 h in
      let r = near-low (vox i) (voxel-odd (tuple_at (strides_of sizes) i)) in
      let t : List ℕ = r.0 in
      let within : IsWithin L t = near-within L (vox i) t (inner sizes I s inside i j) r.1 in
      let n : ℕ = place_of L t in
      let at : T n ≡ t = tuple-place L t within in
      let there_is : In n P = cell-found n i (place-below L t within) j (subst (IsNear (vox i)) (sym at) r.1) in
      let w = In-at (In-filter (λ p. eqb (dim_at ss p) 0) there_is (eq-eqb (dim_at ss n) 0 (ap dim_of at ∙ r.2))) in
      omega (arith, w.1)

  -- each voxel is a cell
  pub many-cells : IsStrictlyIncreasing I → length I ≤ length P
  many-cells rises =
      let f : ℕ → ℕ = voxel_place (strides_of sizes) (strides_of (limits_of sizes)) in
      let C : List ℕ = map f I in
      let up : IsStrictlyIncreasing C = λ k l.
      let m : k + 1 < length I = omega (arith, l, length-map I f) in
      let a : get_or C k 0 ≡ f (get_or I k 0) = get_or-map f I k 0 0 (omega arith) in
      let b : get_or C (k + 1) 0 ≡ f (get_or I (k + 1) 0) = get_or-map f I (k + 1) 0 0 m in
      omega (arith, a, b, voxel_place-rises sizes (get_or I k 0) (get_or I (k + 1) 0) s (rises k m) (inside (get_or I (k + 1) 0) (at-In I (k + 1) 0 m))) in
      let C-in : (n : ℕ) → In n C → In n P = λ n i.
      let w = map-In f I i in
      let v : List ℕ = vox w.0 in
      let within : IsWithin L v = near-within L v v (inner sizes I s inside w.0 w.1) (near-self v) in
      let e : n ≡ place_of L v = w.2 ∙ voxel_place-is sizes w.0 in
      cell-found n w.0 (subst (λ (k : ℕ). k < volume L) (sym e) (place-below L v within)) w.1 (subst (IsNear v) (sym (ap T e ∙ tuple-place L v within)) (near-self v)) in
      let same_list : C ≡ filter (holds C) P = same_increasing C (filter (holds C) P) up (IsStrictlyIncreasing-filter (holds C) P inc)
      (λ n. both_ways (holds C n) (holds (filter (holds C) P) n) (λ h. In-holds (In-filter (holds C) (C-in n (holds-In C h)) h)) (λ h. filter-In (holds C) P (holds-In (filter (holds C) P) h))) in
      omega (arith, length-map I f, ap (λ (xs : List ℕ). length xs) same_list, length-filter-le (holds C) P)

-- ---- how large the box is

three_times : (a b v w : ℕ) → 1 ≤ a → w ≤ b * v → (2 * a + 1) * w ≤ 3 * b * (a * v)
three_times a b v w one h =
    let m : (2 * a + 1) * w ≤ 3 * a * (b * v) = mul-le-mul (let z : 2 * a + 1 ≤ 3 * a = omega arith in z) h in
    let e : 3 * a * (b * v) ≡ 3 * b * (a * v) = grind arith in
    subst (λ (n : ℕ). (2 * a + 1) * w ≤ n) e m

abbrev cubes : List ℕ → ℕ
cubes [] = 1
cubes (x ∷ xs) = 3 * cubes xs

limits-le : (sizes : List ℕ) → Some sizes → volume (limits_of sizes) ≤ cubes sizes * volume sizes
limits-le [] s = omega arith
limits-le (x ∷ ss) s = three_times x (cubes ss) (volume ss) (volume (limits_of ss)) (all-head (λ limit. 1 ≤ limit) x ss s) (limits-le ss (all-tail (λ limit. 1 ≤ limit) x ss s))

cubes-le : (sizes : List ℕ) → length sizes ≤ 3 → cubes sizes ≤ 27
cubes-le [] h = omega arith
cubes-le (a ∷ []) h = omega arith
cubes-le (a ∷ b ∷ []) h = omega arith
cubes-le (a ∷ b ∷ c ∷ []) h = omega arith
cubes-le (a ∷ b ∷ c ∷ d ∷ ds) h = absurd (omega arith)

pub limits-few : (sizes : List ℕ) → Some sizes → length sizes ≤ 3 → volume sizes ≤ 2147483648 → volume (limits_of sizes) < 1099511627776
limits-few sizes s l h =
    let m : cubes sizes * volume sizes ≤ 27 * 2147483648 = mul-le-mul (cubes-le sizes l) h in
    omega (arith, limits-le sizes s, m)

-- a stride is at most the volume
pub strides-le : (ls : List ℕ) (m : ℕ) → Some ls → volume ls ≤ m → All (λ stride. stride ≤ m) (strides_of ls)
strides-le [] m s h k d l = absurd (omega arith)
strides-le (x ∷ ls) m s h zero d l =
    let one : 1 ≤ x = all-head (λ limit. 1 ≤ limit) x ls s in
    omega (arith, h, mul-le-mul_right (volume ls) one)
strides-le (x ∷ ls) m s h (suc k) d l =
    let one : 1 ≤ x = all-head (λ limit. 1 ≤ limit) x ls s in
    strides-le ls m (all-tail (λ limit. 1 ≤ limit) x ls s) (omega (arith, h, mul-le-mul_right (volume ls) one)) k d (omega arith)

-- where there are some in the box, it is not flat
pub some-sizes : (sizes : List ℕ) → 1 ≤ volume sizes → Some sizes
some-sizes [] h k d l = absurd (omega arith)
some-sizes (zero ∷ ss) h k d l = absurd (let e : zero * volume ss ≡ 0 = omega arith in omega arith)
some-sizes (suc x ∷ ss) h zero d l = omega arith
some-sizes (suc x ∷ ss) h (suc k) d l = some-sizes ss (pos (volume ss) h) k d (omega arith)
  where
    pos : (v : ℕ) → 1 ≤ suc x * v → 1 ≤ v
    pos zero e = absurd (let z : suc x * zero ≡ 0 = omega arith in omega arith)
    pos (suc v) e = omega arith
