-- The pairs inside all cells are a valid field on the chains, and leave the flags.
use Rattle.std.proofs.Common.{◌≡◌, ◌≢◌, ◌⊎◌, inl, inr, ℕ, zero, suc, ◌+◌, ◌-◌, ◌<◌, ◌≤◌, List, [], ◌∷◌, ◌++◌, Bool, true, false, not, ◌==◌, map, reverse, length, get_or, refl, ap, sym, ◌∙◌, subst, arith}
use Rattle.std.specs.List.{AllByRecursion, flat_map, range_with_len}
use Rattle.std.proofs.lemmas.Bool.{false≢true, not-true, not_from_false}
use Rattle.std.proofs.lemmas.List.{reverse-reverse}
use native.Mathlib.Decide.{dec_lt}
use Prim.{yes, no}
use Rattle.number_lists.specs.Words.{upto}
use Rattle.number_lists.specs.Members.{In, here, there}
use Rattle.number_lists.proofs.CallerLemmas.{In-cases, In-map, map-In, append-In, In-left, In-right, In-flat_map, flat_map-In, In-upto, upto-In, range-In, In-filter, filter-In, In-inside, In-Contains, Contains-In, same_holds, at-In}
use Rattle.face_poset.specs.declared.cells.Pair.{Pair}
use Rattle.face_poset.specs.Poset.{IsSpace, count, facets_of}
use Rattle.face_poset.specs.Below.{cell_at}
use Rattle.regular_check.specs.Rules.{IsRegular}
use Rattle.regular_check.specs.Cycle.{CyclesGoRound}
use Rattle.order_complex.specs.Chains.{cells_before, id_of, chains_of}
use Rattle.order_complex.specs.Cochains.{leave_out}
use Rattle.order_complex.specs.Complex.{complex_of, number_or_zero}
use Rattle.order_complex.specs.Laws.{FacesAreBelow, ChainsAreSequences}
use Rattle.order_complex.proofs.CallerLemmas.{number-of, count-chains}
use Rattle.vector_field.specs.Pairs.{pair, is_incident, is_used, unpaired, critical_of, IsFieldOf}
use Rattle.vector_field.proofs.CallerLemmas.{Lined, lined-append, Goes, IsLined, valid-from, Uses, used-In, unused-from, Incident, incident-from, critical-is}
use Rattle.local_field.specs.Towers.{TowerPair, facets, inner, top_of, rest_of, Pairwise}
use Rattle.local_field.specs.Inside.{IsFull, IsTower, FitsUnder, NotUp, InnerApart, Differ, HasTower, LeavesOver}
use Rattle.local_field.specs.Buildings.{dim_at, is_below, flag_of, flag_at, building_at, pairs_inside, IsCollapsing}
use Rattle.local_field.specs.Numbered.{number_of, numbered, all_inside, local_pairs, local_field_of, flag_numbers, IsLocalField}
use Rattle.local_field.proofs.FlagLaw.{dim-id, full}
use Rattle.local_field.proofs.Cells.{InRange, id-range, face-range, id-same, below-parts, trans, nothing-below}
use Rattle.local_field.proofs.Flagged.{flagged, cells_leave}
use Rattle.local_field.proofs.InsideCells.{all_both_to, facet_length, full_length}
use Rattle.local_field.proofs.BuildingLemmas.{In-of-all}
use Rattle.local_field.proofs.Inner.{IsInner, full-tower, local-inner, local-stands, inner-facet, inner-tower}
use Rattle.local_field.proofs.ChainTowers.{IsRoom, IsNumber, at-id, tower-chain, chain-tower, numbered-chain, tower-number, tower-same, facet-number, number-facet, left-facet}

-- ---- lists

lined-range : {A : Type 0} (R : A → A → Type 0) (f : ℕ → List A) (a k : ℕ) → ((n : ℕ) → a ≤ n → n < a + k → Lined R (f n)) → ((n m : ℕ) (p q : A) → a ≤ n → n < m → m < a + k → In p (f n) → In q (f m) → R p q)
    → Lined R (flat_map f (range_with_len a k))
lined-range R f a zero h c = tt
lined-range {A} R f a (suc k) h c =
    lined-append R (f a) (flat_map f (range_with_len (a + 1) k)) (h a (omega arith) (omega arith))
    (lined-range R f (a + 1) k (λ n l m. h n (omega (arith, l)) (omega (arith, m))) (λ n m p q l g u. c n m p q (omega (arith, l)) g (omega (arith, u))))
    (λ p q i j. let r = flat_map-In f (range_with_len (a + 1) k) j in let w = range-In (a + 1) k r.0 r.1 in c a r.0 p q (omega arith) (omega (arith, w.0)) (omega (arith, w.1)) i r.2)

lined-map : {A B : Type 0} (R : A → A → Type 0) (S : B → B → Type 0) (f : A → B) (xs : List A) → ((x y : A) → In x xs → In y xs → R x y → S (f x) (f y)) → Lined R xs → Lined S (map f xs)
lined-map R S f [] h k = tt
lined-map {A} {B} R S f (x ∷ xs) h k =
    (λ y i. (let r = map-In f xs i in subst (λ (z : B). S (f x) z) (sym r.2) (h x r.0 here (there r.1) (k.0 r.0 r.1))), lined-map R S f xs (λ y z i j. h y z (there i) (there j)) k.1)

-- ---- pairs of towers

-- p may stand before q, as towers
abbrev TowersGo : TowerPair → TowerPair → Type 0
TowersGo p q = (In q.low (facets p.up) → ⊥) × Differ p q

module _ (rounds : CyclesGoRound) (faces : FacesAreBelow) (sequences : ChainsAreSequences) (space : List (List (List ℕ))) (collapse : ℕ → ℕ → List Pair) (valid : IsSpace space) (regular : IsRegular space) (collapsing : IsCollapsing space collapse) where
  -- a pair inside the cell with an id
  record IsIn (c : ℕ) (p : TowerPair) : Type 0 where
    pub own : FitsUnder (is_below space) (dim_at space) c p
    pub facet : IsInner p
    pub tower : IsTower (is_below space) p.up

  abbrev block : (d n : ℕ) → List TowerPair
  block d n = pairs_inside space collapse d n

  leaves : (d n : ℕ) → suc d ≤ 3 → 1 ≤ n → n ≤ count space (suc d) → LeavesOver (is_below space) (dim_at space) (flag_of space (suc d) n) (block (suc d) n)
  leaves d n small low high = cells_leave rounds space collapse (suc d) n valid regular collapsing small low high

  all-in : (d n : ℕ) → suc d ≤ 3 → 1 ≤ n → n ≤ count space (suc d) → AllByRecursion (IsIn (id_of space (cell_at (suc d) n))) (block (suc d) n)
  all-in d n small low high =
      let c : ℕ = id_of space (cell_at (suc d) n) in
      let t : List ℕ = flag_of space (suc d) n in
      let s = local-stands (is_below space) (dim_at space) (building_at space collapse) (flag_at space) (flagged rounds space collapse valid regular collapsing) 3 c (rest_of t) (full space valid (suc d) n small low high) in
      let inn = local-inner (building_at space collapse) (flag_at space) 3 t in
      let o = (leaves d n small low high).own in
      all_both_to (λ (p : TowerPair). IsInner p × IsTower (is_below space) p.up) (FitsUnder (is_below space) (dim_at space) c) (IsIn c) (λ p a b. record { own = b; facet = a.0; tower = a.1 }) (block (suc d) n)
      (all_both_to IsInner (λ (p : TowerPair). IsTower (is_below space) p.up × (top_of p.up ≡ c)) (λ (p : TowerPair). IsInner p × IsTower (is_below space) p.up) (λ p a b. (a, b.0)) (block (suc d) n) inn s) o

  low_top : (c : ℕ) (p : TowerPair) → IsIn c p → top_of p.low ≡ c
  low_top c p h = ap top_of h.own.is_low

  up_top : (c : ℕ) (p : TowerPair) → IsIn c p → top_of p.up ≡ c
  up_top c p h = ap top_of h.own.is_up

  -- ---- the order of ids

  before-rises : (e d : ℕ) → e ≤ d → cells_before space e ≤ cells_before space d
  before-rises e zero l = ap-le e (omega (arith, l))
    where
      ap-le : (e : ℕ) → e ≡ 0 → cells_before space e ≤ cells_before space 0
      ap-le zero q = omega arith
      ap-le (suc e) q = absurd (omega (arith, q))
  before-rises e (suc d) l = elim (dec_lt d e) [
    | yes g ↦ (let s : e ≡ suc d = omega (arith, l, g) in subst (λ (k : ℕ). cells_before space k ≤ cells_before space (suc d)) (sym s) (omega arith))
    | no g ↦ (let r = before-rises e d (omega arith) in omega (arith, r))
  ]

  id-less : (d n e m : ℕ) → e < d → 1 ≤ n → m ≤ count space e → id_of space (cell_at e m) < id_of space (cell_at d n)
  id-less d n e m l low high = let r = before-rises (suc e) d (omega (arith, l)) in omega (arith, r, low, high)

  below-less : (x c : ℕ) → is_below space x c ≡ true → x < c
  below-less x c h =
      let p = below-parts space valid x c h in
      let u = p.under in
      let r = id-less (suc p.cell.under) p.cell.number p.dim p.number (omega (arith, u)) p.cell.low p.high in
      let a = p.is in
      let b = p.cell.is in
      subst (λ (k : ℕ). k < c) (sym a) (subst (λ (k : ℕ). id_of space (cell_at p.dim p.number) < k) (sym b) r)

  -- ---- two pairs

  -- a facet of the upper is its rest, below the top, or keeps the top
  upper-facets : (c : ℕ) (p : TowerPair) → IsIn c p → (s : List ℕ) → In s (facets p.up) → (top_of s < c) ⊎ In s (inner p.up)
  upper-facets c p h s i = elim (In-cases (subst (λ (t : List ℕ). In s (facets t)) h.own.is_up i)) [
    | inl e ↦ inl (subst (λ (k : ℕ). k < c) (sym (ap top_of e)) (below-less h.own.x c h.own.lies))
    | inr j ↦ inr (subst (λ (t : List ℕ). In s (inner t)) (sym h.own.is_up) j)
  ]

  inner-top : (s t : List ℕ) → In s (inner t) → top_of s ≡ top_of t
  inner-top s [] i = elim i [ ]
  inner-top s (g ∷ t) i = ap top_of (map-In (λ (x : List ℕ). g ∷ x) (facets t) i).2

  go-inside : (c : ℕ) (xs : List TowerPair) → AllByRecursion (IsIn c) xs → Pairwise InnerApart xs → Pairwise Differ xs → Lined TowersGo xs
  go-inside c [] h o s = tt
  go-inside c (p ∷ xs) h o s = (
    λ q i. (
      (λ j. elim (upper-facets c p h.0 q.low j) [
        | inl l ↦ (let e = low_top c q (In-of-all (IsIn c) xs q h.1 i) in omega (arith, l, e))
        | inr k ↦ In-of-all (λ (e : List ℕ). e ≢ q.low) (inner p.up) q.low (In-of-all (InnerApart p) xs q o.0 i) k refl
      ]),
      In-of-all (Differ p) xs q s.0 i,
    ),
    go-inside c xs h.1 o.1 s.1,
  )

  go-across : (c e : ℕ) (p q : TowerPair) → c < e → IsIn c p → IsIn e q → TowersGo p q
  go-across c e p q l h k =
      let a = low_top c p h in
      let b = up_top c p h in
      let f = low_top e q k in
      let g = up_top e q k in (
        (λ j. elim (upper-facets c p h q.low j) [
          | inl z ↦ omega (arith, z, l, f)
          | inr z ↦ (let s = inner-top q.low p.up z in omega (arith, s, l, f, b))
        ]),
        ((λ s. (let t = ap top_of s in omega (arith, t, l, f, b))), (λ s. (let t = ap top_of s in omega (arith, t, l, a, g)))),
      )

  -- ---- all pairs

  -- a pair inside some cell
  record IsOf (p : TowerPair) : Type 0 where
    pub under : ℕ
    pub number : ℕ
    pub small : suc under ≤ 3
    pub low : 1 ≤ number
    pub high : number ≤ count space (suc under)
    pub inside : In p (block (suc under) number)

  at-in : (p : TowerPair) (h : IsOf p) → IsIn (id_of space (cell_at (suc h.under) h.number)) p
  at-in p h = In-of-all (IsIn (id_of space (cell_at (suc h.under) h.number))) (block (suc h.under) h.number) p (all-in h.under h.number h.small h.low h.high) h.inside

  abbrev layer : ℕ → List TowerPair
  layer d = flat_map (pairs_inside space collapse d) (upto (count space d))

  layer-go : (d : ℕ) → suc d ≤ 3 → Lined TowersGo (layer (suc d))
  layer-go d small =
      lined-range TowersGo (pairs_inside space collapse (suc d)) 1 (count space (suc d))
      (λ n low high. (let l = leaves d n small low (omega (arith, high)) in go-inside (id_of space (cell_at (suc d) n)) (block (suc d) n) (all-in d n small low (omega (arith, high))) l.order l.split))
      (λ n m p q low less high i j.
      go-across (id_of space (cell_at (suc d) n)) (id_of space (cell_at (suc d) m)) p q (omega (arith, less))
      (In-of-all (IsIn (id_of space (cell_at (suc d) n))) (block (suc d) n) p (all-in d n small low (omega (arith, less, high))) i)
      (In-of-all (IsIn (id_of space (cell_at (suc d) m))) (block (suc d) m) q (all-in d m small (omega (arith, low, less)) (omega (arith, high))) j))

  layer-of : (d : ℕ) (p : TowerPair) → suc d ≤ 3 → In p (layer (suc d)) → (n : ℕ) × (1 ≤ n) × (n ≤ count space (suc d)) × In p (block (suc d) n)
  layer-of d p small i =
      let r = flat_map-In (pairs_inside space collapse (suc d)) (upto (count space (suc d))) i in
      let w = upto-In (count space (suc d)) r.0 r.1 in
      (r.0, w.0, w.1, r.2)

  layers-go : (d e : ℕ) (p q : TowerPair) → suc d ≤ 3 → suc e ≤ 3 → d < e → In p (layer (suc d)) → In q (layer (suc e)) → TowersGo p q
  layers-go d e p q small tall l i j =
      let a = layer-of d p small i in
      let b = layer-of e q tall j in
      go-across (id_of space (cell_at (suc d) a.0)) (id_of space (cell_at (suc e) b.0)) p q (id-less (suc e) b.0 (suc d) a.0 (omega (arith, l)) b.1 a.2)
      (In-of-all (IsIn (id_of space (cell_at (suc d) a.0))) (block (suc d) a.0) p (all-in d a.0 small a.1 a.2) a.3)
      (In-of-all (IsIn (id_of space (cell_at (suc e) b.0))) (block (suc e) b.0) q (all-in e b.0 tall b.1 b.2) b.3)

  all-parts : all_inside space collapse ≡ layer 1 ++ (layer 2 ++ (layer 3 ++ []))
  all-parts = refl

  all-go : Lined TowersGo (all_inside space collapse)
  all-go =
      lined-append TowersGo (layer 1) (layer 2 ++ (layer 3 ++ [])) (layer-go 0 (omega arith))
      (lined-append TowersGo (layer 2) (layer 3 ++ []) (layer-go 1 (omega arith)) (lined-append TowersGo (layer 3) [] (layer-go 2 (omega arith)) tt (λ p q i j. elim j [ ])) (λ p q i j. layers-go 1 2 p q (omega arith) (omega arith) (omega arith) i (in-third q j)))
      (λ p q i j. elim (append-In (layer 2) (layer 3 ++ []) j) [ inl k ↦ layers-go 0 1 p q (omega arith) (omega arith) (omega arith) i k | inr k ↦ layers-go 0 2 p q (omega arith) (omega arith) (omega arith) i (in-third q k) ])
    where
      in-third : (q : TowerPair) → In q (layer 3 ++ []) → In q (layer 3)
      in-third q j = elim (append-In (layer 3) [] j) [ inl k ↦ k | inr k ↦ elim k [ ] ]

  all-of : (p : TowerPair) → In p (all_inside space collapse) → IsOf p
  all-of p i = elim (append-In (layer 1) (layer 2 ++ (layer 3 ++ [])) i) [
    | inl k ↦ of 0 (omega arith) k
    | inr k ↦ elim (append-In (layer 2) (layer 3 ++ []) k) [
      | inl l ↦ of 1 (omega arith) l
      | inr l ↦ elim (append-In (layer 3) [] l) [ inl m ↦ of 2 (omega arith) m | inr m ↦ elim m [ ] ]
    ]
  ]
    where
      of : (d : ℕ) → suc d ≤ 3 → In p (layer (suc d)) → IsOf p
      of d small k = let r = layer-of d p small k in record { under = d; number = r.0; small = small; low = r.1; high = r.2; inside = r.3 }

  of-all : (d n : ℕ) (p : TowerPair) → suc d ≤ 3 → 1 ≤ n → n ≤ count space (suc d) → In p (block (suc d) n) → In p (all_inside space collapse)
  of-all d n p small low high i = by d small (In-flat_map (pairs_inside space collapse (suc d)) (In-upto (count space (suc d)) n low high) i)
    where
      by : (d : ℕ) → suc d ≤ 3 → In p (layer (suc d)) → In p (all_inside space collapse)
      by zero small j = In-left (layer 2 ++ (layer 3 ++ [])) j
      by (suc zero) small j = In-right (layer 1) (In-left (layer 3 ++ []) j)
      by (suc (suc zero)) small j = In-right (layer 1) (In-right (layer 2) (In-left [] j))
      by (suc (suc (suc d))) small j = absurd (omega (arith, small))

  -- ---- as chains

  record HasRooms (p : TowerPair) : Type 0 where
    pub degree : ℕ
    pub small : degree ≤ 2
    pub is : length p.low - 1 ≡ degree
    pub low : IsRoom space valid faces sequences p.low degree
    pub up : IsRoom space valid faces sequences p.up (suc degree)

  dim-small : (d n : ℕ) → suc d ≤ 3 → 1 ≤ n → n ≤ count space (suc d) → dim_at space (id_of space (cell_at (suc d) n)) ≤ 3
  dim-small d n small low high = let e = dim-id space (suc d) n small low high in omega (arith, e, small)

  rooms : (p : TowerPair) → IsOf p → HasRooms p
  rooms p h =
      let c : ℕ = id_of space (cell_at (suc h.under) h.number) in
      let k : IsIn c p = at-in p h in
      let r : InRange space c = id-range space (suc h.under) h.number h.small h.low h.high in
      let s = k.own.short in
      let o = k.own.one in
      let e = ap length k.own.is_low in
      let d = dim-small h.under h.number h.small h.low h.high in
      record {
        degree = length p.low - 1;
        small = omega (arith, s, o, d);
        is = refl;
        low = record { tower = inner-tower (is_below space) (dim_at space) (building_at space collapse) (flag_at space) (flagged rounds space collapse valid regular collapsing) (trans space valid) p.low p.up k.tower k.facet; range = subst (InRange space) (sym (low_top c p k)) r; long = omega (arith, e) };
        up = record { tower = k.tower; range = subst (InRange space) (sym (up_top c p k)) r; long = omega (arith, e, o) };
      }

  abbrev complex : List (List (List ℕ))
  complex = complex_of space

  number-range : (t : List ℕ) (degree : ℕ) → degree ≤ 3 → IsRoom space valid faces sequences t degree → (1 ≤ number_of space t) × (number_of space t ≤ count (complex_of space) degree)
  number-range t degree small h =
      let n : IsNumber space valid faces sequences degree (reverse t) (number_of space t) =
      subst (IsNumber space valid faces sequences degree (reverse t)) (sym (tower-number space valid faces sequences t degree h)) (numbered-chain space valid faces sequences degree (reverse t) (tower-chain space valid faces sequences t degree h)) in
      let c = count-chains space degree small in
      let l = n.low in
      let g = n.high in
      (l, omega (arith, g, c))

  -- a facet of an upper is a chain
  facet-rooms : (t : List ℕ) (degree : ℕ) → IsRoom space valid faces sequences t (suc degree) → (s : List ℕ) → In s (facets t) → IsRoom space valid faces sequences s degree
  facet-rooms [] degree h s i = elim i [ ]
  facet-rooms (g ∷ []) degree h s i = let l = h.long in absurd (omega (arith, l))
  facet-rooms (g ∷ c ∷ t) degree h s i =
      let l = h.long in
      let long = In-of-all (λ (e : List ℕ). suc (length e) ≡ length (g ∷ c ∷ t)) (facets (g ∷ c ∷ t)) s (facet_length (g ∷ c ∷ t)) i in
      elim (In-cases i) [
        | inl e ↦
            subst (λ (x : List ℕ). IsRoom space valid faces sequences x degree) (sym e)
            (record { tower = h.tower.1; range = (face-range space valid c g h.tower.0).0; long = omega (arith, l) })
        | inr j ↦ record {
          tower = inner-tower (is_below space) (dim_at space) (building_at space collapse) (flag_at space) (flagged rounds space collapse valid regular collapsing) (trans space valid) s (g ∷ c ∷ t) h.tower j;
          range = subst (InRange space) (sym (inner-top s (g ∷ c ∷ t) j)) h.range;
          long = omega (arith, long, l);
        }
      ]

  left-chains : (t : List ℕ) (degree : ℕ) → IsRoom space valid faces sequences t (suc degree) → (b : List ℕ) → In b (leave_out (reverse t)) → In b (chains_of space degree)
  left-chains t degree h b i =
      let j : In (reverse b) (facets t) = left-facet (reverse b) t (subst (λ (x : List ℕ). In x (leave_out (reverse t))) (sym (reverse-reverse b)) i) in
      subst (λ (x : List ℕ). In x (chains_of space degree)) (reverse-reverse b) (tower-chain space valid faces sequences (reverse b) degree (facet-rooms t degree h (reverse b) j))

  incident : (p : TowerPair) (r : HasRooms p) → IsInner p → Incident (complex_of space) (numbered space p)
  incident p r i =
      let s = r.small in
      let k = r.is in
      let a = number-range p.low r.degree (omega (arith, s)) r.low in
      let b = number-range p.up (suc r.degree) (omega (arith, s)) r.up in
      let more : suc r.degree ≡ length p.low - 1 + 1 = omega (arith, k) in
      record {
        low = omega (arith, s, k);
        first = a.0;
        last = subst (λ (d : ℕ). number_of space p.low ≤ count (complex_of space) d) (sym k) a.1;
        upper_first = b.0;
        upper_last = subst (λ (d : ℕ). number_of space p.up ≤ count (complex_of space) d) more b.1;
        facet = subst (λ (d : ℕ). In (number_of space p.low) (facets_of (complex_of space) (d + 1) (number_of space p.up))) (sym k) (facet-number space valid faces sequences p.low p.up r.degree s r.low r.up (inner-facet p.low p.up i));
      }

  -- a tower with the number of another of the same degree
  same-tower : (s t : List ℕ) (d e : ℕ) → IsRoom space valid faces sequences s d → IsRoom space valid faces sequences t e → d ≡ e → number_of space s ≡ number_of space t → s ≡ t
  same-tower s t d e h k q n = tower-same space valid faces sequences s t e (subst (IsRoom space valid faces sequences s) q h) k n

  goes : (p q : TowerPair) → IsOf p → IsOf q → TowersGo p q → Goes (complex_of space) (numbered space p) (numbered space q)
  goes p q h k g =
      let r : HasRooms p = rooms p h in
      let s : HasRooms q = rooms q k in
      let a = r.is in
      let b = s.is in
      let ip : IsInner p = (at-in p h).facet in
      let iq : IsInner q = (at-in q k).facet in
      let lows : p.low ≢ q.low = λ e. g.0 (subst (λ (x : List ℕ). In x (facets p.up)) e (inner-facet p.low p.up ip)) in
      let ups : p.up ≢ q.up = λ e. g.0 (subst (λ (x : List ℕ). In q.low (facets x)) (sym e) (inner-facet q.low q.up iq)) in
      record {
        apart = (
          (λ u. elim u [
            | inl e ↦ (let d = e.0 in lows (same-tower p.low q.low r.degree s.degree r.low s.low (omega (arith, a, b, d)) e.1))
            | inr e ↦ (let d = e.0 in g.1.0 (same-tower p.up q.low (suc r.degree) s.degree r.up s.low (omega (arith, a, b, d)) e.1))
          ]),
          (λ u. elim u [
            | inl e ↦ (let d = e.0 in g.1.1 (sym (same-tower p.low q.up r.degree (suc s.degree) r.low s.up (omega (arith, a, b, d)) e.1)))
            | inr e ↦ (let d = e.0 in ups (same-tower p.up q.up (suc r.degree) (suc s.degree) r.up s.up (omega (arith, a, b, d)) e.1))
          ]),
        );
        free = λ d i. (
            let same : s.degree ≡ r.degree = omega (arith, a, b, d) in
            let low : IsRoom space valid faces sequences q.low r.degree = subst (IsRoom space valid faces sequences q.low) same s.low in
            let j = In-inside (λ (f : ℕ). not (f == number_of space p.low)) (facets_of (complex_of space) (length p.low - 1 + 1) (number_of space p.up)) i in
            let m : In (number_of space q.low) (facets_of (complex_of space) (r.degree + 1) (number_of space p.up)) = subst (λ (x : ℕ). In (number_of space q.low) (facets_of (complex_of space) (x + 1) (number_of space p.up))) a j in
            g.0 (number-facet space valid faces sequences q.low p.up r.degree r.small low r.up m (left-chains p.up r.degree r.up)));
      }

  lined : IsLined (complex_of space) (local_pairs space collapse)
  lined =
      record {
        incident = λ q i. (let r = map-In (numbered space) (all_inside space collapse) i in let o = all-of r.0 r.1 in subst (λ (x : Pair). is_incident (complex_of space) x ≡ true) (sym r.2) (incident-from (complex_of space) (numbered space r.0) (incident r.0 (rooms r.0 o) (at-in r.0 o).facet)));
        lined = lined-map TowersGo (Goes (complex_of space)) (numbered space) (all_inside space collapse) (λ p q i j g. goes p q (all-of p i) (all-of q j) g) all-go;
      }

  field-valid : IsFieldOf (complex_of space) (local_field_of space collapse)
  field-valid = record { counts = refl; valid = valid-from (complex_of space) (local_pairs space collapse) lined }

  -- ---- what is left

  flag-room : (d n : ℕ) → d ≤ 3 → 1 ≤ n → n ≤ count space d → IsRoom space valid faces sequences (flag_of space d n) d
  flag-room d n small low high = by d n small low high (full space valid d n small low high)
    where
      room : (d c : ℕ) (rest : List ℕ) → InRange space c → dim_at space c ≡ d → IsFull (is_below space) (dim_at space) (c ∷ rest) → IsRoom space valid faces sequences (c ∷ rest) d
      room d c rest r e f =
          let all = flagged rounds space collapse valid regular collapsing in
          let l = full_length (is_below space) (dim_at space) (building_at space collapse) (flag_at space) all.falls all.builds all.tops all.full c rest f in
          record { tower = full-tower (is_below space) (dim_at space) (building_at space collapse) (flag_at space) (flagged rounds space collapse valid regular collapsing) (c ∷ rest) f; range = r; long = l ∙ ap suc e }

      by : (d n : ℕ) → d ≤ 3 → 1 ≤ n → n ≤ count space d → IsFull (is_below space) (dim_at space) (flag_of space d n) → IsRoom space valid faces sequences (flag_of space d n) d
      by zero n small low high f = room 0 (id_of space (cell_at 0 n)) [] (id-range space 0 n small low high) (dim-id space 0 n small low high) f
      by (suc d) n small low high f = room (suc d) (id_of space (cell_at (suc d) n)) (rest_of (flag_of space (suc d) n)) (id-range space (suc d) n small low high) (dim-id space (suc d) n small low high) f

  flag-top : (d n : ℕ) → top_of (flag_of space d n) ≡ id_of space (cell_at d n)
  flag-top zero n = refl
  flag-top (suc d) n = refl

  -- a pair inside a cell does not use its flag
  unused-inside : (d n : ℕ) → d ≤ 3 → 1 ≤ n → n ≤ count space d → (p : TowerPair) → IsOf p → (p.low ≢ flag_of space d n) × (p.up ≢ flag_of space d n)
  unused-inside d n small low high p o =
      let c : ℕ = id_of space (cell_at (suc o.under) o.number) in
      let h : IsIn c p = at-in p o in
      let lf = (flag-room d n small low high).long in
      let same : top_of (flag_of space d n) ≡ c → (suc o.under ≡ d) × (o.number ≡ n) =
      λ e. id-same space (suc o.under) o.number d n o.small o.low o.high small low high (sym e ∙ flag-top d n) in
      let s = h.own.short in
      let u = h.own.one in
      let dc = dim-id space (suc o.under) o.number o.small o.low o.high in (
        (λ e. (
            let q = same (ap top_of (sym e) ∙ low_top c p h) in
            let a = q.0 in
            let l = ap length e in
            omega (arith, s, u, l, lf, dc, a))),
        (λ e. (
            let q = same (ap top_of (sym e) ∙ up_top c p h) in
            let t : flag_of space d n ≡ flag_of space (suc o.under) o.number = ap (λ (k : ℕ). flag_of space k n) (sym q.0) ∙ ap (flag_of space (suc o.under)) (sym q.1) in
            In-of-all (NotUp (flag_of space (suc o.under) o.number)) (block (suc o.under) o.number) p (leaves o.under o.number o.small o.low o.high).no_up o.inside (e ∙ t))),
      )

  flag-unused : (d n : ℕ) → d ≤ 3 → 1 ≤ n → n ≤ count space d → is_used (local_pairs space collapse) d (number_of space (flag_of space d n)) ≡ false
  flag-unused d n small low high =
      unused-from (local_pairs space collapse) d (number_of space (flag_of space d n))
      (λ q i u. (
      let m = map-In (numbered space) (all_inside space collapse) i in
      let o = all-of m.0 m.1 in
      let r = rooms m.0 o in
      let a = r.is in
      let f = flag-room d n small low high in
      let w = unused-inside d n small low high m.0 o in
      elim (subst (λ (x : Pair). Uses x d (number_of space (flag_of space d n))) m.2 u) [
        | inl e ↦ (let k = e.0 in w.0 (same-tower m.0.low (flag_of space d n) r.degree d r.low f (omega (arith, a, k)) e.1))
        | inr e ↦ (let k = e.0 in w.1 (same-tower m.0.up (flag_of space d n) (suc r.degree) d r.up f (omega (arith, a, k)) e.1))
      ]))

  -- a tower in a pair is used
  used-tower : (xs : List TowerPair) → ((p : TowerPair) → In p xs → In p (all_inside space collapse)) → (t : List ℕ) (degree : ℕ) → length t ≡ suc degree → HasTower xs t → is_used (local_pairs space collapse) degree (number_of space t) ≡ true
  used-tower [] w t degree l h = absurd h
  used-tower (p ∷ xs) w t degree l (inl e) =
      let k = ap length e in
      used-In degree (number_of space t) (In-map (numbered space) (w p here)) (inl (omega (arith, k, l), ap (number_of space) e))
  used-tower (p ∷ xs) w t degree l (inr (inl e)) =
      let o = all-of p (w p here) in
      let u = (at-in p o).own.one in
      let j = ap length (at-in p o).own.is_low in
      let k = ap length e in
      used-In degree (number_of space t) (In-map (numbered space) (w p here)) (inr (omega (arith, k, l, u, j), ap (number_of space) e))
  used-tower (p ∷ xs) w t degree l (inr (inr h)) = used-tower xs (λ q i. w q (there i)) t degree l h

  -- a chain in no pair is a flag
  left-flag : (t : List ℕ) (degree : ℕ) → IsRoom space valid faces sequences t degree → is_used (local_pairs space collapse) degree (number_of space t) ≡ false → (n : ℕ) × (1 ≤ n) × (n ≤ count space degree) × (t ≡ flag_of space degree n)
  left-flag [] degree h e = absurd h.tower
  left-flag (g ∷ rest) degree h e =
      let a = at-id space valid faces sequences g h.range in
      by_dim a.dim a.number a.small a.low a.high a.is
    where
      by_dim : (d n : ℕ) → d ≤ 3 → 1 ≤ n → n ≤ count space d → g ≡ id_of space (cell_at d n) → (n : ℕ) × (1 ≤ n) × (n ≤ count space degree) × (g ∷ rest ≡ flag_of space degree n)
      by_dim zero n small low high i = vertex rest h
        where
          vertex : (rest : List ℕ) → IsRoom space valid faces sequences (g ∷ rest) degree → (n : ℕ) × (1 ≤ n) × (n ≤ count space degree) × (g ∷ rest ≡ flag_of space degree n)
          vertex (c ∷ rest) k = absurd (nothing-below space valid g c (ap (dim_at space) i ∙ dim-id space 0 n small low high) k.tower.0)
          vertex [] k =
              let l = k.long in
              let z : degree ≡ 0 = omega (arith, l) in
              subst (λ (d : ℕ). (n : ℕ) × (1 ≤ n) × (n ≤ count space d) × (g ∷ [] ≡ flag_of space d n)) (sym z) (n, low, high, ap (λ (x : ℕ). x ∷ []) i)
      by_dim (suc d) n small low high i =
          let l = leaves d n small low high in
          let same : g ∷ rest ≡ id_of space (cell_at (suc d) n) ∷ rest = ap (λ (x : ℕ). x ∷ rest) i in
          elim (l.covers rest (subst (IsTower (is_below space)) same h.tower)) [
            | inl f ↦
                let flag : g ∷ rest ≡ flag_of space (suc d) n = same ∙ f in
                let q = (flag-room (suc d) n small low high).long in
                let k = h.long in
                let j = ap length flag in
                let z : degree ≡ suc d = omega (arith, q, k, j) in
                subst (λ (x : ℕ). (n : ℕ) × (1 ≤ n) × (n ≤ count space x) × (g ∷ rest ≡ flag_of space x n)) (sym z) (n, low, high, flag)
            | inr f ↦ absurd (false≢true (sym e ∙ used-tower (block (suc d) n) (λ p j. of-all d n p small low high j) (g ∷ rest) degree h.long (subst (HasTower (block (suc d) n)) (sym same) f)))
          ]

  critical-flag : (d n : ℕ) → d ≤ 3 → In n (critical_of (local_field_of space collapse) d) → In n (flag_numbers space d)
  critical-flag d n small i =
      let test : ℕ → Bool = λ c. not (is_used (local_pairs space collapse) d c) in
      let j : In n (unpaired (local_pairs space collapse) d (count (complex_of space) d)) = subst (In n) (critical-is (complex_of space) (local_field_of space collapse) d field-valid small) i in
      let w = upto-In (count (complex_of space) d) n (In-inside test (upto (count (complex_of space) d)) j) in
      let free : is_used (local_pairs space collapse) d n ≡ false = not-true (is_used (local_pairs space collapse) d n) (filter-In test (upto (count (complex_of space) d)) j) in
      let c = count-chains space d small in
      let chain : List ℕ = get_or (chains_of space d) (n - 1) [] in
      let there : In chain (chains_of space d) = at-In (chains_of space d) (n - 1) [] (omega (arith, w.0, w.1, c)) in
      let t : List ℕ = reverse chain in
      let h : IsRoom space valid faces sequences t d = chain-tower space valid faces sequences chain d there in
      let e : number_of space t ≡ n =
      tower-number space valid faces sequences t d h ∙ (ap (number_or_zero (chains_of space d)) (reverse-reverse chain) ∙ number-of space d n w.0 (omega (arith, w.1, c))) in
      let r = left-flag t d h (ap (is_used (local_pairs space collapse) d) e ∙ free) in
      subst (λ (x : ℕ). In x (flag_numbers space d)) (ap (number_of space) (sym r.3) ∙ e) (In-map (λ number. number_of space (flag_of space d number)) (In-upto (count space d) r.0 r.1 r.2))

  flag-critical : (d n : ℕ) → d ≤ 3 → In n (flag_numbers space d) → In n (critical_of (local_field_of space collapse) d)
  flag-critical d n small i =
      let test : ℕ → Bool = λ c. not (is_used (local_pairs space collapse) d c) in
      let r = map-In (λ number. number_of space (flag_of space d number)) (upto (count space d)) i in
      let w = upto-In (count space d) r.0 r.1 in
      let f = flag-room d r.0 small w.0 w.1 in
      let g = number-range (flag_of space d r.0) d small f in
      subst (In n) (sym (critical-is (complex_of space) (local_field_of space collapse) d field-valid small))
      (subst (λ (x : ℕ). In x (unpaired (local_pairs space collapse) d (count (complex_of space) d))) (sym r.2)
      (In-filter test (In-upto (count (complex_of space) d) (number_of space (flag_of space d r.0)) g.0 g.1) (not_from_false (is_used (local_pairs space collapse) d (number_of space (flag_of space d r.0))) (flag-unused d r.0 small w.0 w.1))))

  -- the lower of a pair is shorter than a full tower with its top
  pub lower-short : (d n upper : ℕ) → In (pair d n upper) (local_pairs space collapse) → (t : List ℕ) × IsRoom space valid faces sequences t d × (number_of space t ≡ n) × (length t ≤ dim_at space (top_of t))
  lower-short d n upper i =
      let m = map-In (numbered space) (all_inside space collapse) i in
      let o = all-of m.0 m.1 in
      let r = rooms m.0 o in
      let k = at-in m.0 o in
      let e : d ≡ r.degree = ap (λ (p : Pair). p.dim) m.2 ∙ r.is in
      let s = k.own.short in
      let u = k.own.one in
      let top = ap (dim_at space) (low_top (id_of space (cell_at (suc o.under) o.number)) m.0 k) in
      (m.0.low, subst (IsRoom space valid faces sequences m.0.low) (sym e) r.low, sym (ap (λ (p : Pair). p.lower) m.2), omega (arith, s, u, top))

  pub is-local : IsLocalField space (local_field_of space collapse)
  is-local =
      record {
        collapse = collapse;
        collapsing = collapsing;
        is = refl;
        valid = field-valid;
        leaves = λ d n small. same_holds (critical_of (local_field_of space collapse) d) (flag_numbers space d) n (λ i. In-Contains (critical-flag d n small (Contains-In i))) (λ i. In-Contains (flag-critical d n small (Contains-In i)));
      }
