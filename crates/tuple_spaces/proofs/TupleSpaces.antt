-- Spaces of tuples: each cell is a tuple, and its facets are tuples with one odd coordinate fewer.
use Rattle.std.proofs.Common.{◌≡◌, inl, inr, ℕ, zero, suc, ◌+◌, ◌-◌, ◌<◌, ◌≤◌, List, [], ◌∷◌, Bool, true, false, cond, eqb, map, length, get_or, refl, ap, sym, ◌∙◌, subst, arith}
use Rattle.std.specs.List.{list_any}
use Rattle.std.specs.List.Sorted.{IsStrictlyIncreasing}
use Rattle.std.proofs.lemmas.Bool.{eqb-true, eq-eqb, false≢true, cases_lt}
use Rattle.std.proofs.lemmas.List.{get_or-map, length-map, get_or_default}
use Rattle.std.proofs.lemmas.List.Kept.{IsStrictlyIncreasing-filter}
use Rattle.face_poset.specs.Words.{upto}
use Rattle.face_poset.specs.Poset.{IsCell, IsSpace, layer, count, facets_of}
use Rattle.number_lists.proofs.CallerLemmas.{increasing-upto, length-filter-le, In-filter, In-inside, filter-In, In-at, at-In, In-upto, upto-In, AreDistinct, any-In, any-some, In-map, map-In, distinct-filter, distinct-at}
use Rattle.regular_check.specs.Rules.{IsRegular, two_ends, one_cycle, each_twice, connected, is_spherical}
use Rattle.number_lists.specs.Members.{In, here, there}
use Rattle.regular_check.proofs.CallerLemmas.{regular_from}
use Rattle.regular_check.proofs.CallerLemmas.{IsCopy, edge_copied, disk_copied, solid_copied}
use Rattle.tuple_spaces.specs.Tuples.{same, dim_of, cells_in, numbers_in, layer_of, space_of}
use Rattle.tuple_spaces.proofs.OddCoordinates.{same-eq, eq-same}
use Rattle.tuple_spaces.proofs.MakingLemmas.{by_dim}
use Rattle.tuple_spaces.proofs.ListLemmas.{none_in}

-- where a tuple stands in a list, counted from 0
abbrev place_in : List (List ℕ) → List ℕ → ℕ
place_in [] u = 0
place_in (t ∷ ts) u = cond (same t u) 0 (suc (place_in ts u))

rest : {t u : List ℕ} {ts : List (List ℕ)} → In u (t ∷ ts) → same t u ≡ false → In u ts
rest {t} here e = absurd (false≢true (sym e ∙ eq-same t))
rest (there j) e = j

placed : (xs : List (List ℕ)) (u : List ℕ) → In u xs → (place_in xs u < length xs) × (get_or xs (place_in xs u) [] ≡ u)
placed [] u i = elim i [ ]
placed (t ∷ ts) u i = by_test (same t u) refl (λ e. placed ts u (rest i e))
  where
    by_test : (b : Bool) → same t u ≡ b → (same t u ≡ false → (place_in ts u < length ts) × (get_or ts (place_in ts u) [] ≡ u)) → (cond b 0 (suc (place_in ts u)) < length (t ∷ ts)) × (get_or (t ∷ ts) (cond b 0 (suc (place_in ts u))) [] ≡ u)
    by_test true e k = (omega arith, same-eq t u e)
    by_test false e k = let r = k e in (omega (arith, r.0), r.1)

-- all cells are different, and the facets of a cell are cells with one odd coordinate fewer
pub record IsTupleSpace (facets : List ℕ → List (List ℕ)) (all : List (List ℕ)) : Type 0 where
  pub distinct : AreDistinct all
  pub closed : (t u : List ℕ) → In t all → In u (facets t) → In u all × (dim_of u + 1 ≡ dim_of t)
  pub some : (t : List ℕ) → In t all → 1 ≤ dim_of t → (u : List ℕ) × In u (facets t)
  pub few : length all ≤ 60000

module _ (facets : List ℕ → List (List ℕ)) (all : List (List ℕ)) where
  abbrev pub whole : List (List (List ℕ))
  whole = space_of facets all

  layer-at : (d : ℕ) → d ≤ 3 → layer (space_of facets all) d ≡ layer_of facets all d
  layer-at d l = by_dim (λ e. layer (space_of facets all) e ≡ layer_of facets all e) refl refl refl refl d l

  layer-above : (d : ℕ) → 3 < d → layer (space_of facets all) d ≡ []
  layer-above zero l = absurd (omega arith)
  layer-above (suc zero) l = absurd (omega arith)
  layer-above (suc (suc zero)) l = absurd (omega arith)
  layer-above (suc (suc (suc zero))) l = absurd (omega arith)
  layer-above (suc (suc (suc (suc d)))) l = refl

  count-at : (d : ℕ) → d ≤ 3 → count (space_of facets all) d ≡ length (cells_in all d)
  count-at d l = ap length (layer-at d l) ∙ length-map (cells_in all d) (λ t. numbers_in (cells_in all (d - 1)) (facets t))

  pub dim-low : (d c : ℕ) → 1 ≤ c → c ≤ count (space_of facets all) d → d ≤ 3
  dim-low d c low high = elim (cases_lt 3 d) [ inl q ↦ absurd (omega (arith, low, high, ap length (layer-above d q))) | inr q ↦ q ]

  -- the tuple of a cell
  abbrev pub tuple_of : ℕ → ℕ → List ℕ
  tuple_of d c = get_or (cells_in all d) (c - 1) []

  pub record IsTuple (d c : ℕ) (t : List ℕ) : Type 0 where
    pub among : In t all
    pub dim : dim_of t ≡ d
    pub facets_are : facets_of (space_of facets all) d c ≡ numbers_in (cells_in all (d - 1)) (facets t)

  pub is_tuple : (d c : ℕ) → 1 ≤ c → c ≤ count (space_of facets all) d → IsTuple d c (get_or (cells_in all d) (c - 1) [])
  is_tuple d c low high =
      let three : d ≤ 3 = dim-low d c low high in
      let l : c - 1 < length (cells_in all d) = omega (arith, low, high, count-at d three) in
      let i : In (tuple_of d c) (cells_in all d) = at-In (cells_in all d) (c - 1) [] l in
      record {
        among = In-inside (λ t. eqb (dim_of t) d) all i;
        dim = eqb-true (dim_of (tuple_of d c)) d (filter-In (λ t. eqb (dim_of t) d) all i);
        facets_are = ap (λ (ls : List (List ℕ)). get_or ls (c - 1) []) (layer-at d three) ∙ get_or-map (λ t. numbers_in (cells_in all (d - 1)) (facets t)) (cells_in all d) (c - 1) [] [] l;
      }

  -- the number of a tuple
  abbrev pub number_of : ℕ → List ℕ → ℕ
  number_of d u = place_in (cells_in all d) u + 1

  pub record IsNumber (d : ℕ) (u : List ℕ) (c : ℕ) : Type 0 where
    pub low : 1 ≤ c
    pub high : c ≤ count (space_of facets all) d
    pub back : get_or (cells_in all d) (c - 1) [] ≡ u

  pub is_number : (d : ℕ) (u : List ℕ) → d ≤ 3 → In u all → dim_of u ≡ d → IsNumber d u (place_in (cells_in all d) u + 1)
  is_number d u three i e =
      let p = placed (cells_in all d) u (In-filter (λ t. eqb (dim_of t) d) i (eq-eqb (dim_of u) d e)) in
      let q : place_in (cells_in all d) u + 1 - 1 ≡ place_in (cells_in all d) u = omega arith in
      record { low = omega arith; high = omega (arith, p.0, count-at d three); back = ap (λ (k : ℕ). get_or (cells_in all d) k []) q ∙ p.1 }

  module _ (h : IsTupleSpace facets all) where
    -- two cells with one tuple are the same
    pub cell_once : (d a b : ℕ) → 1 ≤ a → a ≤ count (space_of facets all) d → 1 ≤ b → b ≤ count (space_of facets all) d → get_or (cells_in all d) (a - 1) [] ≡ get_or (cells_in all d) (b - 1) [] → a ≡ b
    cell_once d a b la ha lb hb e =
        let three : d ≤ 3 = dim-low d a la ha in
        let n = count-at d three in
        let q : a - 1 ≡ b - 1 = distinct-at (a - 1) (b - 1) [] (distinct-filter (λ t. eqb (dim_of t) d) h.distinct) (omega (arith, la, ha, n)) (omega (arith, lb, hb, n)) e in
        omega arith

    abbrev has : List (List ℕ) → List (List ℕ) → ℕ → Bool
    has cells among n = list_any (same (get_or cells (n - 1) [])) among

    -- the numbers of facets are those of the tuples of facets
    pub facets-In : (d c f : ℕ) → 1 ≤ c → c ≤ count (space_of facets all) (suc d) → In f (facets_of (space_of facets all) (suc d) c)
        → In (get_or (cells_in all d) (f - 1) []) (facets (get_or (cells_in all (suc d)) (c - 1) [])) × (1 ≤ f) × (f ≤ count (space_of facets all) d)
    facets-In d c f low high i =
        let s = is_tuple (suc d) c low high in
        let t : List ℕ = tuple_of (suc d) c in
        let e : suc d - 1 ≡ d = omega arith in
        let j : In f (numbers_in (cells_in all d) (facets t)) = subst (λ (k : ℕ). In f (numbers_in (cells_in all k) (facets t))) e (subst (In f) s.facets_are i) in
        let w = upto-In (length (cells_in all d)) f (In-inside (has (cells_in all d) (facets t)) (upto (length (cells_in all d))) j) in
        let r = any-some (same (tuple_of d f)) (facets t) (filter-In (has (cells_in all d) (facets t)) (upto (length (cells_in all d))) j) in
        let three : suc d ≤ 3 = dim-low (suc d) c low high in
        (subst (λ (u : List ℕ). In u (facets t)) (sym (same-eq (tuple_of d f) r.0 r.2)) r.1, w.0, omega (arith, w.1, count-at d (omega (arith, three))))

    pub In-facets : (d c : ℕ) (u : List ℕ) → 1 ≤ c → c ≤ count (space_of facets all) (suc d) → In u (facets (get_or (cells_in all (suc d)) (c - 1) [])) → In (place_in (cells_in all d) u + 1) (facets_of (space_of facets all) (suc d) c)
    In-facets d c u low high i =
        let s = is_tuple (suc d) c low high in
        let t : List ℕ = tuple_of (suc d) c in
        let e : suc d - 1 ≡ d = omega arith in
        let three : suc d ≤ 3 = dim-low (suc d) c low high in
        let k = h.closed t u s.among i in
        let n : IsNumber d u (number_of d u) = is_number d u (omega (arith, three)) k.0 (omega (arith, k.1, s.dim)) in
        let j : In (number_of d u) (numbers_in (cells_in all d) (facets t)) =
        In-filter (has (cells_in all d) (facets t)) (In-upto (length (cells_in all d)) (number_of d u) n.low (omega (arith, n.high, count-at d (omega (arith, three)))))
        (any-In (same (tuple_of d (number_of d u))) i (ap (λ (v : List ℕ). same v u) n.back ∙ eq-same u)) in
        subst (In (number_of d u)) (sym s.facets_are) (subst (λ (k : ℕ). In (number_of d u) (numbers_in (cells_in all k) (facets t))) (sym e) j)

    count-few : (d : ℕ) → d ≤ 3 → count (space_of facets all) d ≤ 60000
    count-few d l = omega (arith, count-at d l, length-filter-le (λ t. eqb (dim_of t) d) all, h.few)

    pub is_space : IsSpace (space_of facets all)
    is_space =
        record {
          layers = refl;
          vertices = λ k d l.
              let q : k + 1 - 1 ≡ k = omega arith in
              let s = is_tuple 0 (k + 1) (omega arith) (omega (arith, l)) in
              get_or_default (layer whole 0) k d [] l ∙ (sym (ap (λ (n : ℕ). get_or (layer whole 0) n []) q) ∙ (s.facets_are ∙ point (tuple_of 0 (k + 1)) s.among s.dim));
          cells = λ dim low k d l.
              let q : k + 1 - 1 ≡ k = omega arith in
              let same_cell : get_or (layer whole dim) k d ≡ facets_of whole dim (k + 1) = get_or_default (layer whole dim) k d [] l ∙ sym (ap (λ (n : ℕ). get_or (layer whole dim) n []) q) in
              let e : suc (dim - 1) ≡ dim = omega arith in
              subst (IsCell (count whole (dim - 1))) (sym same_cell) (subst (λ (n : ℕ). IsCell (count whole (dim - 1)) (facets_of whole n (k + 1))) e (cell (dim - 1) (k + 1) (omega arith) (omega (arith, l, ap (count whole) e))));
          few = omega (arith, count-few 0 (omega arith), count-few 1 (omega arith), count-few 2 (omega arith), count-few 3 (omega arith));
        }
      where
        point : (t : List ℕ) → In t all → dim_of t ≡ 0 → numbers_in (cells_in all (0 - 1)) (facets t) ≡ []
        point t i e =
            none_in (numbers_in (cells_in all (0 - 1)) (facets t))
            (λ n j.
            let r = any-some (same (get_or (cells_in all (0 - 1)) (n - 1) [])) (facets t) (filter-In (λ m. list_any (same (get_or (cells_in all (0 - 1)) (m - 1) [])) (facets t)) (upto (length (cells_in all (0 - 1)))) j) in
            omega (arith, (h.closed t r.0 i r.1).1, e))

        cell : (d c : ℕ) → 1 ≤ c → c ≤ count (space_of facets all) (suc d) → IsCell (count (space_of facets all) d) (facets_of (space_of facets all) (suc d) c)
        cell d c low high =
            let s = is_tuple (suc d) c low high in
            let t : List ℕ = get_or (cells_in all (suc d)) (c - 1) [] in
            let u = h.some t s.among (omega (arith, s.dim)) in
            let i = In-at (In-facets d c u.0 low high u.1) in
            record {
              rises = subst IsStrictlyIncreasing (sym s.facets_are) (IsStrictlyIncreasing-filter (λ n. list_any (same (get_or (cells_in all (suc d - 1)) (n - 1) [])) (facets t)) (upto (length (cells_in all (suc d - 1)))) (increasing-upto (length (cells_in all (suc d - 1)))));
              within = λ k e l. (let r = facets-In d c (get_or (facets_of (space_of facets all) (suc d) c) k e) low high (at-In (facets_of (space_of facets all) (suc d) c) k e l) in (r.1, r.2));
              some = omega (arith, i.1);
            }

-- ---- one space of tuples moved into another

-- σ moves the tuples of the first into those of the second, and facets to facets
pub record IsMoving (facets : List ℕ → List (List ℕ)) (all : List (List ℕ)) (others : List ℕ → List (List ℕ)) (more : List (List ℕ)) (σ : List ℕ → List ℕ) : Type 0 where
  pub into : (t : List ℕ) → In t all → In (σ t) more
  pub dim : (t : List ℕ) → In t all → dim_of (σ t) ≡ dim_of t
  pub once : (t u : List ℕ) → In t all → In u all → σ t ≡ σ u → t ≡ u
  pub facets_are : (t : List ℕ) → In t all → others (σ t) ≡ map σ (facets t)

module _ (facets : List ℕ → List (List ℕ)) (all : List (List ℕ)) (others : List ℕ → List (List ℕ)) (more : List (List ℕ)) (h : IsTupleSpace facets all) (k : IsTupleSpace others more) where
  -- the cells of the first space
  abbrev part : ℕ → ℕ → Type 0
  part d c = (1 ≤ c) × (c ≤ count (space_of facets all) d)

  module _ (σ : List ℕ → List ℕ) (m : IsMoving facets all others more σ) where
    -- where a cell goes
    abbrev φ : ℕ → ℕ → ℕ
    φ d c = place_in (cells_in more d) (σ (get_or (cells_in all d) (c - 1) [])) + 1

    moved : (d c : ℕ) → part d c → IsNumber others more d (σ (get_or (cells_in all d) (c - 1) [])) (φ d c)
    moved d c p =
        let s = is_tuple facets all d c p.0 p.1 in
        let t : List ℕ = get_or (cells_in all d) (c - 1) [] in
        is_number others more d (σ t) (dim-low facets all d c p.0 p.1) (m.into t s.among) (m.dim t s.among ∙ s.dim)

    -- the cell of a tuple goes to that of the tuple moved
    φ-number : (d : ℕ) (u : List ℕ) → d ≤ 3 → In u all → dim_of u ≡ d → φ d (place_in (cells_in all d) u + 1) ≡ place_in (cells_in more d) (σ u) + 1
    φ-number d u l i e = ap (λ (t : List ℕ). place_in (cells_in more d) (σ t) + 1) (is_number facets all d u l i e).back

    copy : IsCopy (space_of facets all) (space_of others more) part φ
    copy =
        record {
          cell = λ d c p. p;
          down = λ d c f p i. (let r = facets-In facets all h d c f p.0 p.1 i in (r.1, r.2));
          image = λ d c p. (let n = moved d c p in (n.low, n.high));
          once = λ d a b p q e.
              let s = is_tuple facets all d a p.0 p.1 in
              let t = is_tuple facets all d b q.0 q.1 in
              let same_image : σ (get_or (cells_in all d) (a - 1) []) ≡ σ (get_or (cells_in all d) (b - 1) []) = sym (moved d a p).back ∙ (ap (λ (c : ℕ). get_or (cells_in more d) (c - 1) []) e ∙ (moved d b q).back) in
              cell_once facets all h d a b p.0 p.1 q.0 q.1 (m.once (get_or (cells_in all d) (a - 1) []) (get_or (cells_in all d) (b - 1) []) s.among t.among same_image);
          to = λ d c f p i.
              let s = is_tuple facets all (suc d) c p.0 p.1 in
              let r = facets-In facets all h d c f p.0 p.1 i in
              let n = moved (suc d) c p in
              let t : List ℕ = get_or (cells_in all (suc d)) (c - 1) [] in
              let u : List ℕ = get_or (cells_in all d) (f - 1) [] in
              let j : In (σ u) (others (get_or (cells_in more (suc d)) (φ (suc d) c - 1) [])) = subst (λ (v : List ℕ). In (σ u) (others v)) (sym n.back) (subst (In (σ u)) (sym (m.facets_are t s.among)) (In-map σ r.0)) in
              In-facets others more k d (φ (suc d) c) (σ u) n.low n.high j;
          from = λ d c y p i.
              let s = is_tuple facets all (suc d) c p.0 p.1 in
              let n = moved (suc d) c p in
              let t : List ℕ = get_or (cells_in all (suc d)) (c - 1) [] in
              let r = facets-In others more k d (φ (suc d) c) y n.low n.high i in
              let j : In (get_or (cells_in more d) (y - 1) []) (map σ (facets t)) = subst (In (get_or (cells_in more d) (y - 1) [])) (m.facets_are t s.among) (subst (λ (v : List ℕ). In (get_or (cells_in more d) (y - 1) []) (others v)) n.back r.0) in
              let w = map-In σ (facets t) j in
              let three : d ≤ 3 = (let l : suc d ≤ 3 = dim-low facets all (suc d) c p.0 p.1 in omega arith) in
              let low : In w.0 all × (dim_of w.0 + 1 ≡ dim_of t) = h.closed t w.0 s.among w.1 in
              let e : dim_of w.0 ≡ d = omega (arith, low.1, s.dim) in
              let v : IsNumber others more d (σ w.0) (place_in (cells_in more d) (σ w.0) + 1) = is_number others more d (σ w.0) three (m.into w.0 low.0) (m.dim w.0 low.0 ∙ e) in
              let same_cell : y ≡ place_in (cells_in more d) (σ w.0) + 1 = cell_once others more k d y (place_in (cells_in more d) (σ w.0) + 1) r.1 r.2 v.low v.high (w.2 ∙ sym v.back) in
              (place_in (cells_in all d) w.0 + 1, In-facets facets all h d c w.0 p.0 p.1 w.1, same_cell ∙ sym (φ-number d w.0 three low.0 e));
        }

    -- a cell whose tuple is moved there
    record IsCovered (d c s : ℕ) : Type 0 where
      pub cell : part d s
      pub is : c ≡ φ d s

    covered : (d c : ℕ) (u : List ℕ) → 1 ≤ c → c ≤ count (space_of others more) d → In u all → get_or (cells_in more d) (c - 1) [] ≡ σ u → IsCovered d c (place_in (cells_in all d) u + 1)
    covered d c u low high i e =
        let s = is_tuple others more d c low high in
        let three : d ≤ 3 = dim-low others more d c low high in
        let dim : dim_of u ≡ d = sym (m.dim u i) ∙ (ap dim_of (sym e) ∙ s.dim) in
        let n = is_number facets all d u three i dim in
        let v = is_number others more d (σ u) three (m.into u i) (m.dim u i ∙ dim) in
        record { cell = (n.low, n.high); is = cell_once others more k d c (place_in (cells_in more d) (σ u) + 1) low high v.low v.high (e ∙ sym v.back) ∙ sym (φ-number d u three i dim) }

  -- a cell that a moving brings from the first space
  pub record IsBrought (t : List ℕ) (σ : List ℕ → List ℕ) (u : List ℕ) : Type 0 where
    pub moving : IsMoving facets all others more σ
    pub among : In u all
    pub is : t ≡ σ u

  -- where each cell is brought from a regular space, the second is regular
  pub regular_by_copies : IsRegular (space_of facets all) → ((t : List ℕ) → In t more → 1 ≤ dim_of t → (σ : List ℕ → List ℕ) × ((u : List ℕ) × IsBrought t σ u)) → IsRegular (space_of others more)
  regular_by_copies regular brought =
      let hs : IsSpace (space_of facets all) = is_space facets all h in
      let ho : IsSpace (space_of others more) = is_space others more k in
      regular_from (space_of others more)
      (λ e low high.
      let s = is_tuple others more 1 e low high in
      let b = brought (get_or (cells_in more 1) (e - 1) []) s.among (omega (arith, s.dim)) in
      let c = covered b.0 b.1.1.moving 1 e b.1.0 low high b.1.1.among b.1.1.is in
      subst (λ (x : ℕ). two_ends (space_of others more) x ≡ true) (sym c.is)
      (edge_copied (space_of facets all) (space_of others more) part (φ b.0 b.1.1.moving) hs ho (copy b.0 b.1.1.moving) regular (place_in (cells_in all 1) b.1.0 + 1) c.cell))
      (λ e low high.
      let s = is_tuple others more 2 e low high in
      let b = brought (get_or (cells_in more 2) (e - 1) []) s.among (omega (arith, s.dim)) in
      let c = covered b.0 b.1.1.moving 2 e b.1.0 low high b.1.1.among b.1.1.is in
      subst (λ (x : ℕ). one_cycle (space_of others more) x ≡ true) (sym c.is)
      (disk_copied (space_of facets all) (space_of others more) part (φ b.0 b.1.1.moving) hs ho (copy b.0 b.1.1.moving) regular (place_in (cells_in all 2) b.1.0 + 1) c.cell))
      (λ e low high.
      let s = is_tuple others more 3 e low high in
      let b = brought (get_or (cells_in more 3) (e - 1) []) s.among (omega (arith, s.dim)) in
      let c = covered b.0 b.1.1.moving 3 e b.1.0 low high b.1.1.among b.1.1.is in
      subst (λ (x : ℕ). (each_twice (space_of others more) 2 (facets_of (space_of others more) 3 x) ≡ true) × (connected (space_of others more) 2 (facets_of (space_of others more) 3 x) ≡ true) × (is_spherical (space_of others more) x ≡ true)) (sym c.is)
      (solid_copied (space_of facets all) (space_of others more) part (φ b.0 b.1.1.moving) hs ho (copy b.0 b.1.1.moving) regular (place_in (cells_in all 3) b.1.0 + 1) c.cell))
