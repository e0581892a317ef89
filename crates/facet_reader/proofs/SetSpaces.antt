-- Spaces of sets: a cell by its set, and the facets of a cell as sets.
use Rattle.std.proofs.Common.{◌≡◌, inl, inr, ℕ, zero, suc, ◌+◌, ◌-◌, ◌<◌, ◌≤◌, List, [], ◌∷◌, Bool, true, false, cond, length, get_or, refl, ap, sym, ◌∙◌, subst, arith}
use Rattle.std.specs.List.{list_any}
use Rattle.std.specs.List.Sorted.{IsStrictlyIncreasing}
use Rattle.std.proofs.lemmas.Bool.{false≢true, cases_lt}
use Rattle.std.proofs.lemmas.List.{get_or-map, length-map, get_or_default}
use Rattle.std.proofs.lemmas.List.Kept.{IsStrictlyIncreasing-filter}
use Rattle.number_lists.specs.Words.{upto}
use Rattle.number_lists.specs.Members.{In, here, there}
use Rattle.number_lists.proofs.CallerLemmas.{increasing-upto, In-filter, In-inside, filter-In, In-at, at-In, In-upto, upto-In, AreDistinct, any-In, any-some, distinct-at}
use Rattle.face_poset.specs.Poset.{IsCell, IsSpace, layer, count, cell_count, facets_of}
use Rattle.tuple_spaces.specs.Tuples.{same, numbers_in}
use Rattle.tuple_spaces.proofs.CallerLemmas.{by_dim, same-eq, eq-same}
use Rattle.facet_reader.specs.SetSpaces.{leave_one, layer_of, set_space}

-- where a set stands in a list, counted from 0
abbrev pub place_in : List (List ℕ) → List ℕ → ℕ
place_in [] u = 0
place_in (t ∷ ts) u = cond (same t u) 0 (suc (place_in ts u))

rest : {t u : List ℕ} {ts : List (List ℕ)} → In u (t ∷ ts) → same t u ≡ false → In u ts
rest {t} here e = absurd (false≢true (sym e ∙ eq-same t))
rest (there j) e = j

pub placed : (xs : List (List ℕ)) (u : List ℕ) → In u xs → (place_in xs u < length xs) × (get_or xs (place_in xs u) [] ≡ u)
placed [] u i = elim i [ ]
placed (t ∷ ts) u i = by_test (same t u) refl (λ e. placed ts u (rest i e))
  where
    by_test : (b : Bool) → same t u ≡ b → (same t u ≡ false → (place_in ts u < length ts) × (get_or ts (place_in ts u) [] ≡ u)) → (cond b 0 (suc (place_in ts u)) < length (t ∷ ts)) × (get_or (t ∷ ts) (cond b 0 (suc (place_in ts u))) [] ≡ u)
    by_test true e k = (omega arith, same-eq t u e)
    by_test false e k = let r = k e in (omega (arith, r.0), r.1)

-- all cells are different, the facets of a cell are cells, and they are few
pub record IsSetSpace (sets : ℕ → List (List ℕ)) : Type 0 where
  pub distinct : (d : ℕ) → AreDistinct (sets d)
  pub closed : (d : ℕ) (t u : List ℕ) → In t (sets (suc d)) → In u (leave_one t) → In u (sets d)
  pub some : (d : ℕ) (t : List ℕ) → In t (sets (suc d)) → (u : List ℕ) × In u (leave_one t)
  pub few : cell_count (set_space sets) ≤ 60000

module _ (sets : ℕ → List (List ℕ)) where
  pub layer-at : (d : ℕ) → d ≤ 3 → layer (set_space sets) d ≡ layer_of sets d
  layer-at d l = by_dim (λ e. layer (set_space sets) e ≡ layer_of sets e) refl refl refl refl d l

  layer-above : (d : ℕ) → 3 < d → layer (set_space sets) d ≡ []
  layer-above zero l = absurd (omega arith)
  layer-above (suc zero) l = absurd (omega arith)
  layer-above (suc (suc zero)) l = absurd (omega arith)
  layer-above (suc (suc (suc zero))) l = absurd (omega arith)
  layer-above (suc (suc (suc (suc d)))) l = refl

  pub length-layer : (d : ℕ) → length (layer_of sets d) ≡ length (sets d)
  length-layer zero = length-map (sets 0) (λ _. [])
  length-layer (suc d) = length-map (sets (suc d)) (λ t. numbers_in (sets d) (leave_one t))

  pub count-at : (d : ℕ) → d ≤ 3 → count (set_space sets) d ≡ length (sets d)
  count-at d l = ap length (layer-at d l) ∙ length-layer d

  pub dim-low : (d c : ℕ) → 1 ≤ c → c ≤ count (set_space sets) d → d ≤ 3
  dim-low d c low high = elim (cases_lt 3 d) [ inl q ↦ absurd (omega (arith, low, high, ap length (layer-above d q))) | inr q ↦ q ]

  -- the set of a cell
  abbrev pub set_of : ℕ → ℕ → List ℕ
  set_of d c = get_or (sets d) (c - 1) []

  pub set-In : (d c : ℕ) → 1 ≤ c → c ≤ count (set_space sets) d → In (get_or (sets d) (c - 1) []) (sets d)
  set-In d c low high = at-In (sets d) (c - 1) [] (omega (arith, low, high, count-at d (dim-low d c low high)))

  pub facets-at : (d c : ℕ) → 1 ≤ c → c ≤ count (set_space sets) (suc d) → facets_of (set_space sets) (suc d) c ≡ numbers_in (sets d) (leave_one (get_or (sets (suc d)) (c - 1) []))
  facets-at d c low high =
      let three : suc d ≤ 3 = dim-low (suc d) c low high in
      let l : c - 1 < length (sets (suc d)) = omega (arith, low, high, count-at (suc d) three) in
      ap (λ (ls : List (List ℕ)). get_or ls (c - 1) []) (layer-at (suc d) three) ∙ get_or-map (λ t. numbers_in (sets d) (leave_one t)) (sets (suc d)) (c - 1) [] [] l

  -- the number of a set
  pub record IsNumber (d : ℕ) (u : List ℕ) (c : ℕ) : Type 0 where
    pub low : 1 ≤ c
    pub high : c ≤ count (set_space sets) d
    pub back : get_or (sets d) (c - 1) [] ≡ u

  pub is_number : (d : ℕ) (u : List ℕ) → d ≤ 3 → In u (sets d) → IsNumber d u (place_in (sets d) u + 1)
  is_number d u three i =
      let p = placed (sets d) u i in
      let q : place_in (sets d) u + 1 - 1 ≡ place_in (sets d) u = omega arith in
      record { low = omega arith; high = omega (arith, p.0, count-at d three); back = ap (λ (k : ℕ). get_or (sets d) k []) q ∙ p.1 }

  module _ (h : IsSetSpace sets) where
    -- two cells with one set are the same
    pub cell_once : (d a b : ℕ) → 1 ≤ a → a ≤ count (set_space sets) d → 1 ≤ b → b ≤ count (set_space sets) d → get_or (sets d) (a - 1) [] ≡ get_or (sets d) (b - 1) [] → a ≡ b
    cell_once d a b la ha lb hb e =
        let n = count-at d (dim-low d a la ha) in
        let q : a - 1 ≡ b - 1 = distinct-at (a - 1) (b - 1) [] (h.distinct d) (omega (arith, la, ha, n)) (omega (arith, lb, hb, n)) e in
        omega arith

    abbrev has : List (List ℕ) → List (List ℕ) → ℕ → Bool
    has cells among n = list_any (same (get_or cells (n - 1) [])) among

    -- the numbers of facets are those of the sets that leave one out
    pub facets-In : (d c f : ℕ) → 1 ≤ c → c ≤ count (set_space sets) (suc d) → In f (facets_of (set_space sets) (suc d) c)
        → In (get_or (sets d) (f - 1) []) (leave_one (get_or (sets (suc d)) (c - 1) [])) × (1 ≤ f) × (f ≤ count (set_space sets) d)
    facets-In d c f low high i =
        let t : List ℕ = set_of (suc d) c in
        let j : In f (numbers_in (sets d) (leave_one t)) = subst (In f) (facets-at d c low high) i in
        let w = upto-In (length (sets d)) f (In-inside (has (sets d) (leave_one t)) (upto (length (sets d))) j) in
        let r = any-some (same (set_of d f)) (leave_one t) (filter-In (has (sets d) (leave_one t)) (upto (length (sets d))) j) in
        let three : suc d ≤ 3 = dim-low (suc d) c low high in
        (subst (λ (u : List ℕ). In u (leave_one t)) (sym (same-eq (set_of d f) r.0 r.2)) r.1, w.0, omega (arith, w.1, count-at d (omega (arith, three))))

    pub In-facets : (d c : ℕ) (u : List ℕ) → 1 ≤ c → c ≤ count (set_space sets) (suc d) → In u (leave_one (get_or (sets (suc d)) (c - 1) [])) → In (place_in (sets d) u + 1) (facets_of (set_space sets) (suc d) c)
    In-facets d c u low high i =
        let t : List ℕ = set_of (suc d) c in
        let three : suc d ≤ 3 = dim-low (suc d) c low high in
        let two : d ≤ 3 = omega (arith, three) in
        let n : IsNumber d u (place_in (sets d) u + 1) = is_number d u two (h.closed d t u (set-In (suc d) c low high) i) in
        let j : In (place_in (sets d) u + 1) (numbers_in (sets d) (leave_one t)) =
        In-filter (has (sets d) (leave_one t)) (In-upto (length (sets d)) (place_in (sets d) u + 1) n.low (omega (arith, n.high, count-at d two)))
        (any-In (same (set_of d (place_in (sets d) u + 1))) i (ap (λ (v : List ℕ). same v u) n.back ∙ eq-same u)) in
        subst (In (place_in (sets d) u + 1)) (sym (facets-at d c low high)) j

    pub is_space : IsSpace (set_space sets)
    is_space =
        record {
          layers = refl;
          vertices = λ k d l.
              let m : k < length (sets 0) = omega (arith, l, length-layer 0) in
              get_or-map (λ _. []) (sets 0) k [] d m;
          cells = λ dim low k d l.
              let q : k + 1 - 1 ≡ k = omega arith in
              let same_cell : get_or (layer (set_space sets) dim) k d ≡ facets_of (set_space sets) dim (k + 1) = get_or_default (layer (set_space sets) dim) k d [] l ∙ sym (ap (λ (n : ℕ). get_or (layer (set_space sets) dim) n []) q) in
              let e : suc (dim - 1) ≡ dim = omega arith in
              subst (IsCell (count (set_space sets) (dim - 1))) (sym same_cell) (subst (λ (n : ℕ). IsCell (count (set_space sets) (dim - 1)) (facets_of (set_space sets) n (k + 1))) e (cell (dim - 1) (k + 1) (omega arith) (omega (arith, l, ap (count (set_space sets)) e))));
          few = omega (arith, h.few);
        }
      where
        cell : (d c : ℕ) → 1 ≤ c → c ≤ count (set_space sets) (suc d) → IsCell (count (set_space sets) d) (facets_of (set_space sets) (suc d) c)
        cell d c low high =
            let t : List ℕ = get_or (sets (suc d)) (c - 1) [] in
            let u = h.some d t (set-In (suc d) c low high) in
            let i = In-at (In-facets d c u.0 low high u.1) in
            record {
              rises = subst IsStrictlyIncreasing (sym (facets-at d c low high)) (IsStrictlyIncreasing-filter (λ n. list_any (same (get_or (sets d) (n - 1) [])) (leave_one t)) (upto (length (sets d))) (increasing-upto (length (sets d))));
              within = λ k e l. (let r = facets-In d c (get_or (facets_of (set_space sets) (suc d) c) k e) low high (at-In (facets_of (set_space sets) (suc d) c) k e l) in (r.1, r.2));
              some = omega (arith, i.1);
            }
