-- The cells of a total space: where they stand, how many they are, and that they are cells of a space.
use Rattle.std.proofs.Common.{◌≡◌, ℕ, zero, suc, ◌+◌, ◌-◌, ◌*◌, ◌<◌, ◌≤◌, List, [], ◌++◌, map, length, get_or, refl, ap, sym, ◌∙◌, subst, arith}
use Rattle.std.specs.List.{flat_map, range_with_len}
use Rattle.std.proofs.Math.Nat.{mul-suc, mul-add, mul_comm, mul-le-mul_left, zero-mul}
use Rattle.std.proofs.lemmas.List.{length-append, get_or-append-add, get_or_append_left, get_or-map, length-map, get_or_default}
use Rattle.std.proofs.lemmas.List.FromFn.{length-map-range_with_len, get_or-map-range_with_len}
use Rattle.number_lists.specs.Members.{In}
use Rattle.number_lists.specs.Words.{upto}
use Rattle.number_lists.proofs.CallerLemmas.{at-In, In-Contains}
use Rattle.face_poset.specs.Poset.{IsCell, IsSpace, layer, count, cell_count, facets_of}
use Rattle.face_poset.specs.Below.{itself, facet}
use Rattle.regular_check.specs.Rules.{IsRegular}
use Rattle.sheet_laws.specs.Permutations.{InRange}
use Rattle.sheet_laws.proofs.CallerLemmas.{number-range, number-split, IsNumber}
use Rattle.cover_space.specs.Total.{least_vertex, sheeted, sheet, facet_over, cell_over, layer_over, total_of}
use Rattle.cover_space.proofs.Inside.{none_above, dim_low, facets_cell, facet_in, below-then, least-below}
use Rattle.cover_space.proofs.Labelled.{IsLabelled}
use Rattle.cover_space.proofs.Solids.{Given}
use Rattle.cover_space.proofs.Sheets.{is-sheet}

-- ---- blocks of m items

module _ {A : Type 0} (m : ℕ) (g : ℕ → ℕ → A) where
  abbrev blocks : ℕ → ℕ → List A
  blocks a n = flat_map (λ c. map (g c) (upto m)) (range_with_len a n)

  pub length-blocks : (a n : ℕ) → length (flat_map (λ c. map (g c) (upto m)) (range_with_len a n)) ≡ m * n
  length-blocks a zero = sym (mul_comm m 0 ∙ zero-mul m)
  length-blocks a (suc n) =
      let one : length (map (g a) (upto m)) ≡ m = length-map-range_with_len (g a) 1 m in
      let both : length (map (g a) (upto m)) + length (blocks (a + 1) n) ≡ m * suc n = omega (arith, one, length-blocks (a + 1) n, mul-suc m n) in
      length-append (map (g a) (upto m)) (blocks (a + 1) n) ∙ both

  pub at-blocks : (a n k j i c t : ℕ) (d : A) → k < n → j < m → i ≡ m * k + j → a + k ≡ c → 1 + j ≡ t → get_or (flat_map (λ c. map (g c) (upto m)) (range_with_len a n)) i d ≡ g c t
  at-blocks a zero k j i c t d l q e f h = absurd (omega (arith, l))
  at-blocks a (suc n) zero j i c t d l q e f h =
      let one : length (map (g a) (upto m)) ≡ m = length-map-range_with_len (g a) 1 m in
      let z : m * 0 ≡ 0 = mul_comm m 0 ∙ zero-mul m in
      let ij : i ≡ j = omega (arith, e, z) in
      let ac : a ≡ c = omega (arith, f) in
      get_or_append_left (map (g a) (upto m)) (blocks (a + 1) n) d i (omega (arith, ij, q, one))
      ∙ (get_or-map-range_with_len (g a) 1 m i t d (omega (arith, ij, q)) (omega (arith, ij, h)) ∙ ap (λ (c : ℕ). g c t) ac)
  at-blocks a (suc n) (suc k) j i c t d l q e f h =
      let one : length (map (g a) (upto m)) ≡ m = length-map-range_with_len (g a) 1 m in
      let ij : i ≡ length (map (g a) (upto m)) + (m * k + j) = omega (arith, e, mul-suc m k, one) in
      ap (λ (i : ℕ). get_or (map (g a) (upto m) ++ blocks (a + 1) n) i d) ij
      ∙ (get_or-append-add (map (g a) (upto m)) (blocks (a + 1) n) (m * k + j) d ∙ at-blocks (a + 1) n k j (m * k + j) c t d (omega (arith, l)) q refl (omega (arith, f)) h)

-- cells in a row over cells in a row
pub sheeted_lt : (m a b s t : ℕ) → 1 ≤ a → a < b → InRange m s → InRange m t → sheeted m a s < sheeted m b t
sheeted_lt m a b s t l k q r =
    let n : suc (a - 1) ≤ b - 1 = omega (arith, l, k) in
    omega (arith, mul-le-mul_left m n, mul-suc m (a - 1), q.1, r.0)

module _ (X : List (List (List ℕ))) (m : ℕ) (u : List (List ℕ)) where
  pub count-over : (d : ℕ) → length (layer_over X m u d) ≡ m * count X d
  count-over d = length-blocks m (cell_over X m u d) 1 (count X d)

  pub layer-at : (d : ℕ) → d ≤ 3 → layer (total_of X m u) d ≡ layer_over X m u d
  layer-at zero l = refl
  layer-at (suc zero) l = refl
  layer-at (suc (suc zero)) l = refl
  layer-at (suc (suc (suc zero))) l = refl
  layer-at (suc (suc (suc (suc d)))) l = absurd (omega (arith, l))

  pub count-total : IsSpace X → (d : ℕ) → count (total_of X m u) d ≡ m * count X d
  count-total hs zero = count-over 0
  count-total hs (suc zero) = count-over 1
  count-total hs (suc (suc zero)) = count-over 2
  count-total hs (suc (suc (suc zero))) = count-over 3
  count-total hs (suc (suc (suc (suc d)))) = sym (ap (λ (n : ℕ). m * n) (none_above X hs (suc (suc (suc (suc d)))) (omega arith)) ∙ (mul_comm m 0 ∙ zero-mul m))

  pub cells-total : cell_count (total_of X m u) ≡ m * cell_count X
  cells-total =
      omega (arith, count-over 0, count-over 1, count-over 2, count-over 3, mul-add m (count X 0 + count X 1 + count X 2) (count X 3), mul-add m (count X 0 + count X 1) (count X 2), mul-add m (count X 0) (count X 1))

  module _ (hs : IsSpace X) where
    pub facets-total : (d c t : ℕ) → InRange (count X d) c → InRange m t → facets_of (total_of X m u) d (sheeted m c t) ≡ cell_over X m u d c t
    facets-total d c t r q =
        ap (λ (ls : List (List ℕ)). get_or ls (sheeted m c t - 1) []) (layer-at d (dim_low X hs d c r))
        ∙ at-blocks m (cell_over X m u d) 1 (count X d) (c - 1) (t - 1) (sheeted m c t - 1) c t [] (omega (arith, r.0, r.1)) (omega (arith, q.0, q.1)) (omega (arith, q.0)) (omega (arith, r.0)) (omega (arith, q.0))

    -- each cell of the total space stands over one
    pub split : 1 ≤ m → (d p : ℕ) → InRange (count (total_of X m u) d) p → IsNumber m (count X d) p
    split some d p r = number-split m (count X d) p (r.0, omega (arith, r.1, count-total hs d)) some

  -- the number of a facet
  pub facet-over : (d c s f : ℕ) → facet_over X m u (suc d) c s f ≡ sheeted m f (sheet X m u (suc d) c s (least_vertex X d f))
  facet-over d c s f = let e : suc d - 1 ≡ d = omega arith in ap (λ (n : ℕ). sheeted m f (sheet X m u (suc d) c s (least_vertex X n f))) e

module _ (G : Given) (X : List (List (List ℕ))) (hs : IsSpace X) (regular : IsRegular X) (m : ℕ) (u : List (List ℕ)) (h : IsLabelled X m u) where
  -- the sheet over the least vertex of a facet
  pub facet-sheet : (d c s f : ℕ) → InRange (count X (suc d)) c → InRange m s → In f (facets_of X (suc d) c) → InRange m (sheet X m u (suc d) c s (least_vertex X d f))
  facet-sheet d c s f r q i =
      (is-sheet G X hs regular m u h (suc d) c s r q (least_vertex X d f)
      (below-then X hs (suc d) c d f (facet d c f itself (In-Contains i)) (least-below X hs d f (facet_in X hs d c f r i)))).range

  -- the facets of a cell that stands over another are a list of facets
  pub cell-fits : (d c s : ℕ) → InRange (count X (suc d)) c → InRange m s → IsCell (m * count X d) (cell_over X m u (suc d) c s)
  cell-fits d c s r q =
      let xs : List ℕ = facets_of X (suc d) c in
      let is : IsCell (count X d) xs = facets_cell X hs d c r in
      let to : ℕ → ℕ = facet_over X m u (suc d) c s in
      let over : (k : ℕ) → k < length xs → InRange m (sheet X m u (suc d) c s (least_vertex X d (get_or xs k 0))) = λ k l. facet-sheet d c s (get_or xs k 0) r q (at-In xs k 0 l) in
      record {
        rises = λ k l.
            let a : k + 1 < length xs = omega (arith, l, length-map xs to) in
            let b : k < length xs = omega (arith, a) in
            let up : sheeted m (get_or xs k 0) (sheet X m u (suc d) c s (least_vertex X d (get_or xs k 0))) < sheeted m (get_or xs (k + 1) 0) (sheet X m u (suc d) c s (least_vertex X d (get_or xs (k + 1) 0))) =
            sheeted_lt m (get_or xs k 0) (get_or xs (k + 1) 0) (sheet X m u (suc d) c s (least_vertex X d (get_or xs k 0))) (sheet X m u (suc d) c s (least_vertex X d (get_or xs (k + 1) 0))) (is.within k 0 b).0 (is.rises k a) (over k b) (over (k + 1) a) in
            omega (arith, up, get_or-map to xs k 0 0 b, get_or-map to xs (k + 1) 0 0 a, facet-over X m u d c s (get_or xs k 0), facet-over X m u d c s (get_or xs (k + 1) 0));
        within = λ k z l.
            let b : k < length xs = omega (arith, l, length-map xs to) in
            let w = number-range m (count X d) (get_or xs k 0) (sheet X m u (suc d) c s (least_vertex X d (get_or xs k 0))) (is.within k 0 b) (over k b) in
            let e : get_or (map to xs) k z ≡ sheeted m (get_or xs k 0) (sheet X m u (suc d) c s (least_vertex X d (get_or xs k 0))) = get_or-map to xs k 0 z b ∙ facet-over X m u d c s (get_or xs k 0) in
            (omega (arith, w.0, e), omega (arith, w.1, e));
        some = omega (arith, is.some, length-map xs to);
      }

  layer-read : (d k : ℕ) (q : List ℕ) → k < count (total_of X m u) d → get_or (layer (total_of X m u) d) k q ≡ facets_of (total_of X m u) d (k + 1)
  layer-read d k q l =
      let e : k + 1 - 1 ≡ k = omega arith in
      get_or_default (layer (total_of X m u) d) k q [] l ∙ sym (ap (λ (n : ℕ). get_or (layer (total_of X m u) d) n []) e)

  vertex-read : (k : ℕ) (q : List ℕ) → k < count (total_of X m u) 0 → get_or (layer (total_of X m u) 0) k q ≡ []
  vertex-read k q l =
      let w = split X m u hs h.some 0 (k + 1) (omega arith, omega (arith, l)) in
      let none : facets_of X 0 w.vertex ≡ [] = hs.vertices (w.vertex - 1) [] (omega (arith, w.vertex_range.0, w.vertex_range.1)) in
      layer-read 0 k q l
      ∙ (ap (λ (p : ℕ). facets_of (total_of X m u) 0 p) (sym w.is)
      ∙ (facets-total X m u hs 0 w.vertex w.sheet w.vertex_range w.sheet_range ∙ ap (map (facet_over X m u 0 w.vertex w.sheet)) none))

  cell-read : (d k : ℕ) (q : List ℕ) → k < count (total_of X m u) (suc d) → IsCell (count (total_of X m u) d) (get_or (layer (total_of X m u) (suc d)) k q)
  cell-read d k q l =
      let w = split X m u hs h.some (suc d) (k + 1) (omega arith, omega (arith, l)) in
      let e : get_or (layer (total_of X m u) (suc d)) k q ≡ cell_over X m u (suc d) w.vertex w.sheet =
      layer-read (suc d) k q l ∙ (ap (λ (p : ℕ). facets_of (total_of X m u) (suc d) p) (sym w.is) ∙ facets-total X m u hs (suc d) w.vertex w.sheet w.vertex_range w.sheet_range) in
      subst (IsCell (count (total_of X m u) d)) (sym e) (subst (λ (n : ℕ). IsCell n (cell_over X m u (suc d) w.vertex w.sheet)) (sym (count-total X m u hs d)) (cell-fits d w.vertex w.sheet w.vertex_range w.sheet_range))

  pub total_space : m * cell_count X ≤ 4294967295 → IsSpace (total_of X m u)
  total_space few =
      record {
        layers = refl;
        vertices = vertex-read;
        cells = λ d low k q l.
            let e : suc (d - 1) ≡ d = omega (arith, low) in
            subst (λ (n : ℕ). k < count (total_of X m u) n → IsCell (count (total_of X m u) (d - 1)) (get_or (layer (total_of X m u) n) k q)) e (λ b. cell-read (d - 1) k q b) l;
        few = omega (arith, few, cells-total X m u);
      }
