-- A total space in the making: cell by cell, and the facets of each.
use Rattle.std.proofs.Common.{◌≡◌, ℕ, zero, suc, ◌+◌, ◌-◌, ◌*◌, ◌<◌, ◌≤◌, List, [], ◌∷◌, ◌++◌, map, take, drop, length, get_or, set, refl, ap, sym, ◌∙◌, subst, arith, All, Contains}
use Rattle.std.proofs.Math.Nat.{mul-suc, mul-le-mul_left}
use Rattle.std.proofs.lemmas.List.{map_more, take_more, take_all, length-take-le}
use Rattle.std.proofs.lemmas.Grind.{common_steps}
use Rattle.std.proofs.lemmas.List.FromFn.{length-map-range_with_len, get_or-map-range_with_len, map-range_with_len_more}
use Rattle.number_lists.specs.Members.{In}
use Rattle.number_lists.specs.Words.{upto}
use Rattle.number_lists.proofs.CallerLemmas.{at-In, In-Contains}
use Rattle.face_poset.specs.Poset.{IsCell, IsSpace, layer, count, cell_count, facets_of}
use Rattle.face_poset.specs.Below.{IsBelow, itself, facet}
use Rattle.sphere_collapses.specs.Places.{number_at}
use Rattle.space_parts.proofs.CallerLemmas.{parts_differ, made-more, made-end, made-above, made-below, by_dim}
use Rattle.sheet_laws.specs.Permutations.{InRange}
use Rattle.edge_words.specs.Labels.{Labelled}
use Rattle.cover_space.specs.Total.{least_vertex, below, sheeted, sheet, facet_over, cell_over, layer_over, total_of}
use Rattle.cover_space.specs.Laws.{TotalIsASpace}
use Rattle.cover_space.specs.Making.{AreSheets, HasLabelling, IsAgreeing, leasts, leasts_below, stage}
use Rattle.cover_space.proofs.Inside.{In-below, below-then, least-below, facet_in}
use Rattle.cover_space.proofs.Labelled.{IsLabelled, is_labelled}
use Rattle.cover_space.proofs.Laid.{at-blocks, count-over, count-total, cells-total, facets-total}

-- what was written to the whole of a vector is what it holds
pub written_back : (size : ℕ) (new old : List ℕ) → length new ≡ length old → length old ≡ size → take size (new ++ drop (length new) old) ≡ new
written_back size new old e f = grind (arith, common_steps)

-- one number more in a list of cells over others
pub listed-more : (sheets : ℕ) (cells least vertices over : List ℕ) (f : ℕ → ℕ) (i place m y : ℕ) (items new : List ℕ) → i < length cells → IsAgreeing vertices f over
    → items ≡ map (λ c. sheeted sheets c (f (get_or least (c - 1) 0))) (take i cells) → number_at vertices place ≡ get_or least (get_or cells i 0 - 1) 0 → 1 ≤ place → place ≤ length vertices
    → m ≡ sheets → y ≡ get_or over (place - 1) 0 → new ≡ items ++ (m * (get_or cells i 0 - 1) + y) ∷ [] → new ≡ map (λ c. sheeted sheets c (f (get_or least (c - 1) 0))) (take (i + 1) cells)
listed-more sheets cells least vertices over f i place m y items new l a e n low high ms ys is =
    let g : ℕ → ℕ = λ c. sheeted sheets c (f (get_or least (c - 1) 0)) in
    let x : ℕ = get_or cells i 0 in
    let t : y ≡ f (get_or least (x - 1) 0) = ys ∙ (a (place - 1) (omega (arith, low, high)) ∙ ap f n) in
    let v : m * (x - 1) + y ≡ g x = ap (λ (k : ℕ). k * (x - 1) + y) ms ∙ ap (λ (k : ℕ). sheets * (x - 1) + k) t in
    is ∙ (ap (λ (ns : List ℕ). ns ++ (m * (x - 1) + y) ∷ []) e ∙ (ap (λ (k : ℕ). map g (take i cells) ++ k ∷ []) v ∙ sym (map_more g cells i 0 l)))

map-in : (f g : ℕ → ℕ) (xs : List ℕ) → ((k : ℕ) → k < length xs → f (get_or xs k 0) ≡ g (get_or xs k 0)) → map f xs ≡ map g xs
map-in f g [] h = refl
map-in f g (x ∷ xs) h =
    ap (λ (y : ℕ). y ∷ map f xs) (h 0 (omega arith)) ∙ ap (λ (ys : List ℕ). g x ∷ ys) (map-in f g xs (λ k l. h (suc k) (omega (arith, l))))

module _ (X : List (List (List ℕ))) (of : Labelled) where
  abbrev whole : ℕ → List (List ℕ)
  whole d = layer_over X of.sheets of.labels d

  abbrev part : ℕ → ℕ → List (List ℕ)
  part n d = take n (layer_over X of.sheets of.labels d)

  -- ---- cells of the total space, one after another

  pub place-low : (n cell s : ℕ) → InRange n cell → s < of.sheets → of.sheets * (cell - 1) + s < of.sheets * n
  place-low n cell s r l =
      let k : suc (cell - 1) ≤ n = omega (arith, r.0, r.1) in
      omega (arith, l, mul-le-mul_left of.sheets k, mul-suc of.sheets (cell - 1))

  pub next-place : (cell s : ℕ) → 1 ≤ cell → of.sheets ≤ s → s ≤ of.sheets → of.sheets * (cell - 1) + s ≡ of.sheets * cell
  next-place cell s low a b =
      let e : suc (cell - 1) ≡ cell = omega (arith, low) in
      let k : of.sheets * suc (cell - 1) ≡ of.sheets * cell = ap (λ (n : ℕ). of.sheets * n) e in
      omega (arith, a, b, k, mul-suc of.sheets (cell - 1))

  pub stage-more : (dim cell s : ℕ) → dim ≤ 3 → InRange (count X dim) cell → s < of.sheets
      → set (stage X of dim (of.sheets * (cell - 1) + s)) dim (layer (stage X of dim (of.sheets * (cell - 1) + s)) dim ++ cell_over X of.sheets of.labels dim cell (s + 1) ∷ []) ≡ stage X of dim (of.sheets * (cell - 1) + (s + 1))
  stage-more dim cell s l r q =
      let n : ℕ = of.sheets * (cell - 1) + s in
      let lt : n < length (layer_over X of.sheets of.labels dim) = omega (arith, place-low (count X dim) cell s r q, count-over X of.sheets of.labels dim) in
      let e : n + 1 ≡ of.sheets * (cell - 1) + (s + 1) = omega arith in
      let c : get_or (layer_over X of.sheets of.labels dim) n [] ≡ cell_over X of.sheets of.labels dim cell (s + 1) =
      at-blocks of.sheets (cell_over X of.sheets of.labels dim) 1 (count X dim) (cell - 1) s n cell (s + 1) [] (omega (arith, r.0, r.1)) q refl (omega (arith, r.0)) (omega arith) in
      made-more whole (part n) (part (of.sheets * (cell - 1) + (s + 1))) dim (cell_over X of.sheets of.labels dim cell (s + 1)) l
      (ap (λ (k : ℕ). take k (layer_over X of.sheets of.labels dim)) (sym e)
      ∙ (take_more (layer_over X of.sheets of.labels dim) n [] lt ∙ ap (λ (x : List ℕ). take n (layer_over X of.sheets of.labels dim) ++ x ∷ []) c))

  pub stage-end : (dim n : ℕ) → dim ≤ 3 → of.sheets * count X dim ≤ n → stage X of dim n ≡ stage X of (dim + 1) 0
  stage-end dim n l le =
      parts_differ whole (part n) whole dim l (take_all n (layer_over X of.sheets of.labels dim) (omega (arith, le, count-over X of.sheets of.labels dim))) ∙ made-end whole (part 0) dim l (λ d. refl)

  pub stage-above : (dim n above : ℕ) → dim ≤ 3 → dim < above → count (stage X of dim n) above ≡ 0
  stage-above dim n above l h = made-above whole (part n) dim above l h

  pub stage-below : (dim n : ℕ) → dim ≤ 3 → 1 ≤ dim → count (stage X of dim n) (dim - 1) ≡ of.sheets * count X (dim - 1)
  stage-below dim n l h = made-below whole (part n) dim l h ∙ count-over X of.sheets of.labels (dim - 1)

  pub stage-none : stage X of 0 0 ≡ [] ∷ [] ∷ [] ∷ [] ∷ []
  stage-none = refl

  pub stage-all : stage X of 4 0 ≡ total_of X of.sheets of.labels
  stage-all = refl

  pub stage-room : (dim n : ℕ) → dim ≤ 3 → n < of.sheets * count X dim → of.sheets * cell_count X ≤ 60000 → cell_count (stage X of dim n) < 60000
  stage-room dim n l lt few =
      by_dim (λ d. n < of.sheets * count X d → cell_count (stage X of d n) < 60000)
      (λ h. omega (arith, h, some 0 h, long 0, long 1, long 2, long 3, all, few))
      (λ h. omega (arith, h, some 1 h, long 0, long 1, long 2, long 3, all, few))
      (λ h. omega (arith, h, some 2 h, long 0, long 1, long 2, long 3, all, few))
      (λ h. omega (arith, h, some 3 h, long 0, long 1, long 2, long 3, all, few)) dim l lt
    where
      long : (d : ℕ) → length (layer_over X of.sheets of.labels d) ≡ of.sheets * count X d
      long d = count-over X of.sheets of.labels d

      all : length (layer_over X of.sheets of.labels 0) + length (layer_over X of.sheets of.labels 1) + length (layer_over X of.sheets of.labels 2) + length (layer_over X of.sheets of.labels 3) ≡ of.sheets * cell_count X
      all = cells-total X of.sheets of.labels

      some : (d : ℕ) → n < of.sheets * count X d → length (take n (layer_over X of.sheets of.labels d)) ≡ n
      some d h = length-take-le n (layer_over X of.sheets of.labels d) (omega (arith, h, long d))

  -- ---- least vertices

  pub length-leasts : (d : ℕ) → length (leasts X d) ≡ count X d
  length-leasts d = length-map-range_with_len (least_vertex X d) 1 (count X d)

  least-at : (d f : ℕ) → InRange (count X d) f → get_or (leasts X d) (f - 1) 0 ≡ least_vertex X d f
  least-at d f r = get_or-map-range_with_len (least_vertex X d) 1 (count X d) (f - 1) f 0 (omega (arith, r.0, r.1)) (omega (arith, r.0))

  -- ---- the facets

  module _ (hl : HasLabelling X of) (cell : ℕ) where
    hs : IsSpace X
    hs = hl.valid

    no-facets : InRange (count X 0) cell → facets_of X 0 cell ≡ []
    no-facets r = hs.vertices (cell - 1) [] (omega (arith, r.0, r.1))

    none : (P : ℕ → Type 0) (xs : List ℕ) → xs ≡ [] → All P xs
    none P xs e = λ k z l. absurd (omega (arith, l, ap length e))

    pub facets-room : (dim : ℕ) → InRange (count X dim) cell → All (λ f. (1 ≤ f) × (f ≤ length (leasts_below X dim))) (facets_of X dim cell)
    facets-room zero r = none (λ f. (1 ≤ f) × (f ≤ length (leasts_below X 0))) (facets_of X 0 cell) (no-facets r)
    facets-room (suc d) r = λ k z l.
        let w = facet_in X hs d cell (get_or (facets_of X (suc d) cell) k z) r (at-In (facets_of X (suc d) cell) k z l) in
        (w.0, omega (arith, w.1, length-leasts d))

    pub facets-there : (dim : ℕ) → InRange (count X dim) cell → All (λ f. Contains (below X dim cell 0) (get_or (leasts_below X dim) (f - 1) 0)) (facets_of X dim cell)
    facets-there zero r = none (λ f. Contains (below X 0 cell 0) (get_or (leasts_below X 0) (f - 1) 0)) (facets_of X 0 cell) (no-facets r)
    facets-there (suc d) r = λ k z l.
        let f : ℕ = get_or (facets_of X (suc d) cell) k z in
        let i : In f (facets_of X (suc d) cell) = at-In (facets_of X (suc d) cell) k z l in
        let w : InRange (count X d) f = facet_in X hs d cell f r i in
        let b : IsBelow X (suc d) cell 0 (least_vertex X d f) = below-then X hs (suc d) cell d f (facet d cell f itself (In-Contains i)) (least-below X hs d f w) in
        subst (Contains (below X (suc d) cell 0)) (sym (least-at d f w)) (In-Contains (In-below X hs (suc d) cell r b))

    pub facets-made : (dim s : ℕ) → InRange (count X dim) cell
        → map (λ f. sheeted of.sheets f (sheet X of.sheets of.labels dim cell s (get_or (leasts_below X dim) (f - 1) 0))) (facets_of X dim cell) ≡ cell_over X of.sheets of.labels dim cell s
    facets-made zero s r =
        ap (map (λ f. sheeted of.sheets f (sheet X of.sheets of.labels 0 cell s (get_or (leasts_below X 0) (f - 1) 0)))) (no-facets r)
        ∙ sym (ap (map (facet_over X of.sheets of.labels 0 cell s)) (no-facets r))
    facets-made (suc d) s r =
        map-in (λ f. sheeted of.sheets f (sheet X of.sheets of.labels (suc d) cell s (get_or (leasts X d) (f - 1) 0))) (facet_over X of.sheets of.labels (suc d) cell s) (facets_of X (suc d) cell)
        (λ k l.
        let f : ℕ = get_or (facets_of X (suc d) cell) k 0 in
        let w : InRange (count X d) f = facet_in X hs d cell f r (at-In (facets_of X (suc d) cell) k 0 l) in
        let e : d ≡ suc d - 1 = omega arith in
        ap (λ (v : ℕ). sheeted of.sheets f (sheet X of.sheets of.labels (suc d) cell s v)) (least-at d f w ∙ ap (λ (n : ℕ). least_vertex X n f) e))

    -- what the code lists of them
    pub over-list : (dim s m : ℕ) (facets least vertices over written list read : List ℕ) → InRange (count X dim) cell → m ≡ of.sheets → facets ≡ facets_of X dim cell → least ≡ leasts_below X dim → vertices ≡ below X dim cell 0
        → over ≡ written → AreSheets X of dim cell s written → ((f : ℕ → ℕ) → IsAgreeing vertices f over → list ≡ map (λ c. sheeted m c (f (get_or least (c - 1) 0))) facets) → read ≡ list
        → read ≡ cell_over X of.sheets of.labels dim cell s
    over-list dim s m facets least vertices over written list read r ms fs ls vs os a law e =
        let f : ℕ → ℕ = sheet X of.sheets of.labels dim cell s in
        let agree : IsAgreeing vertices f over = subst (λ (xs : List ℕ). IsAgreeing xs f over) (sym vs) (subst (IsAgreeing (below X dim cell 0) f) (sym os) a) in
        e
        ∙ (law f agree
        ∙ (ap (map (λ c. sheeted m c (f (get_or least (c - 1) 0)))) fs
        ∙ (ap (λ (xs : List ℕ). map (λ c. sheeted m c (f (get_or xs (c - 1) 0))) (facets_of X dim cell)) ls
        ∙ (ap (λ (k : ℕ). map (λ c. sheeted k c (f (get_or (leasts_below X dim) (c - 1) 0))) (facets_of X dim cell)) ms ∙ facets-made dim s r))))

    pub vertex-over : (dim s : ℕ) → InRange (count X dim) cell → dim ≡ 0 → cell_over X of.sheets of.labels dim cell s ≡ []
    vertex-over dim s r z =
        ap (map (facet_over X of.sheets of.labels dim cell s)) (ap (λ (d : ℕ). facets_of X d cell) z ∙ no-facets (subst (λ (d : ℕ). InRange (count X d) cell) z r))

    -- they are facets of a cell of the total space
    pub cell-fits : (dim s : ℕ) → TotalIsASpace → of.sheets * cell_count X ≤ 60000 → InRange (count X dim) cell → InRange of.sheets s → 1 ≤ dim → IsCell (of.sheets * count X (dim - 1)) (cell_over X of.sheets of.labels dim cell s)
    cell-fits dim s law few r q low =
        let T : IsSpace (total_of X of.sheets of.labels) = law X of.sheets of.labels hs hl.regular hl.labelling few in
        let lt : sheeted of.sheets cell s - 1 < count (total_of X of.sheets of.labels) dim = omega (arith, place-low (count X dim) cell (s - 1) r (omega (arith, q.0, q.1)), q.0, count-total X of.sheets of.labels hs dim) in
        subst (IsCell (of.sheets * count X (dim - 1))) (facets-total X of.sheets of.labels hs dim cell s r q)
        (subst (λ (n : ℕ). IsCell n (facets_of (total_of X of.sheets of.labels) dim (sheeted of.sheets cell s))) (count-total X of.sheets of.labels hs (dim - 1)) (T.cells dim low (sheeted of.sheets cell s - 1) [] lt))

  -- ---- how many there are

  one-count : (d : ℕ) → d ≤ 3 → count X d ≤ cell_count X
  one-count d l = by_dim (λ e. count X e ≤ cell_count X) (omega arith) (omega arith) (omega arith) (omega arith) d l

  pub leasts-few : (dim : ℕ) → dim ≤ 3 → of.sheets * cell_count X ≤ 60000 → of.sheets * length (leasts_below X dim) ≤ 60000
  leasts-few zero l few = let k : 0 ≤ cell_count X = omega arith in omega (arith, few, mul-le-mul_left of.sheets k)
  leasts-few (suc d) l few =
      let k : length (leasts X d) ≤ cell_count X = omega (arith, length-leasts d, one-count d (omega (arith, l))) in
      omega (arith, few, mul-le-mul_left of.sheets k)

  -- some vertex stands
  pub some-cell : HasLabelling X of → 1 ≤ count (stage X of 4 0) 0
  some-cell hl =
      let h : IsLabelled X of.sheets of.labels = is_labelled X of.sheets of.labels hl.labelling in
      let k : 1 ≤ count X 0 = hl.limited.vertex in
      omega (arith, h.some, mul-le-mul_left of.sheets k, count-over X of.sheets of.labels 0)

  -- the cells of a dimension, all of them
  pub layer-end : (dim n : ℕ) → dim ≤ 3 → count X dim ≤ n → stage X of dim (of.sheets * n) ≡ stage X of (dim + 1) 0
  layer-end dim n l h = stage-end dim (of.sheets * n) l (mul-le-mul_left of.sheets h)

-- one number more
pub numbered-more : (f : ℕ → ℕ) (n v : ℕ) (items new : List ℕ) → items ≡ map f (upto n) → new ≡ items ++ v ∷ [] → v ≡ f (n + 1) → new ≡ map f (upto (n + 1))
numbered-more f n v items new e is q =
    is ∙ (ap (λ (xs : List ℕ). xs ++ v ∷ []) e ∙ (ap (λ (x : ℕ). map f (upto n) ++ x ∷ []) q ∙ sym (map-range_with_len_more f 1 n (n + 1) (omega arith))))
