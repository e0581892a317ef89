-- The space in the making.
use Rattle.std.proofs.Common.{◌≡◌, ◌≢◌, ℕ, ◌-◌, ◌≤◌, List, [], ◌∷◌, ◌++◌, Bool, cond, eqb, filter, map, length, set, ap, sym, ◌∙◌}
use Rattle.std.proofs.lemmas.Bool.{eq-eqb, ne_eqb}
use Rattle.std.proofs.lemmas.List.{map-append, append-nil, length-map}
use Rattle.std.proofs.lemmas.List.Elements.{filter-append}
use Rattle.face_poset.specs.Poset.{layer, count}
use Rattle.tuple_spaces.specs.Tuples.{dim_of, cells_in, numbers_in, layer_of, space_of}
use Rattle.number_lists.proofs.CallerLemmas.{filter-map}
use Rattle.std.proofs.lemmas.Simd.{map-map}
use Rattle.tuple_spaces.specs.Voxels.{facets}
use Rattle.voxel_spaces.specs.Places.{dim_at, layer_at, stage}
use Rattle.voxel_spaces.specs.BoxTuples.{tuple_at}
use Rattle.tuple_spaces.proofs.CallerLemmas.{made-all, made-below, made-more, made-same}

module _ (ss all : List ℕ) where
  abbrev T : ℕ → List ℕ
  T = tuple_at ss

  abbrev facets_at : ℕ → ℕ → List ℕ
  facets_at d p = numbers_in (cells_in (map (tuple_at ss) all) (d - 1)) (facets (tuple_at ss p))

  abbrev full : ℕ → List (List ℕ)
  full d = layer_at ss all d all

  abbrev stands : List ℕ → ℕ → List (List ℕ)
  stands done d = layer_at ss all d done

  -- ---- one cell more

  here_more : (d : ℕ) (done : List ℕ) (p : ℕ) → dim_at ss p ≡ d → layer_at ss all d (done ++ p ∷ []) ≡ layer_at ss all d done ++ facets_at d p ∷ []
  here_more d done p e =
      ap (map (facets_at d)) (filter-append (λ q. eqb (dim_at ss q) d) done (p ∷ []) ∙ ap (λ (b : Bool). filter (λ q. eqb (dim_at ss q) d) done ++ cond b (p ∷ []) []) (eq-eqb (dim_at ss p) d e))
      ∙ map-append (facets_at d) (filter (λ q. eqb (dim_at ss q) d) done) (p ∷ [])

  none_more : (d : ℕ) (done : List ℕ) (p : ℕ) → dim_at ss p ≢ d → layer_at ss all d (done ++ p ∷ []) ≡ layer_at ss all d done
  none_more d done p ne =
      ap (map (facets_at d))
      (filter-append (λ q. eqb (dim_at ss q) d) done (p ∷ [])
      ∙ (ap (λ (b : Bool). filter (λ q. eqb (dim_at ss q) d) done ++ cond b (p ∷ []) []) (ne_eqb (dim_at ss p) d ne) ∙ append-nil (filter (λ q. eqb (dim_at ss q) d) done)))

  pub stage-more : (d : ℕ) (done : List ℕ) (p : ℕ) → d ≤ 3 → dim_at ss p ≡ d
      → set (stage ss all d done) d (layer (stage ss all d done) d ++ numbers_in (cells_in (map (tuple_at ss) all) (d - 1)) (facets (tuple_at ss p)) ∷ []) ≡ stage ss all d (done ++ p ∷ [])
  stage-more d done p l e = made-more full (stands done) (stands (done ++ p ∷ [])) d (facets_at d p) l (here_more d done p e)

  pub stage-idle : (d : ℕ) (done : List ℕ) (p : ℕ) → d ≤ 3 → dim_at ss p ≢ d → stage ss all d done ≡ stage ss all d (done ++ p ∷ [])
  stage-idle d done p l ne = made-same full (stands done) (stands (done ++ p ∷ [])) d l (none_more d done p ne)

  cells-are : (d : ℕ) → cells_in (map (tuple_at ss) all) d ≡ map T (filter (λ q. eqb (dim_at ss q) d) all)
  cells-are d = filter-map (λ t. eqb (dim_of t) d) T all

  -- how many cells stand below
  pub stage-below : (d : ℕ) (done : List ℕ) → d ≤ 3 → 1 ≤ d → count (stage ss all d done) (d - 1) ≡ length (cells_in (map (tuple_at ss) all) (d - 1))
  stage-below d done l m =
      made-below full (stands done) d l m
      ∙ (length-map (filter (λ q. eqb (dim_at ss q) (d - 1)) all) (facets_at (d - 1)) ∙ sym (ap length (cells-are (d - 1)) ∙ length-map (filter (λ q. eqb (dim_at ss q) (d - 1)) all) T))

  pub layer-all : (d : ℕ) → layer_at ss all d all ≡ layer_of facets (map (tuple_at ss) all) d
  layer-all d =
      sym (ap (map (λ t. numbers_in (cells_in (map (tuple_at ss) all) (d - 1)) (facets t))) (cells-are d)
      ∙ map-map (λ t. numbers_in (cells_in (map (tuple_at ss) all) (d - 1)) (facets t)) T (filter (λ q. eqb (dim_at ss q) d) all))

  pub stage-all : stage ss all 4 [] ≡ space_of facets (map (tuple_at ss) all)
  stage-all = made-all full (stands []) (layer_of facets (map (tuple_at ss) all)) layer-all

  pub count-vertices : count (stage ss all 4 []) 0 ≡ length (filter (λ q. eqb (dim_at ss q) 0) all)
  count-vertices = length-map (filter (λ q. eqb (dim_at ss q) 0) all) (facets_at 0)
