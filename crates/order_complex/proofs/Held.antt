-- What the lists of `Chains` hold.
use Rattle.std.proofs.Common.{◌≡◌, ℕ, zero, suc, ◌-◌, ◌<◌, ◌≤◌, List, [], ◌∷◌, length, get_or, All, refl, ap, sym, ◌∙◌, subst, arith}
use Rattle.std.proofs.lemmas.List.{get_or-map}
use Rattle.std.proofs.lemmas.List.FromFn.{get_or-map-range_with_len, length-map-range_with_len}
use Rattle.face_poset.specs.Poset.{count, facets_of, cofaces_of, IsSpace}
use Rattle.number_lists.specs.Cofaces.{cells_with, coface_lists, IsRising}
use Rattle.order_complex.specs.Chains.{chains_of, chain_count}
use Rattle.order_complex.specs.Complex.{complex_of, chain_layers, facet_lists, stored_facets, stored_cofaces}
use Rattle.order_complex.proofs.Cofaces.{count-chains}
use Rattle.order_complex.proofs.Graded.{complex-is_space, facet_lists-rise}
use Rattle.order_complex.proofs.Placing.{edge-facets}

pub record Holds (space chains facets cofaces : List (List (List ℕ))) : Type 0 where
  pub chains_are : chains ≡ chain_layers space
  pub facets_are : facets ≡ stored_facets space
  pub cofaces_are : cofaces ≡ stored_cofaces space
  pub few : chain_count space ≤ 4294967295

pub held : (inner space chains facets cofaces : List (List (List ℕ))) → inner ≡ space
    → (chains ≡ chain_layers inner) × (facets ≡ stored_facets inner) × (cofaces ≡ stored_cofaces inner) × (chain_count inner ≤ 4294967295)
    → Holds space chains facets cofaces
held inner space chains facets cofaces e h =
    subst (λ s. Holds s chains facets cofaces) e record { chains_are = h.0; facets_are = h.1; cofaces_are = h.2; few = h.3 }

layer-chains : (space : List (List (List ℕ))) (degree : ℕ) → degree ≤ 3 → get_or (chain_layers space) degree [] ≡ chains_of space degree
layer-chains space zero l = refl
layer-chains space (suc zero) l = refl
layer-chains space (suc (suc zero)) l = refl
layer-chains space (suc (suc (suc zero))) l = refl
layer-chains space (suc (suc (suc (suc degree)))) l = absurd (omega arith)

coface_lists-at : (most cell : ℕ) (cells : List (List ℕ)) → 1 ≤ cell → cell ≤ most → (cell - 1 < length (coface_lists most cells)) × (get_or (coface_lists most cells) (cell - 1) [] ≡ cells_with cells cell)
coface_lists-at most cell cells low high = (
  omega (arith, length-map-range_with_len (cells_with cells) 1 most),
  get_or-map-range_with_len (cells_with cells) 1 most (cell - 1) cell [] (omega arith) (omega arith),
)

module _ (space chains facets cofaces : List (List (List ℕ))) (h : Holds space chains facets cofaces) where
  -- the chains of a degree
  pub chains-at : (degree : ℕ) → degree ≤ 3 → get_or chains degree [] ≡ chains_of space degree
  chains-at degree l = ap (λ ls. get_or ls degree []) h.chains_are ∙ layer-chains space degree l

  pub valid : IsSpace (complex_of space)
  valid = complex-is_space space h.few

  -- ---- the facets of a chain

  no-facets-at : (cell : ℕ) → 1 ≤ cell → cell ≤ count (complex_of space) 0 → ◌≡◌ {A = List ℕ} [] (facets_of (complex_of space) 0 cell)
  no-facets-at cell first last = sym (get_or-map {Y = List ℕ} (λ chain. []) (chains_of space 0) (cell - 1) [] [] (omega (arith, count-chains space 0 (omega arith))))

  edge-of : (cell : ℕ) → 1 ≤ cell → cell ≤ count (complex_of space) 1 → (cell - 1 < length (get_or chains 1 [])) × (get_or (get_or chains 1 []) (cell - 1) [] ≡ facets_of (complex_of space) 1 cell)
  edge-of cell first last =
      let e : get_or chains 1 [] ≡ facet_lists space 1 = chains-at 1 (omega arith) ∙ sym (edge-facets space) in
      (omega (arith, ap (λ (xs : List (List ℕ)). length xs) e), ap (λ xs. get_or xs (cell - 1) []) e)

  triangle-of : (cell : ℕ) → 1 ≤ cell → cell ≤ count (complex_of space) 2 → (cell - 1 < length (get_or facets 0 [])) × (get_or (get_or facets 0 []) (cell - 1) [] ≡ facets_of (complex_of space) 2 cell)
  triangle-of cell first last =
      let e : get_or facets 0 [] ≡ facet_lists space 2 = ap (λ ls. get_or ls 0 []) h.facets_are in
      (omega (arith, ap (λ (xs : List (List ℕ)). length xs) e), ap (λ xs. get_or xs (cell - 1) []) e)

  pub no-facets : (dim cell : ℕ) → dim ≡ 0 → 1 ≤ cell → cell ≤ count (complex_of space) dim → ◌≡◌ {A = List ℕ} [] (facets_of (complex_of space) dim cell)
  no-facets dim cell e first last = subst (λ d. ◌≡◌ {A = List ℕ} [] (facets_of (complex_of space) d cell)) (sym e) (no-facets-at cell first (subst (λ d. cell ≤ count (complex_of space) d) e last))

  pub edge-at : (dim cell : ℕ) → dim ≡ 1 → 1 ≤ cell → cell ≤ count (complex_of space) dim → (cell - 1 < length (get_or chains 1 [])) × (get_or (get_or chains 1 []) (cell - 1) [] ≡ facets_of (complex_of space) dim cell)
  edge-at dim cell e first last =
      subst (λ d. (cell - 1 < length (get_or chains 1 [])) × (get_or (get_or chains 1 []) (cell - 1) [] ≡ facets_of (complex_of space) d cell)) (sym e) (edge-of cell first (subst (λ d. cell ≤ count (complex_of space) d) e last))

  pub triangle-at : (dim cell : ℕ) → dim ≡ 2 → 1 ≤ cell → cell ≤ count (complex_of space) dim → (cell - 1 < length (get_or facets 0 [])) × (get_or (get_or facets 0 []) (cell - 1) [] ≡ facets_of (complex_of space) dim cell)
  triangle-at dim cell e first last =
      subst (λ d. (cell - 1 < length (get_or facets 0 [])) × (get_or (get_or facets 0 []) (cell - 1) [] ≡ facets_of (complex_of space) d cell)) (sym e) (triangle-of cell first (subst (λ d. cell ≤ count (complex_of space) d) e last))

  pub tetrahedron-at : (dim cell : ℕ) → 3 ≤ dim → 1 ≤ cell → cell ≤ count (complex_of space) dim → (cell - 1 < length (get_or facets 1 [])) × (get_or (get_or facets 1 []) (cell - 1) [] ≡ facets_of (complex_of space) dim cell)
  tetrahedron-at zero cell l first last = absurd (omega arith)
  tetrahedron-at (suc zero) cell l first last = absurd (omega arith)
  tetrahedron-at (suc (suc zero)) cell l first last = absurd (omega arith)
  tetrahedron-at (suc (suc (suc zero))) cell l first last =
      let e : get_or facets 1 [] ≡ facet_lists space 3 = ap (λ ls. get_or ls 1 []) h.facets_are in
      (omega (arith, ap (λ (xs : List (List ℕ)). length xs) e), ap (λ xs. get_or xs (cell - 1) []) e)
  tetrahedron-at (suc (suc (suc (suc dim)))) cell l first last = absurd (omega arith)

  -- ---- the cofaces of a chain

  pub coface-at : (dim cell : ℕ) → dim ≤ 2 → 1 ≤ cell → cell ≤ count (complex_of space) dim
      → (cell - 1 < length (get_or cofaces dim [])) × (get_or (get_or cofaces dim []) (cell - 1) [] ≡ cofaces_of (complex_of space) dim cell)
  coface-at dim cell l first last =
      subst (λ ls. (cell - 1 < length (get_or ls dim [])) × (get_or (get_or ls dim []) (cell - 1) [] ≡ cofaces_of (complex_of space) dim cell)) (sym h.cofaces_are) (by_dim dim l last)
    where
      by_dim : (dim : ℕ) → dim ≤ 2 → cell ≤ count (complex_of space) dim → (cell - 1 < length (get_or (stored_cofaces space) dim [])) × (get_or (get_or (stored_cofaces space) dim []) (cell - 1) [] ≡ cofaces_of (complex_of space) dim cell)
      by_dim zero l k = coface_lists-at (length (chains_of space 0)) cell (facet_lists space 1) first (omega (arith, count-chains space 0 (omega arith)))
      by_dim (suc zero) l k = coface_lists-at (length (chains_of space 1)) cell (facet_lists space 2) first (omega (arith, count-chains space 1 (omega arith)))
      by_dim (suc (suc zero)) l k = coface_lists-at (length (chains_of space 2)) cell (facet_lists space 3) first (omega (arith, count-chains space 2 (omega arith)))
      by_dim (suc (suc (suc dim))) l k = absurd (omega arith)

  pub no-cofaces : (dim cell : ℕ) → 2 < dim → cell ≤ count (complex_of space) dim → 1 ≤ cell → ◌≡◌ {A = List ℕ} [] (cofaces_of (complex_of space) dim cell)
  no-cofaces zero cell l last first = absurd (omega arith)
  no-cofaces (suc zero) cell l last first = absurd (omega arith)
  no-cofaces (suc (suc zero)) cell l last first = absurd (omega arith)
  no-cofaces (suc (suc (suc zero))) cell l last first = refl
  no-cofaces (suc (suc (suc (suc dim)))) cell l last first = absurd (omega arith)

-- ---- what the making of them asks for

module _ (space chains facets : List (List (List ℕ))) (c : chains ≡ chain_layers space) (f : facets ≡ stored_facets space) (few : chain_count space ≤ 4294967295) where
  pub points-rise : All (IsRising (length (get_or chains 0 []))) (get_or chains 1 [])
  points-rise = subst (λ ls. All (IsRising (length (get_or ls 0 []))) (get_or ls 1 [])) (sym c) (subst (All (IsRising (length (chains_of space 0)))) (edge-facets space) (facet_lists-rise space 0))

  pub edges-rise : All (IsRising (length (get_or chains 1 []))) (get_or facets 0 [])
  edges-rise = subst (λ ls. All (IsRising (length (get_or ls 1 []))) (get_or facets 0 [])) (sym c) (subst (λ ls. All (IsRising (length (chains_of space 1))) (get_or ls 0 [])) (sym f) (facet_lists-rise space 1))

  pub triangles-rise : All (IsRising (length (get_or chains 2 []))) (get_or facets 1 [])
  triangles-rise = subst (λ ls. All (IsRising (length (get_or ls 2 []))) (get_or facets 1 [])) (sym c) (subst (λ ls. All (IsRising (length (chains_of space 2))) (get_or ls 1 [])) (sym f) (facet_lists-rise space 2))

  pub few-edges : length (get_or chains 1 []) ≤ 4294967295
  few-edges = subst (λ ls. length (get_or ls 1 []) ≤ 4294967295) (sym c) (omega arith)

  pub few-triangles : length (get_or facets 0 []) ≤ 4294967295
  few-triangles = subst (λ ls. length (get_or ls 0 []) ≤ 4294967295) (sym f) (omega (arith, count-chains space 2 (omega arith)))

  pub few-tetrahedra : length (get_or facets 1 []) ≤ 4294967295
  few-tetrahedra = subst (λ ls. length (get_or ls 1 []) ≤ 4294967295) (sym f) (omega (arith, count-chains space 3 (omega arith)))

  -- the cofaces that are made are those that are kept
  pub cofaces-are : (cofaces : List (List (List ℕ)))
      → cofaces ≡ coface_lists (length (get_or chains 0 [])) (get_or chains 1 []) ∷ coface_lists (length (get_or chains 1 [])) (get_or facets 0 []) ∷ coface_lists (length (get_or chains 2 [])) (get_or facets 1 []) ∷ []
      → cofaces ≡ stored_cofaces space
  cofaces-are cofaces e =
      e
      ∙ ap (λ ls. coface_lists (length (get_or ls 0 [])) (get_or ls 1 []) ∷ coface_lists (length (get_or ls 1 [])) (get_or facets 0 []) ∷ coface_lists (length (get_or ls 2 [])) (get_or facets 1 []) ∷ []) c
      ∙ ap (λ ls. coface_lists (length (chains_of space 0)) (chains_of space 1) ∷ coface_lists (length (chains_of space 1)) (get_or ls 0 []) ∷ coface_lists (length (chains_of space 2)) (get_or ls 1 []) ∷ []) f
      ∙ ap (λ ls. coface_lists (length (chains_of space 0)) ls ∷ coface_lists (length (chains_of space 1)) (facet_lists space 2) ∷ coface_lists (length (chains_of space 2)) (facet_lists space 3) ∷ []) (sym (edge-facets space))
