-- Lemmas on spaces.
use Rattle.std.proofs.Common.{◌≡◌, ◌≢◌, ◌<◌, ◌≤◌, ◌+◌, ◌-◌, ◌++◌, ◌∷◌, [], ℕ, zero, suc, List, inl, inr, length, get_or, set, sym, ◌∙◌, ap, arith, subst, All}
use Rattle.std.proofs.lemmas.Bool.Decides.{eqb_tells}
use Rattle.std.proofs.lemmas.List.{get_or_past, length-set, get_or-set_same, get_or-set_other, length_push, nil_from_length}
use Rattle.std.proofs.lemmas.List.FromFn.{length-map-range_with_len, get_or-map-range_with_len}
use Rattle.std.proofs.lemmas.List.Elements.{All-push, All-nil, All-same}
use Rattle.face_poset.specs.Poset.{layer, count, cell_count, cofaces_of, IsCell, IsSpace, coface_layers}
use Rattle.number_lists.specs.Cofaces.{cells_with, coface_lists}

-- a list of cofaces

lists_at : (most cell : ℕ) (cells : List (List ℕ)) → 1 ≤ cell → cell ≤ most → get_or (coface_lists most cells) (cell - 1) [] ≡ cells_with cells cell
lists_at most cell cells low high = get_or-map-range_with_len (cells_with cells) 1 most (cell - 1) cell [] (omega arith) (omega arith)

lists_long : (most : ℕ) (cells : List (List ℕ)) → length (coface_lists most cells) ≡ most
lists_long most cells = length-map-range_with_len (cells_with cells) 1 most

pub cofaces_at : (space cofaces : List (List (List ℕ))) (dim cell : ℕ) (d : List (List ℕ)) → length space ≡ 4 → cofaces ≡ coface_layers space → 1 ≤ cell → cell ≤ count space dim
    → (length (get_or cofaces dim d) ≡ count space dim) × (get_or (get_or cofaces dim d) (cell - 1) [] ≡ cofaces_of space dim cell)
cofaces_at space cofaces dim cell d four e low high =
    subst (λ (cs : List (List (List ℕ))). (length (get_or cs dim d) ≡ count space dim) × (get_or (get_or cs dim d) (cell - 1) [] ≡ cofaces_of space dim cell)) (sym e) (by_dim space dim cell d four low high)
  where
    by_dim : (space : List (List (List ℕ))) (dim cell : ℕ) (d : List (List ℕ)) → length space ≡ 4 → 1 ≤ cell → cell ≤ count space dim
        → (length (get_or (coface_layers space) dim d) ≡ count space dim) × (get_or (get_or (coface_layers space) dim d) (cell - 1) [] ≡ cofaces_of space dim cell)
    by_dim space zero cell d four low high = (lists_long (count space 0) (layer space 1), lists_at (count space 0) cell (layer space 1) low high)
    by_dim space (suc zero) cell d four low high = (lists_long (count space 1) (layer space 2), lists_at (count space 1) cell (layer space 2) low high)
    by_dim space (suc (suc zero)) cell d four low high = (lists_long (count space 2) (layer space 3), lists_at (count space 2) cell (layer space 3) low high)
    by_dim space (suc (suc (suc zero))) cell d four low high =
        let none : layer space 4 ≡ [] = get_or_past space 4 [] (omega arith) in
        (lists_long (count space 3) [], lists_at (count space 3) cell [] low high ∙ ap (λ (cs : List (List ℕ)). cells_with cs cell) (sym none))
    by_dim space (suc (suc (suc (suc dim)))) cell d four low high =
        let none : layer space (suc (suc (suc (suc dim)))) ≡ [] = get_or_past space (suc (suc (suc (suc dim)))) [] (omega arith) in
        absurd (omega (arith, ap length none))

-- one cell more, of a dimension above which there is none

pub counts_add : (space : List (List (List ℕ))) (dim : ℕ) (facets : List ℕ) → length space ≡ 4 → dim ≤ 3 → cell_count (set space dim (layer space dim ++ facets ∷ [])) ≡ cell_count space + 1
counts_add (a ∷ b ∷ c ∷ d ∷ []) zero facets four le = omega (arith, length_push a facets)
counts_add (a ∷ b ∷ c ∷ d ∷ []) (suc zero) facets four le = omega (arith, length_push b facets)
counts_add (a ∷ b ∷ c ∷ d ∷ []) (suc (suc zero)) facets four le = omega (arith, length_push c facets)
counts_add (a ∷ b ∷ c ∷ d ∷ []) (suc (suc (suc zero))) facets four le = omega (arith, length_push d facets)
counts_add (a ∷ b ∷ c ∷ d ∷ []) (suc (suc (suc (suc dim)))) facets four le = absurd (omega arith)
counts_add [] dim facets four le = absurd (omega arith)
counts_add (a ∷ []) dim facets four le = absurd (omega arith)
counts_add (a ∷ b ∷ []) dim facets four le = absurd (omega arith)
counts_add (a ∷ b ∷ c ∷ []) dim facets four le = absurd (omega arith)
counts_add (a ∷ b ∷ c ∷ d ∷ e ∷ more) dim facets four le = absurd (omega arith)

pub IsSpace-add : (space : List (List (List ℕ))) (dim : ℕ) (facets : List ℕ) → IsSpace space → dim ≤ 3 → cell_count space < 4294967295
    → ((above : ℕ) → dim < above → count space above ≡ 0) → (dim ≡ 0 → facets ≡ []) → (1 ≤ dim → IsCell (count space (dim - 1)) facets)
    → IsSpace (set space dim (layer space dim ++ facets ∷ []))
IsSpace-add space dim facets h le few last vertex cell =
    let new : List (List (List ℕ)) = set space dim (layer space dim ++ facets ∷ []) in
    let four : length space ≡ 4 = h.layers in
    let here : layer new dim ≡ layer space dim ++ facets ∷ [] = get_or-set_same space dim (layer space dim ++ facets ∷ []) [] (omega arith) in
    let other : (e : ℕ) → e ≢ dim → layer new e ≡ layer space e = λ e ne. get_or-set_other space dim e (layer space dim ++ facets ∷ []) [] ne in
    record {
      layers = length-set space dim (layer space dim ++ facets ∷ []) ∙ four;
      vertices = elim (eqb_tells 0 dim) [
        | inl p ↦
            let e : layer new 0 ≡ layer space 0 ++ facets ∷ [] = subst (λ (n : ℕ). layer new n ≡ layer space n ++ facets ∷ []) (sym p.1) here in
            All-same (λ fs. fs ≡ []) (layer new 0) (layer space 0 ++ facets ∷ []) e (All-push (λ fs. fs ≡ []) (layer space 0) facets h.vertices (vertex (sym p.1)))
        | inr p ↦ All-same (λ fs. fs ≡ []) (layer new 0) (layer space 0) (other 0 p.1) h.vertices
      ];
      cells = λ e low. elim (eqb_tells e dim) [
        | inl p ↦
            let at : layer new e ≡ layer space e ++ facets ∷ [] = subst (λ (n : ℕ). layer new n ≡ layer space n ++ facets ∷ []) (sym p.1) here in
            let same : count new (e - 1) ≡ count space (e - 1) = ap length (other (e - 1) (λ q. let r : e ≡ dim = p.1 in omega arith)) in
            let fits : IsCell (count space (e - 1)) facets = subst (λ (n : ℕ). IsCell (count space (n - 1)) facets) (sym p.1) (cell (let r : e ≡ dim = p.1 in omega arith)) in
            subst (λ (n : ℕ). All (IsCell n) (layer new e)) (sym same)
            (All-same (IsCell (count space (e - 1))) (layer new e) (layer space e ++ facets ∷ []) at (All-push (IsCell (count space (e - 1))) (layer space e) facets (h.cells e low) fits))
        | inr p ↦ elim (eqb_tells (e - 1) dim) [
          | inl q ↦
              let none : layer new e ≡ [] = other e p.1 ∙ nil_from_length (layer space e) (last e (let r : e - 1 ≡ dim = q.1 in omega arith)) in
              All-same (IsCell (count new (e - 1))) (layer new e) [] none (All-nil (IsCell (count new (e - 1))))
          | inr q ↦
              subst (λ (n : ℕ). All (IsCell n) (layer new e)) (sym (ap length (other (e - 1) q.1)))
              (All-same (IsCell (count space (e - 1))) (layer new e) (layer space e) (other e p.1) (h.cells e low))
        ]
      ];
      few = omega (arith, counts_add space dim facets four le);
    }

-- a dimension that has a cell
pub dim_within : (space : List (List (List ℕ))) (dim : ℕ) → length space ≡ 4 → 1 ≤ count space dim → dim ≤ 3
dim_within space zero four some = omega arith
dim_within space (suc zero) four some = omega arith
dim_within space (suc (suc zero)) four some = omega arith
dim_within space (suc (suc (suc zero))) four some = omega arith
dim_within space (suc (suc (suc (suc dim)))) four some =
    let none : layer space (suc (suc (suc (suc dim)))) ≡ [] = get_or_past space (suc (suc (suc (suc dim)))) [] (omega arith) in
    absurd (omega (arith, ap length none))
