-- The flag of a cell, entry by entry.
use Rattle.std.proofs.Common.{◌≡◌, ℕ, suc, ◌≤◌, List, [], ◌∷◌, ◌++◌, get_or, refl, sym, ◌∙◌, subst, append_assoc}
use Rattle.face_poset.specs.Poset.{IsSpace, count, facets_of}
use Rattle.face_poset.specs.Below.{cell_at}
use Rattle.order_complex.specs.Chains.{id_of}
use Rattle.local_field.specs.Buildings.{flag_of}
use Rattle.local_field.proofs.FlagLaw.{first-In, facet-range}

module _ (space : List (List (List ℕ))) where
  pub flag-more : (flag : List ℕ) (d k cell : ℕ) → d ≡ suc k → (flag ++ id_of space (cell_at d cell) ∷ []) ++ flag_of space k (get_or (facets_of space d cell) 0 0) ≡ flag ++ flag_of space d cell
  flag-more flag d k cell e =
      append_assoc flag (id_of space (cell_at d cell) ∷ []) (flag_of space k (get_or (facets_of space d cell) 0 0))
      ∙ subst (λ (n : ℕ). flag ++ id_of space (cell_at n cell) ∷ flag_of space k (get_or (facets_of space n cell) 0 0) ≡ flag ++ flag_of space n cell) (sym e) refl

  pub first-range : IsSpace space → (d k cell : ℕ) → d ≡ suc k → 1 ≤ cell → cell ≤ count space d → (1 ≤ get_or (facets_of space d cell) 0 0) × (get_or (facets_of space d cell) 0 0 ≤ count space k)
  first-range valid d k cell e low high =
      subst (λ (n : ℕ). cell ≤ count space n → (1 ≤ get_or (facets_of space n cell) 0 0) × (get_or (facets_of space n cell) 0 0 ≤ count space k)) (sym e)
      (λ h. facet-range space valid k cell (get_or (facets_of space (suc k) cell) 0 0) low h (first-In space valid k cell low h)) high
