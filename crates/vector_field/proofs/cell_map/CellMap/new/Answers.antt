use Rattle.std.proofs.Common.{◌≡◌, ◌-◌, inl, inr, ℕ, zero, suc, List, [], ◌∷◌, Option, None, get_or, replicate, refl, ap, ◌∙◌, arith}
use Rattle.std.proofs.lemmas.Bool.{cases_lt}
use Rattle.std.proofs.lemmas.List.{get_or-replicate, get_or_past, length-replicate}
use Rattle.vector_field.specs.CellMaps.{at}
use Rattle.vector_field.proofs.cell_map.CellMap.new.Goals as goal

-- nothing is at any place of a row of nothing
blank : (row : List (Option ℕ)) (cells : ℕ) → row ≡ replicate cells None → (i : ℕ) → get_or row i None ≡ None
blank row cells e i =
    ap (λ (r : List (Option ℕ)). get_or r i None) e
    ∙ elim (cases_lt i cells) [ inl l ↦ get_or-replicate cells i None None l | inr l ↦ get_or_past (replicate cells None) i None (omega (arith, length-replicate {A = Option ℕ} cells None)) ]

all_blank : (v e d s : List (Option ℕ)) → ((i : ℕ) → get_or v i None ≡ None) → ((i : ℕ) → get_or e i None ≡ None) → ((i : ℕ) → get_or d i None ≡ None) → ((i : ℕ) → get_or s i None ≡ None) → (dim cell : ℕ) → at (v ∷ e ∷ d ∷ s ∷ []) dim cell ≡ None
all_blank v e d s hv he hd hs zero cell = hv (cell - 1)
all_blank v e d s hv he hd hs (suc zero) cell = he (cell - 1)
all_blank v e d s hv he hd hs (suc (suc zero)) cell = hd (cell - 1)
all_blank v e d s hv he hd hs (suc (suc (suc zero))) cell = hs (cell - 1)
all_blank v e d s hv he hd hs (suc (suc (suc (suc dim)))) cell = refl

pub returns-clause-empty : goal.returns-clause-empty
returns-clause-empty g c dim cell =
    all_blank c.in_ok-vertices.vertices c.in_ok-edges.edges c.in_ok-disks.disks c.in_ok-solids.solids (blank _ _ c.in_ok-vertices.ensures) (blank _ _ c.in_ok-edges.ensures) (blank _ _ c.in_ok-disks.ensures) (blank _ _ c.in_ok-solids.ensures) dim cell
