-- The flags and the buildings of a regular space are as the pairs inside a cell want them.
use Rattle.std.proofs.Common.{◌≡◌, inl, inr, ℕ, zero, suc, ◌≤◌, List, true, cond, eqb, ap, sym, ◌∙◌, subst, arith}
use Rattle.number_lists.specs.Members.{In}
use Rattle.number_lists.proofs.CallerLemmas.{In-Contains}
use Rattle.face_poset.specs.declared.cells.Pair.{Pair}
use Rattle.face_poset.specs.Poset.{IsSpace, count, facets_of}
use Rattle.face_poset.specs.Below.{cell_at, IsBelow}
use Rattle.order_complex.specs.Chains.{id_of}
use Rattle.regular_check.specs.Rules.{IsRegular}
use Rattle.regular_check.specs.Cycle.{CyclesGoRound}
use Rattle.local_field.specs.Towers.{Building, top_of}
use Rattle.local_field.specs.Inside.{IsBuilding, IsFlagged}
use Rattle.local_field.specs.Buildings.{dim_at, number_at, is_below, flag_of, flag_at, edge_building, disk_building, solid_building, building_at, IsCollapsing, SpacesAreFlagged, CellsLeaveOver}
use Rattle.local_field.proofs.FlagLaw.{dim-id, number-id, full}
use Rattle.local_field.proofs.Cells.{IsFaceAt, id-parts, below-or, below-step, below-parts, falls, tops, fulls, face-dim, high-dim}
use Rattle.local_field.proofs.EdgeBuildings.{edge-built}
use Rattle.local_field.proofs.DiskBuildings.{disk-built}
use Rattle.local_field.proofs.SolidBuildings.{solid-built}
use Rattle.local_field.proofs.InsideCells.{local_leaves}

module _ (rounds : CyclesGoRound) (space : List (List (List ℕ))) (collapse : ℕ → ℕ → List Pair) (valid : IsSpace space) (regular : IsRegular space) (collapsing : IsCollapsing space collapse) where
  abbrev chosen : (d n k f : ℕ) → Building
  chosen d n k f = cond (eqb d 1) (edge_building space n f) (cond (eqb d 2) (disk_building space n f) (solid_building space n k (collapse n k)))

  chosen-is : (d n m : ℕ) → suc d ≤ 3 → 1 ≤ n → n ≤ count space (suc d) → 1 ≤ m → m ≤ count space d → building_at space collapse (id_of space (cell_at (suc d) n)) (id_of space (cell_at d m)) ≡ chosen (suc d) n m (id_of space (cell_at d m))
  chosen-is d n m small low high a b =
      let g : ℕ = id_of space (cell_at (suc d) n) in
      let f : ℕ = id_of space (cell_at d m) in
      ap (λ (k : ℕ). chosen k (number_at space g) (number_at space f) f) (dim-id space (suc d) n small low high)
      ∙ (ap (λ (k : ℕ). chosen (suc d) k (number_at space f) f) (number-id space (suc d) n small low high) ∙ ap (λ (k : ℕ). chosen (suc d) n k f) (number-id space d m (omega (arith, small)) a b))

  built-chosen : (d n m : ℕ) → suc d ≤ 3 → 1 ≤ n → n ≤ count space (suc d) → In m (facets_of space (suc d) n) → IsBuilding (is_below space) (dim_at space) (id_of space (cell_at (suc d) n)) (id_of space (cell_at d m)) (chosen (suc d) n m (id_of space (cell_at d m)))
  built-chosen zero n m small low high i = edge-built space valid regular n m low high i
  built-chosen (suc zero) n m small low high i = disk-built space valid regular n m low high (rounds space n valid regular low high) i
  built-chosen (suc (suc zero)) n m small low high i = solid-built space valid n m low high i (collapse n m) (collapsing n m (record { first = low; last = high; facet = In-Contains i }))
  built-chosen (suc (suc (suc d))) n m small low high i = absurd (omega (arith, small))

  facet-In : (d n e m : ℕ) → e ≡ d → IsBelow space (suc d) n e m → In m (facets_of space (suc d) n)
  facet-In d n e m s b =
      let r = below-step space b (omega (arith, s)) in
      elim (below-or space r.2) [ inl q ↦ subst (λ (k : ℕ). In k (facets_of space (suc d) n)) (sym q.1) r.1 | inr l ↦ absurd (omega (arith, l, s)) ]

  builds : (g f : ℕ) → is_below space f g ≡ true → dim_at space g ≡ suc (dim_at space f) → IsBuilding (is_below space) (dim_at space) g f (building_at space collapse g f)
  builds g f h e =
      let p : IsFaceAt space valid f g = below-parts space valid f g h in
      let d : ℕ = p.cell.under in
      let s : p.dim ≡ d = omega (arith, e, face-dim space valid f g p, high-dim space valid g p.cell) in
      let i : In p.number (facets_of space (suc d) p.cell.number) = facet-In d p.cell.number p.dim p.number s p.below in
      let high : p.number ≤ count space d = subst (λ (k : ℕ). p.number ≤ count space k) s p.high in
      let f_is : f ≡ id_of space (cell_at d p.number) = p.is ∙ ap (λ (k : ℕ). id_of space (cell_at k p.number)) s in
      subst (λ (x : ℕ). IsBuilding (is_below space) (dim_at space) x f (building_at space collapse x f)) (sym p.cell.is)
      (subst (λ (y : ℕ). IsBuilding (is_below space) (dim_at space) (id_of space (cell_at (suc d) p.cell.number)) y (building_at space collapse (id_of space (cell_at (suc d) p.cell.number)) y)) (sym f_is)
      (subst (IsBuilding (is_below space) (dim_at space) (id_of space (cell_at (suc d) p.cell.number)) (id_of space (cell_at d p.number))) (sym (chosen-is d p.cell.number p.number p.cell.small p.cell.low p.cell.high p.low high))
      (built-chosen d p.cell.number p.number p.cell.small p.cell.low p.cell.high i)))

  pub flagged : IsFlagged (is_below space) (dim_at space) (building_at space collapse) (flag_at space)
  flagged = record { falls = falls space valid; builds = builds; tops = tops space valid; full = fulls space valid }

pub spaces_flagged : CyclesGoRound → SpacesAreFlagged
spaces_flagged rounds space collapse valid regular collapsing = flagged rounds space collapse valid regular collapsing

pub cells_leave : CyclesGoRound → CellsLeaveOver
cells_leave rounds space collapse dim number valid regular collapsing small low high =
    let t : List ℕ = flag_of space dim number in
    local_leaves (is_below space) (dim_at space) (building_at space collapse) (flag_at space) 3 t (flagged rounds space collapse valid regular collapsing) (full space valid dim number small low high) (top_low dim)
  where
    dim-small : (id : ℕ) → dim_at space id ≤ 3
    dim-small id = elim (id-parts space id) [ inl e ↦ omega (arith, e) | inr p ↦ (let s = p.small in omega (arith, s, high-dim space valid id p)) ]

    top_low : (d : ℕ) → dim_at space (top_of (flag_of space d number)) ≤ 3
    top_low zero = dim-small (id_of space (cell_at 0 number))
    top_low (suc d) = dim-small (id_of space (cell_at (suc d) number))
