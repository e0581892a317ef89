-- The faces of a cell are the cells below it.
use Rattle.std.proofs.Common.{◌≡◌, inl, inr, ℕ, zero, suc, ◌-◌, ◌<◌, ◌≤◌, List, [], ◌∷◌, map, get_or, refl, ap, sym, ◌∙◌, subst, arith}
use Rattle.face_poset.specs.declared.cells.Cell.{Cell}
use Rattle.face_poset.specs.Poset.{count, IsSpace}
use Rattle.face_poset.specs.Below.{cell_at, closed_cell, closure, facets_of_all, IsBelow}
use Rattle.face_poset.proofs.CallerLemmas.{closed_cell-least}
use Rattle.number_lists.specs.Members.{In}
use Rattle.number_lists.proofs.CallerLemmas.{Contains-In, In-Contains, In-cases, In-left, In-map, append-In, map-In}
use Rattle.order_complex.specs.Chains.{id_of, all_cells, faces_of}
use Rattle.order_complex.specs.Complex.{HasId}
use Rattle.order_complex.specs.Laws.{FacesAreBelow}
use Rattle.order_complex.proofs.FaceIds.{faces_at, faces_at-cell, at_id, closure-of, facets_of_all-range}

module _ (space : List (List (List ℕ))) where
  cell-is : (x : Cell) → cell_at x.dim x.number ≡ x
  cell-is x = refl

  -- cells with one id are one cell
  same-cell : (x y : Cell) → x.dim ≤ 3 → 1 ≤ x.number → x.number ≤ count space x.dim → y.dim ≤ 3 → 1 ≤ y.number → y.number ≤ count space y.dim → id_of space x ≡ id_of space y → x ≡ y
  same-cell x y a b c d e f s =
      sym (at_id space x.dim x.number x a b c) ∙ ap (λ i. get_or (all_cells space) (i - 1) x) s ∙ at_id space y.dim y.number x d e f

  -- the members of a closed cell of a smaller dimension are those of the closure of its facets
  under : (valid : IsSpace space) (cell face : Cell) (id face_id : ℕ) → HasId space cell id → HasId space face face_id → (dim : ℕ) → dim ≡ cell.dim → In face_id (faces_of space dim cell.number)
      → IsBelow space cell.dim cell.number face.dim face.number × (face.dim < cell.dim)
  under valid cell face id face_id h k zero e m = elim m [ ]
  under valid cell face id face_id h k (suc dim) e m =
      let lower : List Cell = closure space dim (facets_of_all space dim (cell.number ∷ [])) in
      let r = map-In (id_of space) lower m in
      let o = closure-of space dim (facets_of_all space dim (cell.number ∷ [])) r.0 (facets_of_all-range space dim (cell.number ∷ [])) r.1 in
      let same : r.0 ≡ face = same-cell r.0 face (omega (arith, o.1, h.small)) o.0.low o.0.high k.small k.low k.high (sym r.2 ∙ sym k.is) in
      let inside : In face (closed_cell space (suc dim) cell.number) = subst (λ x. In x (closed_cell space (suc dim) cell.number)) same (In-left (cell_at (suc dim) cell.number ∷ []) r.1) in
      let high : cell.number ≤ count space (suc dim) = subst (λ d. cell.number ≤ count space d) (sym e) h.high in
      let below : IsBelow space (suc dim) cell.number face.dim face.number = (closed_cell-least space (suc dim) cell.number valid h.low high face.dim face.number).0 (In-Contains inside) in
      (subst (λ d. IsBelow space d cell.number face.dim face.number) e below, let less : r.0.dim ≡ face.dim = ap (λ (x : Cell). x.dim) same in omega (arith, o.1))

  back : (valid : IsSpace space) (cell face : Cell) (id face_id : ℕ) → HasId space cell id → HasId space face face_id → (dim : ℕ) → dim ≡ cell.dim → IsBelow space cell.dim cell.number face.dim face.number
      → face.dim < cell.dim → In face_id (faces_of space dim cell.number)
  back valid cell face id face_id h k zero e b l = absurd (omega arith)
  back valid cell face id face_id h k (suc dim) e b l =
      let lower : List Cell = closure space dim (facets_of_all space dim (cell.number ∷ [])) in
      let high : cell.number ≤ count space (suc dim) = subst (λ d. cell.number ≤ count space d) (sym e) h.high in
      let inside : In face (closed_cell space (suc dim) cell.number) =
      Contains-In {x = face} {xs = (closed_cell space (suc dim) cell.number)} ((closed_cell-least space (suc dim) cell.number valid h.low high face.dim face.number).1 (subst (λ d. IsBelow space d cell.number face.dim face.number) (sym e) b)) in
      elim (append-In lower (cell_at (suc dim) cell.number ∷ []) inside) [
        | inl a ↦ subst (λ i. In i (map (id_of space) lower)) k.is (In-map (id_of space) a)
        | inr a ↦ absurd (not-top a)
      ]
    where
      not-top : In face (cell_at (suc dim) cell.number ∷ []) → ⊥
      not-top m = elim (In-cases m) [ inl s ↦ (let d : face.dim ≡ suc dim = ap (λ (x : Cell). x.dim) s in omega arith) | inr n ↦ elim n [ ] ]

pub faces_are_below : FacesAreBelow
faces_are_below space cell face id face_id valid h k =
    let same : faces_at space id ≡ faces_of space cell.dim cell.number = ap (faces_at space) (sym h.is) ∙ faces_at-cell space cell.dim cell.number h.small h.low h.high in (
      λ m. under space valid cell face id face_id h k cell.dim refl (subst (In face_id) same m),
      λ b. subst (In face_id) (sym same) (back space valid cell face id face_id h k cell.dim refl b.0 b.1),
    )
