use Rattle.std.proofs.Common.{◌≡◌, ◌≤◌, ◌<◌, ℕ, List, length, get_or, ap, subst, sym, ◌∙◌, arith}
use Rattle.face_poset.specs.declared.cells.Cell.{Cell}
use Rattle.face_poset.specs.Below.{closed_cell}
use Rattle.face_poset.specs.Poset.{count}
use Rattle.order_complex.proofs.FaceIds.{closed_cell-at}
use Rattle.order_complex.proofs.faces.face_ids.Goals as goal

-- a cell of the list is a cell of the space
cell_is_of : (space : List (List (List ℕ))) (dim n i : ℕ) (x : Cell) (closed : List Cell) → 1 ≤ n → n ≤ count space dim → dim ≤ 3 → closed ≡ closed_cell space dim n → i < length closed → x ≡ get_or closed i x → (x.dim ≤ 3) × (x.number ≤ count space x.dim)
cell_is_of space dim n i x closed low high small e l is =
    let lt : i < length (closed_cell space dim n) = subst (λ (cs : List Cell). i < length cs) e l in
    let at = closed_cell-at space dim n i x low high lt in
    let same : get_or (closed_cell space dim n) i x ≡ x = sym (is ∙ ap (λ (cs : List Cell). get_or cs i x) e) in
    subst (λ (y : Cell). (y.dim ≤ 3) × (y.number ≤ count space y.dim)) same (omega (arith, at.1), at.0.high)

pub id_of_cell-requires-clause-dim : goal.id_of_cell-requires-clause-dim
id_of_cell-requires-clause-dim c =
    (cell_is_of c.args.space.now c.args.dim c.args.number c.loop-index.index c.get.result c.in_ok-closed.closed c.requires.first c.requires.last c.requires.dim c.in_ok-closed.ensures (omega (arith, c.len-index-end.ensures)) c.get.ensures).0

pub id_of_cell-requires-clause-last : goal.id_of_cell-requires-clause-last
id_of_cell-requires-clause-last c =
    (cell_is_of c.args.space.now c.args.dim c.args.number c.loop-index.index c.get.result c.in_ok-closed.closed c.requires.first c.requires.last c.requires.dim c.in_ok-closed.ensures (omega (arith, c.len-index-end.ensures)) c.get.ensures).1
