use Rattle.std.proofs.Common.{◌≡◌, ℕ, List, sym, ◌∙◌, ap, Ok, Some, slice_get, arith, []}
use Rattle.std.proofs.lemmas.Result.{MatchResult-weaker}
use Rattle.gap_text.specs.Nest.{view}
use Rattle.gap_text.specs.Value.{Value}
use Rattle.face_poset.specs.Reader.{layer_from, cells_in}
use Rattle.face_poset.specs.Tops.{inner, kept}
use Rattle.face_poset.proofs.LayerLemmas.{cells-of, no-cells}
use Rattle.face_poset.proofs.reader.read_layer.Goals as goal

-- the layer that was read
same : (tops : List Value) (dim below index : ℕ) (v : Value) → index ≡ dim → slice_get tops index ≡ Some v → layer_from dim below (cells_in (kept tops) dim) ≡ layer_from dim below (inner v)
same tops dim below index v e h = ap (layer_from dim below) (cells-of tops dim v (ap (slice_get tops) (sym e) ∙ h))

pub returns-then-index-len-clause-cells : goal.returns-then-index-len-clause-cells
returns-then-index-len-clause-cells c =
    MatchResult-weaker c.read_cells.result c.read_cells.ensures.cells (λ cells h. same c.args.tops.now c.args.dim c.args.below c.from-index.result (view c.get.result.now) c.from-index.ensures c.get.ensures ∙ h) (λ _ u. u)

pub returns-then-index-len-clause-fault : goal.returns-then-index-len-clause-fault
returns-then-index-len-clause-fault c =
    MatchResult-weaker c.read_cells.result c.read_cells.ensures.fault (λ _ u. u) (λ fault h ne. same c.args.tops.now c.args.dim c.args.below c.from-index.result (view c.get.result.now) c.from-index.ensures c.get.ensures ∙ h ne)

pub returns-else-index-len-clause-cells : goal.returns-else-index-len-clause-cells
returns-else-index-len-clause-cells c =
    let none : cells_in (kept c.args.tops.now) c.args.dim ≡ [] = no-cells c.args.tops.now c.args.dim (omega (arith, c.len.ensures, c.from-index.ensures, c.if-index-len.false)) in
    ap (layer_from c.args.dim c.args.below) none ∙ ap (λ (cs : List (List ℕ)). Ok cs) (sym c.new.ensures)
