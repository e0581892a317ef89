use Rattle.std.proofs.Common.{◌≡◌, ◌<◌, ◌+◌, ℕ, List, length, take, sym, ◌∙◌, ap, arith, [], ◌++◌, ◌∷◌}
use Rattle.std.proofs.lemmas.List.{take_all}
use Rattle.std.proofs.lemmas.Result.{err_from_is_err_and}
use Rattle.gap_text.specs.Nest.{view}
use Rattle.gap_text.specs.declared.nest.Nest.{Nest}
use Rattle.gap_text.specs.Value.{Value}
use Rattle.face_poset.specs.Reader.{cell_from, layer_from}
use Rattle.face_poset.specs.Tops.{inner}
use Rattle.face_poset.proofs.Each.{each-more, each-fault}
use Rattle.face_poset.proofs.Values.{items-values}
use Rattle.face_poset.proofs.reader.read_cells.Goals as goal

-- the cell with the number i + 1
at_next : (dim below i : ℕ) (v : Value) → cell_from dim below (1 + i) v ≡ cell_from dim below (i + 1) v
at_next dim below i v = ap (λ (n : ℕ). cell_from dim below n v) (let e : 1 + i ≡ i + 1 = omega arith in e)

pub returns-in_err-facets-clause-fault : goal.returns-in_err-facets-clause-fault
returns-in_err-facets-clause-fault c =
    let p = err_from_is_err_and c.from_residual.result c.from_residual.ensures.1 in
    let i : ℕ = c.loop-index.index in
    let lt : i < length c.in-List.items = omega (arith, c.len-index-end.ensures, c.loop-index-test.true) in
    rw (p.1, p.2) (λ ne. ap (λ (n : Nest). layer_from c.args.dim c.args.below (inner (view n))) c.in-List.is
    ∙ (ap (layer_from c.args.dim c.args.below) (items-values c.in-List.items)
    ∙ each-fault 1 (cell_from c.args.dim c.args.below) c.in-List.items i (view c.get.result.now) c.loop-index.cells c.in_err-facets.field-0.0 lt c.get.ensures c.loop-index.invariant
    (at_next c.args.dim c.args.below i (view c.get.result.now) ∙ c.in_err-facets.ensures.err ne)))

pub loop-index-preserved : goal.loop-index-preserved
loop-index-preserved c =
    let i : ℕ = c.loop-index.index in
    let lt : i < length c.in-List.items = omega (arith, c.len-index-end.ensures, c.loop-index-test.true) in
    each-more 1 (cell_from c.args.dim c.args.below) c.in-List.items i (view c.get.result.now) c.loop-index.cells c.push.new.self c.in_ok-facets.facets.items lt c.get.ensures c.loop-index.invariant
    (at_next c.args.dim c.args.below i (view c.get.result.now) ∙ c.in_ok-facets.ensures.ok)
    (c.in_ok-push.ensures.ok ∙ ap (λ (fs : List ℕ). c.loop-index.cells ++ fs ∷ []) c.as_slice.ensures)

pub returns-clause-cells : goal.returns-clause-cells
returns-clause-cells c =
    let all : take c.loop-index.index c.in-List.items ≡ c.in-List.items = take_all c.loop-index.index c.in-List.items (omega (arith, c.len-index-end.ensures, c.loop-index-test.false)) in
    ap (λ (n : Nest). layer_from c.args.dim c.args.below (inner (view n))) c.in-List.is
    ∙ (ap (layer_from c.args.dim c.args.below) (items-values c.in-List.items ∙ sym all) ∙ c.loop-index.invariant)
