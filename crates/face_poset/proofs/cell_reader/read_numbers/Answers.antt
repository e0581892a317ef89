use Rattle.std.proofs.Common.{◌≡◌, ◌<◌, ◌∷◌, ℕ, List, length, take, sym, ◌∙◌, ap, arith, refl, []}
use Rattle.std.proofs.lemmas.Result.{err_from_is_err_and}
use Rattle.std.proofs.lemmas.List.{take_all}
use Rattle.gap_text.specs.Nest.{view}
use Rattle.gap_text.specs.declared.nest.Nest.{Nest}
use Rattle.face_poset.specs.Reader.{each_from, as_number, as_cell}
use Rattle.face_poset.proofs.Each.{each-more, each-fault}
use Rattle.face_poset.proofs.Values.{as_cell-is}
use Rattle.face_poset.proofs.cell_reader.read_numbers.Goals as goal

pub returns-in_err-count-in-List-clause-err : goal.returns-in_err-count-in-List-clause-err
returns-in_err-count-in-List-clause-err c =
    let p = err_from_is_err_and c.from_residual.result c.from_residual.ensures.1 in
    let some : 0 < length c.in-List.items = omega (arith, c.len.ensures, c.if-len-eq0.false) in
    rw (p.1, p.2) (λ _. ap (λ (n : Nest). as_cell (view n)) c.in-List.is ∙ (as_cell-is c.in-List.place c.in-List.items some
    ∙ each-fault 0 (λ _ w. as_number w) c.in-List.items 0 (view c.get.result.now) [] c.in_err-count-in-List.field-0.0 some c.get.ensures refl (sym c.in_err-count-in-List.ensures)))

pub returns-in_err-number_of-in-List-clause-err : goal.returns-in_err-number_of-in-List-clause-err
returns-in_err-number_of-in-List-clause-err c =
    let p = err_from_is_err_and c.from_residual-in_err-number_of-in-List.result c.from_residual-in_err-number_of-in-List.ensures.1 in
    let lt : c.loop-index.index < length c.in-List.items = omega (arith, c.len-index-end.ensures, c.loop-index-test.true) in
    rw (p.1, p.2) (λ _. ap (λ (n : Nest). as_cell (view n)) c.in-List.is ∙ (as_cell-is c.in-List.place c.in-List.items (omega arith)
    ∙ each-fault 0 (λ _ w. as_number w) c.in-List.items c.loop-index.index (view c.get-in-loop-index.result.now) (c.in_ok-count-in-List.count ∷ c.loop-index.numbers.items) c.in_err-number_of-in-List.field-0.0
    lt c.get-in-loop-index.ensures c.loop-index.invariant (sym c.in_err-number_of-in-List.ensures)))

pub loop-index-preserved : goal.loop-index-preserved
loop-index-preserved c =
    let lt : c.loop-index.index < length c.in-List.items = omega (arith, c.len-index-end.ensures, c.loop-index-test.true) in
    each-more 0 (λ _ w. as_number w) c.in-List.items c.loop-index.index (view c.get-in-loop-index.result.now) (c.in_ok-count-in-List.count ∷ c.loop-index.numbers.items)
    (c.in_ok-count-in-List.count ∷ c.push.new.self.items) c.in_ok-number_of-in-List.field-0 lt c.get-in-loop-index.ensures c.loop-index.invariant (sym c.in_ok-number_of-in-List.ensures)
    (ap (λ (ns : List ℕ). c.in_ok-count-in-List.count ∷ ns) c.in_ok-push-in-List.ensures.ok)

pub returns-after-loop-index-clause-ok : goal.returns-after-loop-index-clause-ok
returns-after-loop-index-clause-ok c =
    let some : 0 < length c.in-List.items = omega (arith, c.len.ensures, c.if-len-eq0.false) in
    let all : take c.loop-index.index c.in-List.items ≡ c.in-List.items = take_all c.loop-index.index c.in-List.items (omega (arith, c.len-index-end.ensures, c.loop-index-test.false)) in
    ap (λ (n : Nest). as_cell (view n)) c.in-List.is ∙ (as_cell-is c.in-List.place c.in-List.items some
    ∙ (ap (each_from 0 (λ _ w. as_number w)) (sym all) ∙ c.loop-index.invariant))
