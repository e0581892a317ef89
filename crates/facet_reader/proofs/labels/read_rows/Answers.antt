use Rattle.std.proofs.Common.{ℕ, List, ap, sym, ◌∙◌, Option, Some, None, Ok}
use Rattle.std.proofs.lemmas.Result.{err_from_is_err_and}
use Rattle.gap_text.specs.Nest.{view}
use Rattle.facet_reader.specs.declared.fault.FacetFault.{FacetFault}
use Rattle.facet_reader.specs.Labels.{unless_fault, rows_in}
use Rattle.facet_reader.proofs.RowLemmas.{rows-list, shape-first, empty-next, labels-last}
use Rattle.facet_reader.proofs.labels.read_rows.Goals as goal

pub returns-in-Some-clause-fault : goal.returns-in-Some-clause-fault
returns-in-Some-clause-fault c =
    λ _. rows-list (view c.args.nest.now) c.in-List.place c.in-List.items (ap view c.in-List.is)
    ∙ ap (λ (o : Option FacetFault). unless_fault o (rows_in c.in-List.items)) (shape-first c.in-List.items c.in-Some.place (sym c.find_shape.ensures ∙ c.in-Some.is))

pub returns-then-len-eq0-clause-fault : goal.returns-then-len-eq0-clause-fault
returns-then-len-eq0-clause-fault c =
    λ _. rows-list (view c.args.nest.now) c.in-List.place c.in-List.items (ap view c.in-List.is)
    ∙ ap (λ (o : Option FacetFault). unless_fault o (rows_in c.in-List.items)) (empty-next c.in-List.items (sym c.find_shape.ensures ∙ c.in_default.is) (sym c.len.ensures ∙ c.if-len-eq0.true))

pub returns-in_err-rows-in-List-clause-fault : goal.returns-in_err-rows-in-List-clause-fault
returns-in_err-rows-in-List-clause-fault c =
    let p = err_from_is_err_and c.from_residual.result c.from_residual.ensures.1 in
    rw (p.1, p.2) (λ ne. rows-list (view c.args.nest.now) c.in-List.place c.in-List.items (ap view c.in-List.is)
    ∙ ap (λ (o : Option FacetFault). unless_fault o (rows_in c.in-List.items))
    (labels-last c.in-List.items (Some c.in_err-rows-in-List.field-0.0) (sym c.find_shape.ensures ∙ c.in_default.is) (λ e. c.if-len-eq0.false (c.len.ensures ∙ e)) (c.in_err-rows-in-List.ensures.err ne)))

pub returns-in_ok-rows-in-List-clause-rows : goal.returns-in_ok-rows-in-List-clause-rows
returns-in_ok-rows-in-List-clause-rows c =
    rows-list (view c.args.nest.now) c.in-List.place c.in-List.items (ap view c.in-List.is)
    ∙ (ap (λ (o : Option FacetFault). unless_fault o (rows_in c.in-List.items))
    (labels-last c.in-List.items None (sym c.find_shape.ensures ∙ c.in_default.is) (λ e. c.if-len-eq0.false (c.len.ensures ∙ e)) c.in_ok-rows-in-List.ensures.ok)
    ∙ ap (λ (rows : List (List ℕ)). Ok rows) (sym c.in_ok-rows-in-List.ensures.rows))
