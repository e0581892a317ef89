use Rattle.std.proofs.Common.{◌≢◌, ℕ, List, length, arith, ap, ◌∙◌, sym, Result, Ok}
use Rattle.std.specs.List.{list_all, range_with_len}
use Rattle.std.proofs.lemmas.Result.{err_from_is_err_and}
use Rattle.gap_text.specs.Nest.{view}
use Rattle.gap_text.specs.declared.nest.Nest.{Nest}
use Rattle.array_values.specs.declared.fault.ArrayFault.{ArrayFault}
use Rattle.array_values.specs.Answers.{and_then}
use Rattle.array_values.specs.Arcs.{is_row, is_twice, counted, arcs_of}
use Rattle.array_values.proofs.Rows.{arcs-are}
use Rattle.array_values.proofs.arcs.read_arcs.Goals as goal

pub returns-in_err-rows-clause-fault : goal.returns-in_err-rows-clause-fault
returns-in_err-rows-clause-fault c =
    let p = err_from_is_err_and c.from_residual.result c.from_residual.ensures.1 in
    let some : length c.in-List.items ≢ 0 = omega (arith, c.len.ensures, c.if-len-eq0.false) in
    rw (p.1, p.2) (λ ne. ap (λ (n : Nest). arcs_of (view n)) c.in-List.is ∙ (arcs-are c.in-List.place c.in-List.items some
    ∙ ap (λ (r : Result (List (ℕ × ℕ)) ArrayFault). and_then r counted) (c.in_err-rows.ensures.err ne)))

pub check_columns-requires-clause-few : goal.check_columns-requires-clause-few
check_columns-requires-clause-few c = omega (arith, ap (λ (rows : List (ℕ × ℕ)). length rows) c.deref.ensures.value, c.in_ok-rows.ensures.len, c.len.ensures)

pub check_columns-requires-clause-rows : goal.check_columns-requires-clause-rows
check_columns-requires-clause-rows c =
    ap (λ (rows : List (ℕ × ℕ)). list_all (is_row (length rows)) rows) c.deref.ensures.value
    ∙ (ap (λ (n : ℕ). list_all (is_row n) c.in_ok-rows.rows.items) c.in_ok-rows.ensures.len ∙ c.in_ok-rows.ensures.pairs)

pub returns-in_err-check_columns-clause-fault : goal.returns-in_err-check_columns-clause-fault
returns-in_err-check_columns-clause-fault c =
    let p = err_from_is_err_and c.from_residual-in_err-check_columns.result c.from_residual-in_err-check_columns.ensures.1 in
    let some : length c.in-List.items ≢ 0 = omega (arith, c.len.ensures, c.if-len-eq0.false) in
    rw (p.1, p.2) (λ ne. ap (λ (n : Nest). arcs_of (view n)) c.in-List.is ∙ (arcs-are c.in-List.place c.in-List.items some
    ∙ (ap (λ (r : Result (List (ℕ × ℕ)) ArrayFault). and_then r counted) c.in_ok-rows.ensures.ok ∙ (ap counted (sym c.deref.ensures.value) ∙ c.in_err-check_columns.ensures.err ne))))

pub returns-clause-arcs : goal.returns-clause-arcs
returns-clause-arcs c =
    let some : length c.in-List.items ≢ 0 = omega (arith, c.len.ensures, c.if-len-eq0.false) in
    ap (λ (n : Nest). arcs_of (view n)) c.in-List.is ∙ (arcs-are c.in-List.place c.in-List.items some
    ∙ (ap (λ (r : Result (List (ℕ × ℕ)) ArrayFault). and_then r counted) c.in_ok-rows.ensures.ok ∙ (ap counted (sym c.deref.ensures.value) ∙ (c.in_ok-check_columns.ensures.ok ∙ ap (λ (rows : List (ℕ × ℕ)). Ok rows) c.deref.ensures.value))))

pub returns-clause-shape : goal.returns-clause-shape
returns-clause-shape c =
    record {
      pairs = ap (λ (n : ℕ). list_all (is_row n) c.in_ok-rows.rows.items) c.in_ok-rows.ensures.len ∙ c.in_ok-rows.ensures.pairs;
      columns = ap (λ (rows : List (ℕ × ℕ)). list_all (is_twice rows) (range_with_len 1 (length rows))) (sym c.deref.ensures.value) ∙ c.in_ok-check_columns.ensures.twice;
    }
