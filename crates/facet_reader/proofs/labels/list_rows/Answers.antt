use Rattle.std.proofs.Common.{◌<◌, ◌++◌, ◌∷◌, [], ℕ, List, length, take, ap, sym, ◌∙◌, arith, append-nil}
use Rattle.std.proofs.lemmas.Result.{err_from_is_err_and}
use Rattle.gap_text.specs.Nest.{view}
use Rattle.gap_text.specs.declared.nest.Nest.{Nest}
use Rattle.facet_reader.specs.Labels.{row_fault, row_in, rows_in}
use Rattle.facet_reader.proofs.RowLemmas.{first-more, first-at, joined-more, row-fault-list, row-in-list}
use Rattle.facet_reader.proofs.labels.list_rows.Goals as goal

pub loop-index-preserved-in_default : goal.loop-index-preserved-in_default
loop-index-preserved-in_default c =
    let i : ℕ = c.loop-index.index in
    let lt : i < length c.args.items.now = omega (arith, c.len-index-end.ensures, c.loop-index-test.true) in
    record {
      sound = first-more row_fault c.args.items.now i (view c.get.result.now) lt c.get.ensures c.loop-index.invariant.sound (ap (λ (n : Nest). row_fault (view n)) c.in_default.is);
      rows = c.loop-index.invariant.rows
          ∙ sym (joined-more row_in c.args.items.now i (view c.get.result.now) lt c.get.ensures
          ∙ (ap (λ (n : Nest). rows_in (take i c.args.items.now) ++ row_in (view n)) c.in_default.is ∙ append-nil (rows_in (take i c.args.items.now))));
    }

pub returns-in_err-read_row-clause-err : goal.returns-in_err-read_row-clause-err
returns-in_err-read_row-clause-err c =
    let p = err_from_is_err_and c.from_residual.result c.from_residual.ensures.1 in
    let i : ℕ = c.loop-index.index in
    let lt : i < length c.args.items.now = omega (arith, c.len-index-end.ensures, c.loop-index-test.true) in
    rw (p.1, p.2) (λ ne. first-at row_fault c.args.items.now i (view c.get.result.now) c.in_err-read_row.field-0.0 lt c.get.ensures c.loop-index.invariant.sound
    (row-fault-list (view c.get.result.now) c.in-List.place c.in-List.labels (ap view c.in-List.is) ∙ c.in_err-read_row.ensures.err ne))

pub loop-index-preserved : goal.loop-index-preserved
loop-index-preserved c =
    let i : ℕ = c.loop-index.index in
    let lt : i < length c.args.items.now = omega (arith, c.len-index-end.ensures, c.loop-index-test.true) in
    let is = ap view c.in-List.is in
    record {
      sound = first-more row_fault c.args.items.now i (view c.get.result.now) lt c.get.ensures c.loop-index.invariant.sound
          (row-fault-list (view c.get.result.now) c.in-List.place c.in-List.labels is ∙ c.in_ok-read_row.ensures.ok);
      rows = c.in_ok-push.ensures.ok
          ∙ (ap (λ (rs : List (List ℕ)). rs ++ c.deref.result.now ∷ []) c.loop-index.invariant.rows
          ∙ sym (joined-more row_in c.args.items.now i (view c.get.result.now) lt c.get.ensures
          ∙ ap (λ (rs : List (List ℕ)). rows_in (take i c.args.items.now) ++ rs) (row-in-list (view c.get.result.now) c.in-List.place c.in-List.labels is ∙ ap (λ (r : List ℕ). r ∷ []) (sym (c.deref.ensures.value ∙ c.in_ok-read_row.ensures.row)))));
    }
