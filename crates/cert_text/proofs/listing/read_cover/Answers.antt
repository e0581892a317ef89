use Rattle.std.proofs.Common.{◌∙◌, ℕ, sym, ap}
use Rattle.std.specs.Prelude.{slice_index_or}
use Rattle.std.specs.Option.{option_map}
use Rattle.certificates.specs.WellFormed.{is_between}
use Rattle.cert_lines.specs.Listed.{numbers_in}
use Rattle.cert_lines.specs.Tables.{table_in, if_rows, content, content_of}
use Rattle.cert_text.specs.Reading.{frame}
use Rattle.cert_text.proofs.EntryLemmas.{table-most, table-none, table-some}
use Rattle.cert_text.proofs.listing.read_cover.Goals as goal

pub returns-then-not-is_sheets : goal.returns-then-not-is_sheets
returns-then-not-is_sheets c = λ v h.
    table-most (frame v c.args.columns.now c.args.most) c.args.component c.args.number (slice_index_or (numbers_in c.args.line.now) 0 0) (table_in c.args.line.now 1)
    (ap (is_between 1 c.args.most) (sym c.number_or_zero-sheets.ensures) ∙ (sym c.is_sheets.ensures ∙ c.if-not-is_sheets.true))

pub returns-in-None : goal.returns-in-None
returns-in-None c = λ v h.
    table-none (frame v c.args.columns.now c.args.most) c.args.component c.args.number (slice_index_or (numbers_in c.args.line.now) 0 0) c.columns_at.result (table_in c.args.line.now 1) c.columns_at.ensures
    (sym (ap (λ o. option_map content o) c.in-None.is) ∙ (c.in_ok-table_at.ensures
    ∙ ap (λ (m : ℕ). option_map (content_of m c.columns_at.result) (if_rows c.columns_at.result m (table_in c.args.line.now 1))) c.number_or_zero-sheets.ensures))

pub returns-in-Some : goal.returns-in-Some
returns-in-Some c = λ v.
    table-some (frame v c.args.columns.now c.args.most) c.args.component c.args.number (slice_index_or (numbers_in c.args.line.now) 0 0) c.columns_at.result (table_in c.args.line.now 1) c.in-Some.table c.columns_at.ensures
    (ap (is_between 1 c.args.most) (sym c.number_or_zero-sheets.ensures) ∙ (sym c.is_sheets.ensures ∙ c.if-not-is_sheets.false))
    (sym (ap (λ o. option_map content o) c.in-Some.is) ∙ (c.in_ok-table_at.ensures
    ∙ ap (λ (m : ℕ). option_map (content_of m c.columns_at.result) (if_rows c.columns_at.result m (table_in c.args.line.now 1))) c.number_or_zero-sheets.ensures))
