use Rattle.std.proofs.Common.{◌++◌, ◌∷◌, [], append_assoc, refl, sym, ◌∙◌, take, drop, ◌-◌, length}
use Rattle.hap_outside.proofs.CallerLemmas.{gathers_next, gathers_fail, gathers_break}
use Rattle.certificates.specs.Placed.{row_text, rows_text}
use Rattle.certificates.specs.Cert.{cut_rows}
use Rattle.certificates.proofs.PlaceLemmas.{rest-rows}
use Rattle.certificates.proofs.places.+put_rows.Goals as goal

pub returns-in_err-put_row-clause-bytes : goal.returns-in_err-put_row-clause-bytes
returns-in_err-put_row-clause-bytes g t c =
    gathers_fail _ _ _ _ (row_text (take c.args.columns c.args.cells.now)) ((47 ∷ []) ++ (rows_text (cut_rows (c.args.sheets - 1) c.args.columns (take (length c.args.cells.now - c.args.columns) (drop c.args.columns c.args.cells.now))))) (rows_text (cut_rows c.args.sheets c.args.columns c.args.cells.now)) _ c.from_residual.result c.from_residual.ensures.0 c.in_err-put_row.ensures.bytes (sym (append_assoc (row_text (take c.args.columns c.args.cells.now)) (47 ∷ []) (rows_text (cut_rows (c.args.sheets - 1) c.args.columns (take (length c.args.cells.now - c.args.columns) (drop c.args.columns c.args.cells.now))))) ∙ rest-rows c.args.sheets c.args.columns c.args.cells.now c.requires.some c.if-sheets-eq1.false)

pub returns-in_err-put_text-clause-bytes : goal.returns-in_err-put_text-clause-bytes
returns-in_err-put_text-clause-bytes g t c =
    gathers_break _ _ _ _ _ _ (row_text (take c.args.columns c.args.cells.now)) (47 ∷ []) (rows_text (cut_rows (c.args.sheets - 1) c.args.columns (take (length c.args.cells.now - c.args.columns) (drop c.args.columns c.args.cells.now)))) (rows_text (cut_rows c.args.sheets c.args.columns c.args.cells.now)) _ _ c.from_residual-in_err-put_text.result c.in_ok-put_row.ensures.bytes c.from_residual-in_err-put_text.ensures.0 c.in_err-put_text.ensures.bytes (rest-rows c.args.sheets c.args.columns c.args.cells.now c.requires.some c.if-sheets-eq1.false)

pub returns-clause-bytes : goal.returns-clause-bytes
returns-clause-bytes g t c =
    gathers_next _ _ _ _ _ _ ((row_text (take c.args.columns c.args.cells.now)) ++ (47 ∷ [])) (rows_text (cut_rows (c.args.sheets - 1) c.args.columns (take (length c.args.cells.now - c.args.columns) (drop c.args.columns c.args.cells.now)))) (rows_text (cut_rows c.args.sheets c.args.columns c.args.cells.now)) _ c.put_rows.result (rest-rows c.args.sheets c.args.columns c.args.cells.now c.requires.some c.if-sheets-eq1.false) (gathers_next _ _ _ _ _ _ _ _ _ _ _ refl c.in_ok-put_row.ensures.bytes c.in_ok-put_text.ensures.bytes) c.put_rows.ensures.bytes
