use Rattle.std.proofs.Common.{◌++◌, ◌∷◌, [], append_assoc, refl, sym, ◌∙◌, decimal, codes}
use Rattle.hap_outside.proofs.CallerLemmas.{gathers_next, gathers_fail, gathers_break}
use Rattle.certificates.specs.Placed.{Cover, table_text}
use Rattle.certificates.specs.Forms.{placed}
use Rattle.certificates.specs.Cert.{rows_of}
use Rattle.certificates.specs.Texts.{line_bytes}
use Rattle.certificates.proofs.PlaceLemmas.{cover-whole}
use Rattle.certificates.proofs.places.put_cover.Goals as goal

pub returns-in_err-put_cover_head-clause-bytes : goal.returns-in_err-put_cover_head-clause-bytes
returns-in_err-put_cover_head-clause-bytes g c =
    gathers_fail _ _ _ _ (codes "cover " ++ (decimal c.args.table.now.sheets ++ codes " ")) ((table_text (rows_of c.args.table.now.sheets c.args.table.now.columns c.args.table.now.cells)) ++ (10 ∷ [])) (line_bytes (placed (Cover c.args.table.now.sheets (rows_of c.args.table.now.sheets c.args.table.now.columns c.args.table.now.cells)))) _ c.from_residual.result c.from_residual.ensures.0 c.in_err-put_cover_head.ensures.bytes (sym (append_assoc (codes "cover " ++ (decimal c.args.table.now.sheets ++ codes " ")) (table_text (rows_of c.args.table.now.sheets c.args.table.now.columns c.args.table.now.cells)) (10 ∷ [])) ∙ cover-whole c.args.table.now.sheets (rows_of c.args.table.now.sheets c.args.table.now.columns c.args.table.now.cells))

pub returns-in_err-put_table-clause-bytes : goal.returns-in_err-put_table-clause-bytes
returns-in_err-put_table-clause-bytes g c =
    gathers_break _ _ _ _ _ _ (codes "cover " ++ (decimal c.args.table.now.sheets ++ codes " ")) (table_text (rows_of c.args.table.now.sheets c.args.table.now.columns c.args.table.now.cells)) (10 ∷ []) (line_bytes (placed (Cover c.args.table.now.sheets (rows_of c.args.table.now.sheets c.args.table.now.columns c.args.table.now.cells)))) _ _ c.from_residual-in_err-put_table.result c.in_ok-put_cover_head.ensures.bytes c.from_residual-in_err-put_table.ensures.0 c.in_err-put_table.ensures.bytes (cover-whole c.args.table.now.sheets (rows_of c.args.table.now.sheets c.args.table.now.columns c.args.table.now.cells))

pub returns-clause-bytes : goal.returns-clause-bytes
returns-clause-bytes g c =
    gathers_next _ _ _ _ _ _ ((codes "cover " ++ (decimal c.args.table.now.sheets ++ codes " ")) ++ (table_text (rows_of c.args.table.now.sheets c.args.table.now.columns c.args.table.now.cells))) (10 ∷ []) (line_bytes (placed (Cover c.args.table.now.sheets (rows_of c.args.table.now.sheets c.args.table.now.columns c.args.table.now.cells)))) _ c.put_text.result (cover-whole c.args.table.now.sheets (rows_of c.args.table.now.sheets c.args.table.now.columns c.args.table.now.cells)) (gathers_next _ _ _ _ _ _ _ _ _ _ _ refl c.in_ok-put_cover_head.ensures.bytes c.in_ok-put_table.ensures.bytes) c.put_text.ensures.bytes
