use Rattle.std.proofs.Common.{◌++◌, append_assoc, refl, sym, ◌∙◌}
use Rattle.hap_outside.proofs.CallerLemmas.{gathers_next, gathers_fail, gathers_break}
use Rattle.certificates.proofs.Sequences.{four-parts}
use Rattle.certificates.specs.declared.kind.Kind.TheVariants as kind
use Rattle.certificates.specs.Placed.{Sheets}
use Rattle.certificates.specs.Forms.{placed}
use Rattle.certificates.specs.Cert.{spot_of, cover_of}
use Rattle.certificates.specs.Texts.{line_bytes}
use Rattle.certificates.specs.Written.{pairs_text, four_line, components_text, cover_front_text}
use Rattle.certificates.proofs.cover.put_part.Goals as goal

pub returns-in_err-put_pairs-clause-bytes : goal.returns-in_err-put_pairs-clause-bytes
returns-in_err-put_pairs-clause-bytes g c =
    gathers_fail _ _ _ _ (pairs_text c.args.part.now.pairs) ((four_line kind.Critical c.args.part.now.critical) ++ ((components_text c.args.version c.args.part.now.columns) ++ (line_bytes (placed (Sheets c.args.part.now.sheets (spot_of c.args.part.now.from)))))) (cover_front_text c.args.version (cover_of c.args.part.now)) _ c.from_residual.result c.from_residual.ensures.0 c.in_err-put_pairs.ensures.bytes (sym (four-parts (pairs_text c.args.part.now.pairs) (four_line kind.Critical c.args.part.now.critical) (components_text c.args.version c.args.part.now.columns) (line_bytes (placed (Sheets c.args.part.now.sheets (spot_of c.args.part.now.from))))) ∙ four-parts (pairs_text c.args.part.now.pairs) (four_line kind.Critical c.args.part.now.critical) (components_text c.args.version c.args.part.now.columns) (line_bytes (placed (Sheets c.args.part.now.sheets (spot_of c.args.part.now.from)))))

pub returns-in_err-put_four-clause-bytes : goal.returns-in_err-put_four-clause-bytes
returns-in_err-put_four-clause-bytes g c =
    gathers_break _ _ _ _ _ _ (pairs_text c.args.part.now.pairs) (four_line kind.Critical c.args.part.now.critical) ((components_text c.args.version c.args.part.now.columns) ++ (line_bytes (placed (Sheets c.args.part.now.sheets (spot_of c.args.part.now.from))))) (cover_front_text c.args.version (cover_of c.args.part.now)) _ _ c.from_residual-in_err-put_four.result c.in_ok-put_pairs.ensures.bytes c.from_residual-in_err-put_four.ensures.0 c.in_err-put_four.ensures.bytes (sym (append_assoc ((pairs_text c.args.part.now.pairs) ++ (four_line kind.Critical c.args.part.now.critical)) (components_text c.args.version c.args.part.now.columns) (line_bytes (placed (Sheets c.args.part.now.sheets (spot_of c.args.part.now.from))))) ∙ four-parts (pairs_text c.args.part.now.pairs) (four_line kind.Critical c.args.part.now.critical) (components_text c.args.version c.args.part.now.columns) (line_bytes (placed (Sheets c.args.part.now.sheets (spot_of c.args.part.now.from)))))

pub returns-in_err-put_components-clause-bytes : goal.returns-in_err-put_components-clause-bytes
returns-in_err-put_components-clause-bytes g c =
    gathers_break _ _ _ _ _ _ ((pairs_text c.args.part.now.pairs) ++ (four_line kind.Critical c.args.part.now.critical)) (components_text c.args.version c.args.part.now.columns) (line_bytes (placed (Sheets c.args.part.now.sheets (spot_of c.args.part.now.from)))) (cover_front_text c.args.version (cover_of c.args.part.now)) _ _ c.from_residual-in_err-put_components.result (gathers_next _ _ _ _ _ _ _ _ _ _ _ refl c.in_ok-put_pairs.ensures.bytes c.in_ok-put_four.ensures.bytes) c.from_residual-in_err-put_components.ensures.0 c.in_err-put_components.ensures.bytes (four-parts (pairs_text c.args.part.now.pairs) (four_line kind.Critical c.args.part.now.critical) (components_text c.args.version c.args.part.now.columns) (line_bytes (placed (Sheets c.args.part.now.sheets (spot_of c.args.part.now.from)))))

pub returns-clause-bytes : goal.returns-clause-bytes
returns-clause-bytes g c =
    gathers_next _ _ _ _ _ _ (((pairs_text c.args.part.now.pairs) ++ (four_line kind.Critical c.args.part.now.critical)) ++ (components_text c.args.version c.args.part.now.columns)) (line_bytes (placed (Sheets c.args.part.now.sheets (spot_of c.args.part.now.from)))) (cover_front_text c.args.version (cover_of c.args.part.now)) _ c.put_sheets.result (four-parts (pairs_text c.args.part.now.pairs) (four_line kind.Critical c.args.part.now.critical) (components_text c.args.version c.args.part.now.columns) (line_bytes (placed (Sheets c.args.part.now.sheets (spot_of c.args.part.now.from))))) (gathers_next _ _ _ _ _ _ _ _ _ _ _ refl (gathers_next _ _ _ _ _ _ _ _ _ _ _ refl c.in_ok-put_pairs.ensures.bytes c.in_ok-put_four.ensures.bytes) c.in_ok-put_components.ensures.bytes) c.put_sheets.ensures.bytes
