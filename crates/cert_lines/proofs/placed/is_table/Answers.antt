use Rattle.std.proofs.Common.{◌∙◌, sym, None, Some, option_map}
use Rattle.cert_lines.specs.Pieces.{pieces_left}
use Rattle.cert_lines.proofs.TableLemmas.{table-widths}
use Rattle.cert_lines.proofs.placed.is_table.Goals as goal

pub returns-in-None : goal.returns-in-None
returns-in-None c =
    table-widths c.args.word.now c.cut.result.0.now (pieces_left 47 (option_map (λ s. s.now) c.cut.result.1)) None (sym c.is_same.ensures ∙ c.if-is_same.false) c.cut.ensures.pieces (sym c.row_width.ensures ∙ c.in-None.is)

pub returns-in-Some : goal.returns-in-Some
returns-in-Some c =
    c.are_rows.ensures
    ∙ table-widths c.args.word.now c.cut.result.0.now (pieces_left 47 (option_map (λ s. s.now) c.cut.result.1)) (Some c.in-Some.width) (sym c.is_same.ensures ∙ c.if-is_same.false) c.cut.ensures.pieces (sym c.row_width.ensures ∙ c.in-Some.is)
