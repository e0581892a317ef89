use Rattle.std.proofs.Common.{◌∙◌, sym, refl}
use Rattle.cert_lines.proofs.TableLemmas.{cells-go}
use Rattle.cert_lines.proofs.placed.are_cells.Goals as goal

pub cells-preserved : goal.cells-preserved
cells-preserved c =
    cells-go c.cells.rest.now _ c.in-len2-up.len_at_least c.if-comma-ne44.false (sym c.is_digit.ensures ∙ c.if-not-is_digit.false) refl ∙ c.cells.invariant
