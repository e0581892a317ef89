use Rattle.std.proofs.Common.{◌∙◌, sym, refl}
use Rattle.sheet_tables.proofs.PositionLemmas.{cells-step}
use Rattle.sheet_tables.proofs.position.read_cells.Goals as goal

pub cells-preserved : goal.cells-preserved
cells-preserved c =
    cells-step c.args.text.now c.cells.cells.items c.push.new.self.items c.cells.rest.now _ c.in_ok-ok_or.field-0 c.cells.invariant c.in-len2-up.len_at_least (sym c.digit.ensures ∙ c.in_ok-ok_or.ensures.ok_part) c.if-comma-ne44.false refl c.in_ok-push.ensures.items
