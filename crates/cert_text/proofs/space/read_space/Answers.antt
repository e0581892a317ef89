use Rattle.std.proofs.Common.{◌∙◌, sym, ap, rules}
use Rattle.certificates.specs.declared.kind.Kind.TheVariants as kind
use Rattle.cert_text.specs.Picks.{pick_cells}
use Rattle.cert_text.specs.Reading.{cells_fit, read_faces}
use Rattle.cert_lines.specs.Readers.{and_then}
use Rattle.cert_text.proofs.TakingLemmas.{breaks, continues, fits-line, unfit-line, fails-line, out_of, cells-pick}
use Rattle.cert_text.proofs.space.read_space.Goals as goal

pub returns-in_err-cells : goal.returns-in_err-cells
returns-in_err-cells c =
    breaks _ _ _ c.from_residual.result c.in_err-cells.field-0.0 (search rules)
    (λ h. ap (λ r. and_then r (λ a. read_faces c.args.version a.0 a.1)) (fails-line c.args.version c.args.lines.now kind.Cells c.in_err-cells.field-0.0 pick_cells (λ ns. ns) cells_fit cells-pick (c.in_err-cells.ensures h)))

pub returns-then-not-are_cells : goal.returns-then-not-are_cells
returns-then-not-are_cells c = λ h.
    ap (λ r. and_then r (λ a. read_faces c.args.version a.0 a.1)) (unfit-line c.args.version c.args.lines.now c.take_numbers.new.lines kind.Cells c.in_ok-cells.cells pick_cells (λ ns. ns) cells_fit cells-pick (sym c.are_cells.ensures ∙ c.if-not-are_cells.true) c.in_ok-cells.ensures)
    ∙ out_of _ _ (sym c.number-number.ensures)

pub returns : goal.returns
returns c =
    continues _ _ _ c.read_faces.new.lines c.read_faces.result
    (ap (λ r. and_then r (λ a. read_faces c.args.version a.0 a.1)) (fits-line c.args.version c.args.lines.now c.take_numbers.new.lines kind.Cells c.in_ok-cells.cells pick_cells (λ ns. ns) cells_fit cells-pick (sym c.are_cells.ensures ∙ c.if-not-are_cells.false) c.in_ok-cells.ensures))
    c.read_faces.ensures
