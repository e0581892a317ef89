use Rattle.std.proofs.Common.{◌+◌, ap, sym, ◌∙◌, arith}
use Rattle.sheet_laws.specs.Permutations.{back}
use Rattle.sheet_laws.specs.Labellings.{label}
use Rattle.sheet_laws.proofs.CallerLemmas.{back-of-at, at-of-back, back_turn}
use Rattle.cover_space.proofs.closed.sheet_before.Goals as goal

pub returns-then-of-sheet : goal.returns-then-of-sheet
returns-then-of-sheet c =
    sym
    (ap (back (label c.args.labels.now.labels c.args.edge)) (sym c.if-of-sheet.true ∙ c.of.ensures.sheet)
    ∙ back-of-at c.args.labels.now.sheets (label c.args.labels.now.labels c.args.edge) c.requires.permutes (c.loop-index.index + 1) (omega arith, omega (arith, c.loop-index-test.true, c.sheets-index-end.ensures.sheets)))

pub unreachable-requires : goal.unreachable-requires
unreachable-requires c =
    let w = (back_turn c.args.labels.now.sheets (label c.args.labels.now.labels c.args.edge) c.requires.permutes).into c.args.sheet c.requires.sheet in
    c.loop-index.invariant (back (label c.args.labels.now.labels c.args.edge) c.args.sheet) w.0 (omega (arith, w.1, c.loop-index-test.false, c.sheets-index-end.ensures.sheets))
    (at-of-back c.args.labels.now.sheets (label c.args.labels.now.labels c.args.edge) c.requires.permutes c.args.sheet c.requires.sheet)
