use Rattle.std.proofs.Common.{◌∙◌, sym, rules}
use Rattle.cert_text.proofs.LayerLemmas.{other-dim, not_rising, is-rising, is-cell}
use Rattle.cert_text.proofs.TakingLemmas.{out_of}
use Rattle.cert_text.proofs.space.read_face.Goals as goal

pub returns-then-number_or_zero-from-clause-read : goal.returns-then-number_or_zero-from-clause-read
returns-then-number_or_zero-from-clause-read c = λ h.
    other-dim c.args.version c.args.dim c.args.below c.args.lines.now c.take.new.lines c.in_ok-line.line.now c.in_ok-line.ensures.line (λ e. c.if-number_or_zero-from.true (c.number_or_zero.ensures ∙ (e ∙ sym c.from.ensures)))
    ∙ out_of _ _ (sym c.number-number.ensures)

pub returns-in-None-clause-read : goal.returns-in-None-clause-read
returns-in-None-clause-read c = λ h.
    not_rising c.args.version c.args.dim c.args.below c.args.lines.now c.take.new.lines c.in_ok-line.line.now c.in_ok-line.ensures.line (sym c.number_or_zero.ensures ∙ (c.if-number_or_zero-from.false ∙ c.from.ensures)) (search rules)
    ∙ out_of _ _ (sym c.number-number.ensures)

pub returns-in-Some-clause-read : goal.returns-in-Some-clause-read
returns-in-Some-clause-read c =
    is-rising c.args.version c.args.dim c.args.below c.args.lines.now c.take.new.lines c.in_ok-line.line.now c.in-Some.facets.items c.in_ok-line.ensures.line (sym c.number_or_zero.ensures ∙ (c.if-number_or_zero-from.false ∙ c.from.ensures)) (search rules)

pub returns-in-Some-clause-cell : goal.returns-in-Some-clause-cell
returns-in-Some-clause-cell c =
    is-cell c.args.version c.args.below c.args.lines.now c.take.new.lines c.in_ok-line.line.now c.in-Some.facets.items c.in_ok-line.ensures.line (search rules)
