use Rattle.std.proofs.Common.{◌∙◌, ℕ, sym, ap, rules}
use Rattle.cert_text.specs.Reading.{read_cover}
use Rattle.cert_text.proofs.BodyLemmas.{with-cover, some-covers}
use Rattle.cert_text.proofs.TakingLemmas.{breaks}
use Rattle.cert_text.proofs.cover.read_covers.Goals as goal

pub returns-in_err-read_cover : goal.returns-in_err-read_cover
returns-in_err-read_cover c =
    breaks _ _ _ c.from_residual-in_err-read_cover.result c.in_err-read_cover.field-0.0 (search rules)
    (λ h. some-covers c.args.version c.args.space.now c.args.lines.now c.take_any.new.lines c.in_ok-kind.kind c.in_ok-kind.line.now c.in_ok-kind.ensures.line (search rules)
    ∙ (ap (λ (n : ℕ). with-cover (read_cover c.args.version c.args.space.now n c.take_any.new.lines)) (sym c.number_or_zero.ensures)
    ∙ ap with-cover (c.in_err-read_cover.ensures h)))

pub returns-then-eq-2 : goal.returns-then-eq-2
returns-then-eq-2 c =
    some-covers c.args.version c.args.space.now c.args.lines.now c.take_any.new.lines c.in_ok-kind.kind c.in_ok-kind.line.now c.in_ok-kind.ensures.line (search rules)
    ∙ (ap (λ (n : ℕ). with-cover (read_cover c.args.version c.args.space.now n c.take_any.new.lines)) (sym c.number_or_zero.ensures)
    ∙ ap with-cover c.in_ok-read_cover.ensures)
