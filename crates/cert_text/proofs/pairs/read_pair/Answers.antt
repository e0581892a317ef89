use Rattle.std.proofs.Common.{◌∙◌, sym, ap, rules, Option}
use Rattle.std.specs.Option.{option_map}
use Rattle.face_poset.specs.declared.cells.Pair.{Pair}
use Rattle.cert_text.specs.Taking.{triple_of}
use Rattle.cert_text.proofs.PairLemmas.{pair-fails, pair-out, pair-in}
use Rattle.cert_text.proofs.TakingLemmas.{breaks, out_of}
use Rattle.cert_text.proofs.pairs.read_pair.Goals as goal

pub returns-in_err-numbers : goal.returns-in_err-numbers
returns-in_err-numbers c =
    breaks _ _ _ c.from_residual.result c.in_err-numbers.field-0.0 (search rules) (λ h. pair-fails c.args.version c.args.space.now c.args.lines.now c.in_err-numbers.field-0.0 (c.in_err-numbers.ensures h))

pub returns-in-None : goal.returns-in-None
returns-in-None c = λ h.
    pair-out c.args.version c.args.space.now c.args.lines.now c.take_numbers.new.lines c.in_ok-numbers.numbers c.in_ok-numbers.ensures (sym (ap (λ (o : Option Pair). option_map triple_of o) c.in-None.is) ∙ c.pair_if.ensures)
    ∙ out_of _ _ (sym c.number-number.ensures)

pub returns-in-Some : goal.returns-in-Some
returns-in-Some c =
    pair-in c.args.version c.args.space.now c.args.lines.now c.take_numbers.new.lines c.in_ok-numbers.numbers c.number-number.result c.in-Some.pair c.in_ok-numbers.ensures (sym (ap (λ (o : Option Pair). option_map triple_of o) c.in-Some.is) ∙ c.pair_if.ensures) (sym c.number-number.ensures)
