use Rattle.std.proofs.Common.{◌∙◌, ap, sym, Ok, ℕ, List}
use Rattle.cert_lines.proofs.TakenLemmas.{numbers-taken}
use Rattle.cert_lines.proofs.lines.take_numbers.Goals as goal

pub returns : goal.returns
returns c =
    numbers-taken c.args.version c.args.lines.now c.take.new.lines c.args.kind c.in_ok-line.line.now c.in_ok-line.ensures.line
    ∙ ap (λ (ns : List ℕ). Ok (ns, c.take.new.lines)) (sym c.first_numbers.ensures)
