use Rattle.std.proofs.Common.{◌≡◌, ◌∙◌, ℕ, true, false, List, sym, ap, rules}
use Rattle.cert_lines.specs.Listed.{numbers_in, list_in, if_entries}
use Rattle.cert_text.specs.Reading.{same_place}
use Rattle.cert_text.specs.Taking.{quadruple, place_of}
use Rattle.cert_text.proofs.HomologyReaders.{same_place-is}
use Rattle.cert_text.proofs.ProductLemmas.{product-refused, place-out, low-out, high-out, product-in}
use Rattle.cert_text.proofs.TakingLemmas.{breaks, out_of}
use Rattle.cert_text.proofs.products.read_product.Goals as goal

pub returns-in_err-line : goal.returns-in_err-line
returns-in_err-line c =
    breaks _ _ _ c.from_residual.result c.in_err-line.field-0.0 (search rules)
    (λ h. product-refused c.args.frame.version c.args.frame.modulus c.args.frame.chains c.args.frame.classes.now (place_of c.args.place) c.args.lines.now c.in_err-line.field-0.0 (c.in_err-line.ensures.fault h))

pub returns-then-not-is_at : goal.returns-then-not-is_at
returns-then-not-is_at c = λ h.
    let other : same_place (quadruple (numbers_in c.in_ok-line.line.now)) (place_of c.args.place) ≡ false = ap (λ (ns : List ℕ). same_place (quadruple ns) (place_of c.args.place)) (sym c.first_numbers.ensures) ∙ (sym c.is_at.ensures ∙ c.if-not-is_at.true) in
    place-out c.args.frame.version c.args.frame.modulus c.args.frame.chains c.args.frame.classes.now (place_of c.args.place) c.args.lines.now c.take.new.lines c.in_ok-line.line.now c.in_ok-line.ensures.line other
    ∙ out_of _ _ (sym c.number-number.ensures)

pub returns-in-None : goal.returns-in-None
returns-in-None c = λ h.
    low-out c.args.frame.version c.args.frame.modulus c.args.frame.chains c.args.frame.classes.now (place_of c.args.place) c.args.lines.now c.take.new.lines c.in_ok-line.line.now c.in_ok-line.ensures.line
    (sym c.in-None.is ∙ (c.in_ok-entries_at.ensures ∙ ap (λ (n : ℕ). if_entries c.args.frame.modulus n (list_in c.in_ok-line.line.now 4)) c.len.ensures))
    ∙ out_of _ _ (sym c.number-number.ensures)

pub returns-in-None-2 : goal.returns-in-None-2
returns-in-None-2 c = λ h.
    high-out c.args.frame.version c.args.frame.modulus c.args.frame.chains c.args.frame.classes.now (place_of c.args.place) c.args.lines.now c.take.new.lines c.in_ok-line.line.now c.in_ok-line.ensures.line
    (sym c.in-None-2.is ∙ c.in_ok-entries_behind_bar-in-Some.ensures)
    ∙ out_of _ _ (sym c.number-number.ensures)

pub returns-in-Some-2 : goal.returns-in-Some-2
returns-in-Some-2 c =
    let here : same_place (quadruple (numbers_in c.in_ok-line.line.now)) (place_of c.args.place) ≡ true = ap (λ (ns : List ℕ). same_place (quadruple ns) (place_of c.args.place)) (sym c.first_numbers.ensures) ∙ (sym c.is_at.ensures ∙ c.if-not-is_at.false) in
    product-in c.args.frame.version c.args.frame.modulus c.args.frame.chains c.args.frame.classes.now (place_of c.args.place) c.args.lines.now c.take.new.lines c.in_ok-line.line.now c.in-Some.coefficients c.in-Some-2.bound c.number-number.result c.in_ok-line.ensures.line
    here (same_place-is (quadruple (numbers_in c.in_ok-line.line.now)) (place_of c.args.place) here)
    (sym c.in-Some.is ∙ (c.in_ok-entries_at.ensures ∙ ap (λ (n : ℕ). if_entries c.args.frame.modulus n (list_in c.in_ok-line.line.now 4)) c.len.ensures))
    (sym c.in-Some-2.is ∙ c.in_ok-entries_behind_bar-in-Some.ensures) (sym c.number-number.ensures)
