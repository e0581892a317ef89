use Rattle.std.proofs.Common.{◌+◌, ◌*◌, ◌∙◌, ap, sym, eqb, ℕ}
use Rattle.cert_text.proofs.ProductLemmas.{length-order}
use Rattle.cert_text.proofs.products.is_count.Goals as goal

pub returns : goal.returns
returns c =
    (λ i. eqb (c.from.ensures i) (c.from-2.ensures i * (c.from-3.ensures i + 2 * c.from-4.ensures i)))
    ∙ ap (λ (n : ℕ). eqb c.args.stated n) (sym (length-order c.args.ones c.args.twos))
