use Rattle.std.proofs.Common.{List, ℕ, reverse, ap, sym, ◌∙◌}
use Rattle.face_poset.specs.Signs.{sign_of}
use Rattle.order_complex.specs.Complex.{stands_odd}
use Rattle.order_complex.proofs.Cancel.{odd-at, signs_cancel}
use Rattle.order_complex.proofs.chains.ChainsSigned.sign.Goals as goal

pub returns-then-stands_odd_from_end-clause-sign : goal.returns-then-stands_odd_from_end-clause-sign
returns-then-stands_odd_from_end-clause-sign c =
    ap sign_of (sym c.if-stands_odd_from_end.true ∙ c.stands_odd_from_end.ensures ∙ ap (λ (fs : List ℕ). stands_odd (reverse fs) c.args.facet) c.facets.ensures.facets
    ∙ odd-at c.args.self.now c.args.dim c.args.cell c.args.facet c.requires.first c.requires.last)

pub returns-then-stands_odd_from_end-clause-law : goal.returns-then-stands_odd_from_end-clause-law
returns-then-stands_odd_from_end-clause-law c = signs_cancel c.args.self.now

pub returns-else-stands_odd_from_end-clause-sign : goal.returns-else-stands_odd_from_end-clause-sign
returns-else-stands_odd_from_end-clause-sign c =
    ap sign_of (sym c.if-stands_odd_from_end.false ∙ c.stands_odd_from_end.ensures ∙ ap (λ (fs : List ℕ). stands_odd (reverse fs) c.args.facet) c.facets.ensures.facets
    ∙ odd-at c.args.self.now c.args.dim c.args.cell c.args.facet c.requires.first c.requires.last)

pub returns-else-stands_odd_from_end-clause-law : goal.returns-else-stands_odd_from_end-clause-law
returns-else-stands_odd_from_end-clause-law c = signs_cancel c.args.self.now
