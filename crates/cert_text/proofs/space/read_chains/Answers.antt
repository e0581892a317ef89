use Rattle.std.proofs.Common.{◌∙◌, sym, ap, rules, List, ℕ, Ok}
use Rattle.certificates.specs.declared.kind.Kind.TheVariants as kind
use Rattle.cert_text.specs.Picks.{pick_chains}
use Rattle.cert_text.specs.Reading.{chains_fit}
use Rattle.cert_text.proofs.TakingLemmas.{breaks, fits-line, unfit-line, fails-line, out_of, chains-pick, counts-none, counts-some}
use Rattle.cert_text.proofs.space.read_chains.Goals as goal

pub returns-in_err-chains : goal.returns-in_err-chains
returns-in_err-chains c =
    breaks _ _ _ c.from_residual.result c.in_err-chains.field-0.0 (search rules)
    (λ h. fails-line c.args.version c.args.lines.now kind.Chains c.in_err-chains.field-0.0 pick_chains (λ ns. ns) (chains_fit c.args.space.now) chains-pick (c.in_err-chains.ensures h))

pub returns-in-None : goal.returns-in-None
returns-in-None c = λ h.
    unfit-line c.args.version c.args.lines.now c.take_numbers.new.lines kind.Chains c.in_ok-chains.chains pick_chains (λ ns. ns) (chains_fit c.args.space.now) chains-pick (counts-none (chains_fit c.args.space.now c.in_ok-chains.chains) c.in_ok-chains.chains (sym c.in-None.is ∙ c.in_ok-count_if.ensures)) c.in_ok-chains.ensures
    ∙ out_of _ _ (sym c.number-number.ensures)

pub returns-in-Some : goal.returns-in-Some
returns-in-Some c =
    let s = counts-some (chains_fit c.args.space.now c.in_ok-chains.chains) c.in_ok-chains.chains c.in-Some.counts (sym c.in-Some.is ∙ c.in_ok-count_if.ensures) in
    fits-line c.args.version c.args.lines.now c.take_numbers.new.lines kind.Chains c.in_ok-chains.chains pick_chains (λ ns. ns) (chains_fit c.args.space.now) chains-pick s.0 c.in_ok-chains.ensures
    ∙ ap (λ (ns : List ℕ). Ok (ns, c.take_numbers.new.lines)) (sym s.1)
