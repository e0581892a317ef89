use Rattle.std.proofs.Common.{ap, subst, ◌∙◌}
use Rattle.small_field.specs.Modulus.{field_of}
use Rattle.order_complex.specs.Numbers.{AreBetti}
use Rattle.hap_inputs.proofs.CallerLemmas.{few_passes}
use Rattle.hap_cli.specs.Answers.{chain_numbers}
use Rattle.hap_cli.proofs.Stages.{all_steps}
use Rattle.hap_cli.proofs.make.chains_and_betti.Goals as goal

pub returns-in_err-numbers-clause-steps : goal.returns-in_err-numbers-clause-steps
returns-in_err-numbers-clause-steps g c =
    all_steps c.args.space.now c.in_ok-chains.chains c.args.steps.now c.betti_modulo.new.steps c.in_ok-chains.ensures.within c.in_ok-chains.ensures.chains c.betti_modulo.ensures.steps

pub returns-clause-numbers : goal.returns-clause-numbers
returns-clause-numbers g c = (
  few_passes c.args.space.now c.in_ok-chains.ensures.within,
  (
    c.numbers_of.ensures ∙ ap chain_numbers c.in_ok-chains.ensures.chains,
    subst (λ s. AreBetti (field_of c.args.modulus) s c.in_ok-numbers.numbers) c.in_ok-chains.ensures.chains c.in_ok-numbers.ensures.betti,
  ),
)

pub returns-clause-steps : goal.returns-clause-steps
returns-clause-steps g c =
    all_steps c.args.space.now c.in_ok-chains.chains c.args.steps.now c.betti_modulo.new.steps c.in_ok-chains.ensures.within c.in_ok-chains.ensures.chains c.betti_modulo.ensures.steps
