use Rattle.std.proofs.Common.{◌≡◌, ◌≤◌, ◌+◌, Ok, refl, ap, subst, ◌∙◌}
use Rattle.small_field.specs.Modulus.{field_of}
use Rattle.order_complex.specs.Numbers.{AreBetti}
use Rattle.hap_ends.specs.Outcomes.{Fails}
use Rattle.hap_inputs.specs.Spaces.{only_few}
use Rattle.hap_cli.specs.Answers.{chain_numbers}
use Rattle.hap_cli.specs.Counting.{entries_of}
use Rattle.hap_cli.proofs.make.summarize.Goals as goal

pub returns-in-Err-clause-summary : goal.returns-in-Err-clause-summary
returns-in-Err-clause-summary g c = subst (λ s. Fails (only_few (Ok s)) c.in-Err.outcome) c.requires.space c.in-Err.ensures.numbers

pub returns-in-Err-clause-steps : goal.returns-in-Err-clause-steps
returns-in-Err-clause-steps g c =
    subst (λ s. c.chains_and_betti.new.steps ≤ c.args.steps.now + entries_of (only_few (Ok s))) c.requires.space c.chains_and_betti.ensures.steps

pub returns-in-Ok-clause-summary : goal.returns-in-Ok-clause-summary
returns-in-Ok-clause-summary g c = (
  subst (λ s. only_few (Ok s) ≡ Ok s) c.requires.space c.in-Ok.ensures.numbers.0,
  (
    refl,
    c.requires.space,
    c.in-Ok.ensures.numbers.1.0 ∙ ap chain_numbers c.requires.space,
    subst (λ s. AreBetti (field_of c.args.modulus) s c.in-Ok.numbers) c.requires.space c.in-Ok.ensures.numbers.1.1,
  ),
)

pub returns-in-Ok-clause-steps : goal.returns-in-Ok-clause-steps
returns-in-Ok-clause-steps g c =
    subst (λ s. c.chains_and_betti.new.steps ≤ c.args.steps.now + entries_of (only_few (Ok s))) c.requires.space c.chains_and_betti.ensures.steps
