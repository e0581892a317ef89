use Rattle.std.proofs.Common.{Ok, ap, sym, ◌∙◌}
use Rattle.small_field.specs.Modulus.{field_of}
use Rattle.order_complex.specs.Numbers.{AreBetti}
use Rattle.hap_inputs.specs.Spaces.{only_few}
use Rattle.hap_cli.proofs.Stages.{gives_past, steps_past}
use Rattle.hap_cli.proofs.betti.regular_betti.Goals as goal

pub returns-clause-numbers : goal.returns-clause-numbers
returns-clause-numbers g c =
    gives_past only_few c.args.space.now c.space.result.now (λ s. AreBetti (field_of c.args.modulus) s) c.few_betti.result
    (c.in_ok-regular.ensures.stage ∙ ap Ok (sym c.space.ensures.same)) (c.space.ensures.same ∙ c.in_ok-regular.ensures.regular) c.few_betti.ensures.numbers

pub returns-clause-steps : goal.returns-clause-steps
returns-clause-steps g c =
    steps_past c.args.space.now c.space.result.now c.args.steps.now c.few_betti.new.steps
    (c.in_ok-regular.ensures.stage ∙ ap Ok (sym c.space.ensures.same)) c.few_betti.ensures.steps
