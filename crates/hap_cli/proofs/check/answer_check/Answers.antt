use Rattle.std.proofs.Common.{ap}
use Rattle.hap_inputs.specs.Spaces.{space_in, only_regular, fault_in}
use Rattle.hap_inputs.proofs.CallerLemmas.{passes_next}
use Rattle.hap_cli.specs.Answers.{components_text}
use Rattle.hap_cli.proofs.check.answer_check.Goals as goal

pub returns : goal.returns
returns c =
    let space = c.in_ok-space.space in
    let regular = passes_next (space_in c.args.options.now.input.kind c.args.bytes.now) only_regular space space c.in_ok-space.ensures c.in_ok-components.ensures.0 in
    (ap fault_in regular, (space, regular, ap (λ n. components_text space n) c.in_ok-components.ensures.1))
