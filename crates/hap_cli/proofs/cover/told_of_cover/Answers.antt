use Rattle.std.proofs.Common.{◌≡◌, ◌≤◌, ◌+◌, Ok, refl, subst}
use Rattle.face_poset.specs.Poset.{Layers}
use Rattle.small_field.specs.Modulus.{field_of}
use Rattle.order_complex.specs.Numbers.{AreBetti}
use Rattle.hap_ends.specs.Outcomes.{Fails}
use Rattle.hap_inputs.specs.Spaces.{only_few}
use Rattle.hap_cli.specs.Counting.{entries_of}
use Rattle.hap_cli.proofs.cover.told_of_cover.Goals as goal

pub returns-in-Ok-clause-told : goal.returns-in-Ok-clause-told
returns-in-Ok-clause-told g c = (
  subst (λ (s : Layers). only_few (Ok s) ≡ Ok s) c.total.ensures c.in-Ok.ensures.numbers.0,
  (refl, subst (λ (s : Layers). AreBetti (field_of c.args.modulus) s c.in-Ok.numbers) c.total.ensures c.in-Ok.ensures.numbers.1),
)

pub returns-in-Ok-clause-steps : goal.returns-in-Ok-clause-steps
returns-in-Ok-clause-steps g c =
    subst (λ (s : Layers). c.few_betti.new.steps ≤ c.args.steps.now + entries_of (only_few (Ok s))) c.total.ensures c.few_betti.ensures.steps

pub returns-in-Err-clause-told : goal.returns-in-Err-clause-told
returns-in-Err-clause-told g c = subst (λ (s : Layers). Fails (only_few (Ok s)) c.in-Err.outcome) c.total.ensures c.in-Err.ensures.numbers

pub returns-in-Err-clause-steps : goal.returns-in-Err-clause-steps
returns-in-Err-clause-steps g c =
    subst (λ (s : Layers). c.few_betti.new.steps ≤ c.args.steps.now + entries_of (only_few (Ok s))) c.total.ensures c.few_betti.ensures.steps
