use Rattle.std.proofs.Common.{◌≤◌, ◌+◌, subst}
use Rattle.face_poset.specs.Poset.{Layers}
use Rattle.order_complex.specs.Numbers.{coboundary_entries}
use Rattle.reduced_betti.proofs.numbers.betti_of.Goals as goal

pub returns-in-Ok-clause-steps : goal.returns-in-Ok-clause-steps
returns-in-Ok-clause-steps g c =
    subst (λ (space : Layers). c.betti_modulo.new.steps ≤ c.args.steps.now + coboundary_entries space) c.in_ok-chains.ensures.chains c.betti_modulo.ensures.steps

pub returns-clause-steps : goal.returns-clause-steps
returns-clause-steps g c =
    subst (λ (space : Layers). c.betti_modulo.new.steps ≤ c.args.steps.now + coboundary_entries space) c.in_ok-chains.ensures.chains c.betti_modulo.ensures.steps
