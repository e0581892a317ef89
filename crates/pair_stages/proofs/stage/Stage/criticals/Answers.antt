use Rattle.std.proofs.Common.{◌≡◌, ◌≤◌, List, ℕ, length, ap, ◌∙◌, arith}
use Rattle.split_laws.specs.Kinds.{criticals}
use Rattle.pair_stages.specs.Stages.{Stage}
use Rattle.pair_stages.proofs.Placed.{critical_long}
use Rattle.pair_stages.proofs.CallerLemmas.{criticals_few}
use Rattle.pair_stages.proofs.stage.Stage.criticals.Goals as goal

pub overflow_cast-result : goal.overflow_cast-result
overflow_cast-result g c =
    let e : length c.self.inside.critical.items ≡ criticals c.self.inside.kinds.items = ap (λ (xs : List ℕ). length xs) c.self.invariant.0 ∙ critical_long 1 c.self.inside.kinds.items in
    let few : criticals c.self.inside.kinds.items ≤ length c.self.inside.kinds.items = criticals_few c.self.inside.kinds.items in
    let most : length c.self.inside.kinds.items ≤ 4294967295 = c.self.invariant.1.cells in
    omega arith

pub returns : goal.returns
returns g c =
    let e : length c.self.inside.critical.items ≡ criticals c.self.inside.kinds.items = ap (λ (xs : List ℕ). length xs) c.self.invariant.0 ∙ critical_long 1 c.self.inside.kinds.items in
    let f : criticals c.self.inside.kinds.items ≡ criticals c.args.self.now.kinds = ap (λ (s : Stage). criticals s.kinds) c.self.view_is in
    omega arith
