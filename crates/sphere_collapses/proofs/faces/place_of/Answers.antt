use Rattle.std.proofs.Common.{◌≡◌, ◌+◌, ◌-◌, ℕ, get_or, ap, ◌∙◌, arith}
use Rattle.sphere_collapses.proofs.Searched.{found_at, not_missing}
use Rattle.sphere_collapses.proofs.faces.place_of.Goals as goal

pub unreachable-requires : goal.unreachable-requires
unreachable-requires c = not_missing c.args.sorted.now c.args.number c.binary_search.result c.binary_search.ensures.position c.requires.rises c.in-Err.field-0 c.in-Err.is c.requires.there

pub returns-clause-number : goal.returns-clause-number
returns-clause-number c =
    let e : c.in-Ok.index + 1 - 1 ≡ c.in-Ok.index = omega arith in
    ap (λ (n : ℕ). get_or c.args.sorted.now n 0) e ∙ (found_at c.args.sorted.now c.args.number c.binary_search.result c.binary_search.ensures.position c.requires.rises c.in-Ok.index c.in-Ok.is).1
