use Rattle.std.proofs.Common.{◌≡◌, ℕ, List, length, ap, ◌∙◌, arith}
use Rattle.pair_stages.proofs.Sparse.{cleared_long}
use Rattle.pair_stages.proofs.coboundary.clear_mark.Goals as goal

pub set-requires-clause-last : goal.set-requires-clause-last
set-requires-clause-last g c =
    let l : length c.clear.new.x ≡ length c.args.x.now = ap (λ (z : List ℕ). length z) c.clear.ensures ∙ cleared_long c.args.pairs.now c.args.x.now in
    omega (arith, l, c.requires.cochain, c.critical_place.ensures.within)
