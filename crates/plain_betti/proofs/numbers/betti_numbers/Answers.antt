use Rattle.plain_betti.proofs.ByRanks.{into_zero, out_of_three, ranks-fit, betti-left}
use Rattle.plain_betti.proofs.numbers.betti_numbers.Goals as goal

pub chains_left-requires : goal.chains_left-requires
chains_left-requires g c =
    ranks-fit g.F.Field.ops g.met.F.Field.laws c.args.chains.now c.basis_by_ranks.ensures 0 0 c.in_ok-first.first c.len.result c.len.ensures
    (into_zero g.F.Field.ops g.met.F.Field.laws c.args.chains.now) c.in_ok-first.ensures.rank

pub chains_left-requires-2 : goal.chains_left-requires-2
chains_left-requires-2 g c =
    ranks-fit g.F.Field.ops g.met.F.Field.laws c.args.chains.now c.basis_by_ranks.ensures 1 c.in_ok-first.first c.in_ok-second.second c.len-2.result c.len-2.ensures c.in_ok-first.ensures.rank c.in_ok-second.ensures.rank

pub chains_left-requires-3 : goal.chains_left-requires-3
chains_left-requires-3 g c =
    ranks-fit g.F.Field.ops g.met.F.Field.laws c.args.chains.now c.basis_by_ranks.ensures 2 c.in_ok-second.second c.in_ok-third.third c.len-3.result c.len-3.ensures c.in_ok-second.ensures.rank c.in_ok-third.ensures.rank

pub chains_left-requires-4 : goal.chains_left-requires-4
chains_left-requires-4 g c =
    ranks-fit g.F.Field.ops g.met.F.Field.laws c.args.chains.now c.basis_by_ranks.ensures 3 c.in_ok-third.third 0 c.len-4.result c.len-4.ensures c.in_ok-third.ensures.rank
    (out_of_three g.F.Field.ops g.met.F.Field.laws c.args.chains.now)

pub returns-clause-betti : goal.returns-clause-betti
returns-clause-betti g c =
    let F = g.F.Field.ops in
    let L = g.met.F.Field.laws in
    let law = c.betti_by_ranks.ensures in
    record {
      zero = betti-left F L c.args.chains.now law 0 0 c.in_ok-first.first c.len.result c.chains_left.result c.len.ensures (into_zero F L c.args.chains.now) c.in_ok-first.ensures.rank c.chains_left.ensures;
      one = betti-left F L c.args.chains.now law 1 c.in_ok-first.first c.in_ok-second.second c.len-2.result c.chains_left-2.result c.len-2.ensures c.in_ok-first.ensures.rank c.in_ok-second.ensures.rank c.chains_left-2.ensures;
      two = betti-left F L c.args.chains.now law 2 c.in_ok-second.second c.in_ok-third.third c.len-3.result c.chains_left-3.result c.len-3.ensures c.in_ok-second.ensures.rank c.in_ok-third.ensures.rank c.chains_left-3.ensures;
      three = betti-left F L c.args.chains.now law 3 c.in_ok-third.third 0 c.len-4.result c.chains_left-4.result c.len-4.ensures c.in_ok-third.ensures.rank (out_of_three F L c.args.chains.now) c.chains_left-4.ensures;
    }
