use Rattle.std.proofs.Common.{◌≤◌, ◌+◌, arith}
use Rattle.cohomology.specs.Echelons.{rank_in}
use Rattle.cohomology.proofs.Ranked.{ranks_fit}
use Rattle.cohomology.proofs.echelons.Echelons.new.Goals as goal

pub cells_left-requires : goal.cells_left-requires
cells_left-requires g c =
    let fit : 0 + rank_in c.in_ok-first.first ≤ c.criticals.result =
    ranks_fit g.F.Field.ops g.met.F.Field.laws c.args.reduced.now c.critical-complex.ensures.complex c.in_ok-first.first c.in_ok-second.second c.in_ok-third.third c.in_ok-first.ensures.echelon c.in_ok-second.ensures.echelon c.in_ok-third.ensures.echelon
    c.basis_by_ranks.ensures c.reduced_is_closed.ensures 0 c.criticals.result (omega arith) c.criticals.ensures in
    omega (arith, fit, c.rank_of_form.ensures)

pub cells_left-requires-2 : goal.cells_left-requires-2
cells_left-requires-2 g c =
    let fit : rank_in c.in_ok-first.first + rank_in c.in_ok-second.second ≤ c.criticals-2.result =
    ranks_fit g.F.Field.ops g.met.F.Field.laws c.args.reduced.now c.critical-complex.ensures.complex c.in_ok-first.first c.in_ok-second.second c.in_ok-third.third c.in_ok-first.ensures.echelon c.in_ok-second.ensures.echelon c.in_ok-third.ensures.echelon
    c.basis_by_ranks.ensures c.reduced_is_closed.ensures 1 c.criticals-2.result (omega arith) c.criticals-2.ensures in
    omega (arith, fit, c.rank_of_form.ensures, c.rank_of_form-2.ensures)

pub cells_left-requires-3 : goal.cells_left-requires-3
cells_left-requires-3 g c =
    let fit : rank_in c.in_ok-second.second + rank_in c.in_ok-third.third ≤ c.criticals-3.result =
    ranks_fit g.F.Field.ops g.met.F.Field.laws c.args.reduced.now c.critical-complex.ensures.complex c.in_ok-first.first c.in_ok-second.second c.in_ok-third.third c.in_ok-first.ensures.echelon c.in_ok-second.ensures.echelon c.in_ok-third.ensures.echelon
    c.basis_by_ranks.ensures c.reduced_is_closed.ensures 2 c.criticals-3.result (omega arith) c.criticals-3.ensures in
    omega (arith, fit, c.rank_of_form-2.ensures, c.rank_of_form-3.ensures)

pub cells_left-requires-4 : goal.cells_left-requires-4
cells_left-requires-4 g c =
    let fit : rank_in c.in_ok-third.third + 0 ≤ c.criticals-4.result =
    ranks_fit g.F.Field.ops g.met.F.Field.laws c.args.reduced.now c.critical-complex.ensures.complex c.in_ok-first.first c.in_ok-second.second c.in_ok-third.third c.in_ok-first.ensures.echelon c.in_ok-second.ensures.echelon c.in_ok-third.ensures.echelon
    c.basis_by_ranks.ensures c.reduced_is_closed.ensures 3 c.criticals-4.result (omega arith) c.criticals-4.ensures in
    omega (arith, fit, c.rank_of_form-3.ensures)
