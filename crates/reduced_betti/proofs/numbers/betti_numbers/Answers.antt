use Rattle.std.proofs.Common.{arith, ◌∙◌}
use Rattle.reduced_betti.proofs.Reduction.{ranks-fit, are_betti, steps-within}
use Rattle.reduced_betti.proofs.numbers.betti_numbers.Goals as goal

pub cells_left-requires : goal.cells_left-requires
cells_left-requires g c =
    ranks-fit g.F.Field.ops g.met.F.Field.laws c.args.chains.now c.in_ok-reduced.ensures.reduction c.in_ok-reduced.ensures.complex c.in_ok-ranks.ensures.ranks
    c.basis_by_ranks.ensures c.reduced_is_closed.ensures 0 c.critical_count.result (omega arith) c.critical_count.ensures

pub cells_left-requires-2 : goal.cells_left-requires-2
cells_left-requires-2 g c =
    ranks-fit g.F.Field.ops g.met.F.Field.laws c.args.chains.now c.in_ok-reduced.ensures.reduction c.in_ok-reduced.ensures.complex c.in_ok-ranks.ensures.ranks
    c.basis_by_ranks.ensures c.reduced_is_closed.ensures 1 c.critical_count-2.result (omega arith) c.critical_count-2.ensures

pub cells_left-requires-3 : goal.cells_left-requires-3
cells_left-requires-3 g c =
    ranks-fit g.F.Field.ops g.met.F.Field.laws c.args.chains.now c.in_ok-reduced.ensures.reduction c.in_ok-reduced.ensures.complex c.in_ok-ranks.ensures.ranks
    c.basis_by_ranks.ensures c.reduced_is_closed.ensures 2 c.critical_count-3.result (omega arith) c.critical_count-3.ensures

pub cells_left-requires-4 : goal.cells_left-requires-4
cells_left-requires-4 g c =
    ranks-fit g.F.Field.ops g.met.F.Field.laws c.args.chains.now c.in_ok-reduced.ensures.reduction c.in_ok-reduced.ensures.complex c.in_ok-ranks.ensures.ranks
    c.basis_by_ranks.ensures c.reduced_is_closed.ensures 3 c.critical_count-4.result (omega arith) c.critical_count-4.ensures

pub returns-clause-betti : goal.returns-clause-betti
returns-clause-betti g c =
    are_betti g.F.Field.ops g.met.F.Field.laws c.args.chains.now c.in_ok-reduced.ensures.reduction c.in_ok-reduced.ensures.complex c.in_ok-ranks.ensures.ranks
    c.betti_by_reduced_ranks.ensures
    (record { zero = c.cells_left.result; one = c.cells_left-2.result; two = c.cells_left-3.result; three = c.cells_left-4.result })
    (c.cells_left.ensures ∙ c.critical_count.ensures) (c.cells_left-2.ensures ∙ c.critical_count-2.ensures) (c.cells_left-3.ensures ∙ c.critical_count-3.ensures) (c.cells_left-4.ensures ∙ c.critical_count-4.ensures)

pub returns-in_err-ranks-clause-steps : goal.returns-in_err-ranks-clause-steps
returns-in_err-ranks-clause-steps g c =
    steps-within g.F.Field.ops g.met.F.Field.laws c.args.chains.now c.in_ok-reduced.ensures.reduction c.args.steps.now c.reduced_ranks.new.steps c.reduced_ranks.ensures.steps

pub returns-clause-steps : goal.returns-clause-steps
returns-clause-steps g c =
    steps-within g.F.Field.ops g.met.F.Field.laws c.args.chains.now c.in_ok-reduced.ensures.reduction c.args.steps.now c.reduced_ranks.new.steps c.reduced_ranks.ensures.steps
