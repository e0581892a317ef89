use Rattle.regular_check.proofs.Walking.{IsWalk}
use Rattle.regular_check.proofs.cycles.push_cycle.Given as goal

abbrev pub invariant-loop-turn : goal.invariant-loop-turn
invariant-loop-turn l = IsWalk l.space l.edges l.tallies l.fn.steps.items l.steps.items l._turn l.vertex l.edge
