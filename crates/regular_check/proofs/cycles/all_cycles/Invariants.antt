use Rattle.regular_check.specs.Tally.{IsBlank}
use Rattle.regular_check.specs.Cycle.{AreCycles}
use Rattle.regular_check.proofs.cycles.all_cycles.Given as goal

abbrev pub invariant-loop-index : goal.invariant-loop-index
invariant-loop-index l = AreCycles l.space l.index l.ends.items l.steps.items × IsBlank l.tallies
