use Rattle.regular_check.specs.Cycle.{IsFirstEdge}
use Rattle.regular_check.proofs.cycles.first_edge.Given as goal

abbrev pub invariant-loop-edge : goal.invariant-loop-edge
invariant-loop-edge l = IsFirstEdge l.space l.edges l.edge-index l.best
