use Rattle.regular_check.specs.Rules.{edge_rules}
use Rattle.regular_check.proofs.Faults.{AreKept}
use Rattle.regular_check.proofs.rules.check_edges.Given as goal

abbrev pub invariant-loop-index : goal.invariant-loop-index
invariant-loop-index l = AreKept (edge_rules l.space) l.index
