use Rattle.std.proofs.Common.{◌≡◌, take}
use Rattle.chosen_field.proofs.Visits.{IsPart}
use Rattle.chosen_field.proofs.distances.visit.Given as goal

abbrev pub invariant-loop-edge : goal.invariant-loop-edge
invariant-loop-edge g l = (l.found.most ≡ l.fn.found.most) × IsPart (g.G.Graded.space l.graded) l.flags (take l.edge-index l.edges) l.fn.found.found l.found.found
