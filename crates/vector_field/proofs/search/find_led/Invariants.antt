use Rattle.std.proofs.Common.{◌≡◌, ◌-◌}
use Rattle.vector_field.proofs.Led.{IsSearch}
use Rattle.vector_field.proofs.search.find_led.Given as goal

abbrev pub invariant-loop-head : goal.invariant-loop-head
invariant-loop-head g l = (l.found.most ≡ l.fn.found.most) × IsSearch (g.G.Graded.space l.graded) l.pairing.pairs l.dim l.last l.head l.found.found

abbrev pub decreases-loop-head : goal.decreases-loop-head
decreases-loop-head g l = l.found.most - l.head
