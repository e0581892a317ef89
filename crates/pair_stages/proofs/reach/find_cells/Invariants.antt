use Rattle.std.proofs.Common.{◌≡◌, ◌-◌}
use Rattle.pair_stages.proofs.Searched.{IsSearch}
use Rattle.pair_stages.proofs.reach.find_cells.Given as goal

abbrev pub invariant-loop-head : goal.invariant-loop-head
invariant-loop-head g l = record {
  most : l.found.most ≡ l.fn.found.most;
  searched : IsSearch (g.G.Graded.space l.graded) l.dim l.stage l.next l.indexes l.place l.head l.found.found;
}

abbrev pub decreases-loop-head : goal.decreases-loop-head
decreases-loop-head g l = l.found.most - l.head
