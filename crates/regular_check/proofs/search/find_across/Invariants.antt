use Rattle.std.proofs.Common.{◌≡◌, map, take}
use Rattle.number_lists.specs.Found.{inserted_all}
use Rattle.regular_check.specs.Tally.{other}
use Rattle.regular_check.proofs.search.find_across.Given as goal

abbrev pub invariant-loop-facet : goal.invariant-loop-facet
invariant-loop-facet l = (l.found.most ≡ l.fn.found.most) × (l.found.found ≡ inserted_all l.fn.found.found (map (other l.tallies l.cell) (take l.facet-index l.facets)))
