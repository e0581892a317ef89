use Rattle.std.proofs.Common.{◌≡◌, ◌-◌, [], take, filter, get_or}
use Rattle.permutahedral_arrays.specs.Places.{holds_all}
use Rattle.permutahedral_arrays.proofs.spaces.list_facets.Given as goal

abbrev pub invariant-loop-number : goal.invariant-loop-number
invariant-loop-number l = l.facets.items ≡ filter (λ n. holds_all (get_or l.above (n - 1) []) l.cell) (take l.number-index l.listed)
