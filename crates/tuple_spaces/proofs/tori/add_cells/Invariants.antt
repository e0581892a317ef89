use Rattle.std.proofs.Common.{◌≡◌}
use Rattle.tuple_spaces.specs.TorusPlaces.{stage}
use Rattle.tuple_spaces.proofs.tori.add_cells.Given as goal

abbrev pub invariant-loop-place : goal.invariant-loop-place
invariant-loop-place l = l.builder ≡ stage l.side l.dim l.place
