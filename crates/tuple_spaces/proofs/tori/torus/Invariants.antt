use Rattle.std.proofs.Common.{◌≡◌}
use Rattle.tuple_spaces.specs.TorusPlaces.{stage}
use Rattle.tuple_spaces.proofs.tori.torus.Given as goal

abbrev pub invariant-loop-dim : goal.invariant-loop-dim
invariant-loop-dim l = l.builder ≡ stage l.side l.dim 0
