use Rattle.std.proofs.Common.{◌≡◌}
use Rattle.cover_space.specs.Making.{leasts_below, stage}
use Rattle.cover_space.proofs.making.make_total.Given as goal

abbrev pub invariant-loop-dim : goal.invariant-loop-dim
invariant-loop-dim l = (l.builder ≡ stage l.space l.labels l.dim 0) × (l.least.items ≡ leasts_below l.space l.dim)
