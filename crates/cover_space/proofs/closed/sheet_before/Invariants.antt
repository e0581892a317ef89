use Rattle.std.proofs.Common.{◌≡◌, ℕ, ◌≤◌}
use Rattle.sheet_laws.specs.Permutations.{at}
use Rattle.sheet_laws.specs.Labellings.{label}
use Rattle.cover_space.proofs.closed.sheet_before.Given as goal

abbrev pub invariant-loop-index : goal.invariant-loop-index
invariant-loop-index l = (x : ℕ) → 1 ≤ x → x ≤ l.index → at (label l.labels.labels l.edge) x ≡ l.sheet → ⊥
