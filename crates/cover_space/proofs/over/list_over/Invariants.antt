use Rattle.std.proofs.Common.{◌≡◌, ℕ, ◌-◌, map, take, get_or}
use Rattle.cover_space.specs.Total.{sheeted}
use Rattle.cover_space.specs.Making.{IsAgreeing}
use Rattle.cover_space.proofs.over.list_over.Given as goal

abbrev pub invariant-loop-cell : goal.invariant-loop-cell
invariant-loop-cell l =
    (f : ℕ → ℕ) → IsAgreeing l.vertices f l.over → l.list.items ≡ map (λ c. sheeted l.sheets c (f (get_or l.least (c - 1) 0))) (take l.cell-index l.cells)
