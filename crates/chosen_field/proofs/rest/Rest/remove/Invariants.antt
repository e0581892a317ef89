use Rattle.std.proofs.Common.{◌≡◌, ◌≤◌, ◌-◌, ℕ, cond, false, get_or, length, set, take}
use Rattle.number_lists.specs.Words.{holds}
use Rattle.chosen_field.proofs.rest.Rest.remove.Given as goal

abbrev pub invariant-loop-facet : goal.invariant-loop-facet
invariant-loop-facet l =
    (l.self.cells ≡ set l.fn.self.cells (l.cell - 1) false)
    × (length l.self.shared ≡ length l.fn.self.shared)
    × ((f : ℕ) → 1 ≤ f → get_or l.self.shared (f - 1) 0 ≡ get_or l.fn.self.shared (f - 1) 0 - cond (holds (take l.facet-index l.facets) f) 1 0)
