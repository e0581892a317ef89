use Rattle.std.proofs.Common.{◌≡◌, ◌<◌, ℕ, get_or}
use Rattle.cover_search.proofs.columns.stays.Given as goal

abbrev pub invariant-loop-sheet : goal.invariant-loop-sheet
invariant-loop-sheet l = (s : ℕ) → s < l.sheet → get_or l.ends s 0 ≡ s
