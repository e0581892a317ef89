use Rattle.std.proofs.Common.{◌≡◌, ◌-◌, drop, []}
use Rattle.std.specs.Prelude.{slice_index_or}
use Rattle.std.specs.List.{list_all}
use Rattle.live_laws.specs.Walks.{never_fails}
use Rattle.cover_search.proofs.course.all_close.Given as goal

abbrev pub invariant-loop-number : goal.invariant-loop-number
invariant-loop-number l =
    list_all (λ n. never_fails l.walker.columns l.walker.sheets l.walker.cells (slice_index_or l.presentation.relators (n - 1) [])) l.numbers
    ≡ list_all (λ n. never_fails l.walker.columns l.walker.sheets l.walker.cells (slice_index_or l.presentation.relators (n - 1) [])) (drop l.number-index l.numbers)
