use Rattle.std.proofs.Common.{◌≡◌, ◌<◌, ℕ, suc, true}
use Rattle.live_laws.specs.Walks.{trace}
use Rattle.cover_search.specs.Columns.{no_other}
use Rattle.cover_search.proofs.walker.Walker.closes_by_letters.Given as goal

abbrev pub invariant-loop-sheet : goal.invariant-loop-sheet
invariant-loop-sheet l = (s : ℕ) → s < l.sheet → no_other (trace l.self.columns l.self.sheets l.self.cells l.word (suc s)) (suc s) ≡ true
