use Rattle.std.proofs.Common.{◌≡◌, ◌<◌, ℕ, length, get_or, []}
use Rattle.cover_search.specs.Columns.{blank}
use Rattle.cover_search.proofs.columns.fill.Given as goal

abbrev pub invariant-loop-column : goal.invariant-loop-column
invariant-loop-column l = record {
  long : length l.columns.items ≡ length l.fn.columns.items;
  done : (g : ℕ) → g < l.column → get_or l.columns.items g [] ≡ blank l.sheets;
}
