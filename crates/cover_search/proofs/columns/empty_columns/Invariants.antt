use Rattle.std.proofs.Common.{◌≡◌, length}
use Rattle.cover_search.proofs.columns.empty_columns.Given as goal

abbrev pub invariant-loop-i : goal.invariant-loop-i
invariant-loop-i l = length l.all.items ≡ l._i
