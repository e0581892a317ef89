use Rattle.std.proofs.Common.{◌≡◌, ◌<◌, ℕ, length, get_or}
use Rattle.std.specs.Prelude.{if◌then◌else◌}
use Rattle.std.specs.Prelude.{nat_lt}
use Rattle.cover_search.proofs.columns.no_entries.Given as goal

abbrev pub invariant-loop-sheet : goal.invariant-loop-sheet
invariant-loop-sheet l = record {
  long : length l.bytes ≡ 8;
  done : (s : ℕ) → s < 8 → get_or l.bytes s 0 ≡ (if nat_lt s l.sheet then 255 else s);
}
