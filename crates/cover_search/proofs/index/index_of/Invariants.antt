use Rattle.std.proofs.Common.{◌≡◌, ◌<◌, ℕ, length, []}
use Rattle.std.specs.Prelude.{slice_index_or}
use Rattle.cover_search.specs.Indexes.{IsNaming}
use Rattle.cover_search.proofs.index.index_of.Given as goal

abbrev pub invariant-loop-number : goal.invariant-loop-number
invariant-loop-number l = record {
  long : length l.named ≡ l.number;
  each : (k : ℕ) → k < length l.named → IsNaming l.most (slice_index_or l.presentation.relators k []) (slice_index_or l.named k []);
}
