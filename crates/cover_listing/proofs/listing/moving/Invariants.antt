use Rattle.std.proofs.Common.{◌≡◌, ◌≤◌, ℕ, take, drop}
use Rattle.std.specs.Prelude.{nat_lt}
use Rattle.cover_listing.specs.Passes.{moves, relations_in_all}
use Rattle.cover_listing.proofs.listing.moving.Given as goal

abbrev pub invariant-loop-index : goal.invariant-loop-index
invariant-loop-index l = record {
  reaches : (i : ℕ) → moves (drop i (relations_in_all (take l.index l.searches))) ≡ nat_lt i l.until;
  below : l.until ≤ l.index;
}
