use Rattle.std.proofs.Common.{◌≡◌, ◌≤◌, length, take}
use Rattle.pair_stages.specs.Signed.{matches_of}
use Rattle.pair_stages.proofs.listing.list_pairs.Given as goal

abbrev pub invariant-loop-index : goal.invariant-loop-index
invariant-loop-index l = record { few : length l.pairs.items ≤ l.index; pairs : l.pairs.items ≡ matches_of (take l.index l.field.pairs) l.dim }
