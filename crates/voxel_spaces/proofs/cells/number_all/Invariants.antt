use Rattle.std.proofs.Common.{◌≡◌, ◌≤◌, ◌==◌, ℕ, take, length, filter, map, get_or}
use Rattle.voxel_spaces.specs.Places.{dim_at, number_among}
use Rattle.voxel_spaces.proofs.cells.number_all.Given as goal

abbrev pub invariant-loop-place : goal.invariant-loop-place
invariant-loop-place l = record {
  four : length l.counts ≡ 4;
  counted : (d : ℕ) → d ≤ 3 → get_or l.counts d 0 ≡ length (filter (λ p. dim_at l.strides p == d) (take l.place-index l.places));
  numbered : l.numbers.items ≡ map (number_among l.strides l.places) (take l.place-index l.places);
}
