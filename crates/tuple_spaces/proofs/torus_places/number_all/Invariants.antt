use Rattle.std.proofs.Common.{◌≡◌, ℕ, ◌≤◌, map, length, get_or}
use Rattle.std.specs.List.{range_with_len}
use Rattle.tuple_spaces.specs.TorusPlaces.{before, number_at}
use Rattle.tuple_spaces.proofs.torus_places.number_all.Given as goal

abbrev pub invariant-loop-place : goal.invariant-loop-place
invariant-loop-place l = (length l.counts ≡ 4) × ((d : ℕ) → d ≤ 3 → get_or l.counts d 0 ≡ before l.side d l.place) × (l.numbers.items ≡ map (number_at l.side) (range_with_len 0 l.place))
