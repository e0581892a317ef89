-- Rows written as their entries that are not 0, each a pair of a position and a value.
--   IsSparse entries   at increasing positions, none with the value 0, so many that 32 bits count them
use Rattle.std.specs.Prelude.{◌≢◌, ℕ, ◌<◌, ◌^◌, List, length, map, All}
use Rattle.std.specs.List.Sorted.{IsStrictlyIncreasing}

pub record IsSparse (entries : List (ℕ × ℕ)) : Type 0 where
  pub increasing : IsStrictlyIncreasing (map (λ e. e.0) entries)
  pub nonzero : All (λ e. e.1 ≢ 0) entries
  pub few : length entries < 2 ^ 32
