-- Levels of the stages of pairs, as the code keeps them.
--   level_of s                              what is seen of a stage: for each pair the unit of its lower and its upper
--   levels_of stages                        so for each degree
--   AreFilled F stages count filled         the reduced rows that are not zero, with their places, of each of the first degrees
use Rattle.std.specs.Prelude.{◌≡◌, ℕ, ◌+◌, ◌<◌, List, length, map, slice_index_or}
use Rattle.small_field.specs.Field.{Ops}
use Rattle.pair_stages.specs.Stages.{Stage}
use Rattle.pair_stages.specs.Splits.{stage_at}
use Rattle.pair_stages.specs.Units.{unit_of}
use Rattle.pair_stages.specs.Filled.{Filled, no_filled, IsFilledBy}
use Rattle.critical_complex.specs.Levels.{Level}

abbrev pub level_of : Stage → Level
level_of s = record { rows = s.rows; kinds = s.kinds; units = map unit_of s.pairs }

abbrev pub levels_of : List Stage → List Level
levels_of stages = map level_of stages

pub record AreFilled (F : Ops) (stages : List Stage) (count : ℕ) (filled : List Filled) : Type 0 where
  pub long : length filled ≡ count
  pub each : (degree : ℕ) → degree < count → IsFilledBy F (stage_at stages degree) (stage_at stages (degree + 1)) (slice_index_or filled degree no_filled)
