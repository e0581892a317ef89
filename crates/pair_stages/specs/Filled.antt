-- The reduced rows that are not zero. s and next are two degrees.
--   Filled                 rows, of so many numbers each, with their places among rows of zeros; places count from 0
--   no_filled              none
--   IsFilledBy F s next f  f are the reduced rows that are not zero, with their places
use Rattle.std.specs.Prelude.{◌≡◌, ℕ, List, [], length}
use Rattle.small_field.specs.Field.{Ops}
use Rattle.linear_laws.specs.ZeroRows.{nonzero_rows, nonzero_places}
use Rattle.split_laws.specs.Kinds.{criticals}
use Rattle.split_laws.specs.Solutions.{IsReducedBy}
use Rattle.pair_stages.specs.Stages.{Stage}

pub record Filled : Type 0 where
  pub places : List ℕ
  pub cols : ℕ
  pub rows : List (List ℕ)

abbrev pub no_filled : Filled
no_filled = record { places = []; cols = 0; rows = [] }

pub record IsFilledBy (F : Ops) (s next : Stage) (f : Filled) : Type 0 where
  pub all : List (List ℕ)
  pub reduced : IsReducedBy F (length s.kinds) (length next.kinds) s.rows s.kinds next.kinds all
  pub cols : f.cols ≡ criticals next.kinds
  pub rows : f.rows ≡ nonzero_rows all
  pub places : f.places ≡ nonzero_places all
