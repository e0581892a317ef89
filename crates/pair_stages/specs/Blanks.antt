-- How the reduced rows that are not zero are put, row by row. F is the arithmetic of a field, s and next are two degrees.
--   IsRowOf F s next row v         v is the coboundary, at the critical cells, of the extension of the mark of a row; rows count from 0
--   IsFilledTo F s next count f    f are those of the first rows that are not zero, with their places
--   IsZeroOff us found v           v, with a number for each critical cell, is zero at those that were not found
use Rattle.std.specs.Prelude.{◌≡◌, ℕ, ◌+◌, ◌<◌, List, false, length, slice_index}
use Rattle.small_field.specs.Field.{Ops}
use Rattle.face_poset.specs.Words.{holds}
use Rattle.linear_laws.specs.Marks.{mark}
use Rattle.linear_laws.specs.Vectors.{combination, row_at}
use Rattle.linear_laws.specs.ZeroRows.{nonzero_rows, nonzero_places}
use Rattle.split_laws.specs.declared.kind.Kind.{Kind}
use Rattle.split_laws.specs.Kinds.{criticals, part}
use Rattle.split_laws.specs.Solutions.{IsExtension}
use Rattle.pair_stages.specs.Stages.{Stage, place_of}
use Rattle.pair_stages.specs.Filled.{Filled}

pub record IsRowOf (F : Ops) (s next : Stage) (row : ℕ) (v : List ℕ) : Type 0 where
  pub y : List ℕ
  pub extension : IsExtension F (length s.kinds) (length next.kinds) s.rows s.kinds next.kinds (mark (criticals s.kinds) row) y
  pub is : v ≡ part next.kinds (combination F (length next.kinds) y s.rows)

pub record IsFilledTo (F : Ops) (s next : Stage) (count : ℕ) (f : Filled) : Type 0 where
  pub all : List (List ℕ)
  pub long : length all ≡ count
  pub each : (i : ℕ) → i < count → IsRowOf F s next i (row_at all i)
  pub cols : f.cols ≡ criticals next.kinds
  pub rows : f.rows ≡ nonzero_rows all
  pub places : f.places ≡ nonzero_places all

abbrev pub IsZeroOff : List Kind → (found v : List ℕ) → Type 0
IsZeroOff us found v = (c : ℕ) → c < criticals us → holds found (place_of us c + 1) ≡ false → slice_index v c ≡ 0
