-- The layers of a boundary list, where the code has found them to be lists. tops are the values in the outer list.
--   inner v            the values in a list; a number has none
--   kept tops          the layers that are kept
--   IsSized layers     the layers are not too few, too many or too large
use Rattle.std.specs.Prelude.{◌≤◌, List, [], length, sum_by, map}
use Rattle.gap_text.specs.Value.{Value, number, list, items}
use Rattle.face_poset.specs.Reader.{trimmed}

abbrev pub inner : Value → List Value
inner (number place n) = []
inner (list place vs) = items vs

abbrev pub kept : List Value → List (List Value)
kept tops = trimmed (map inner tops)

pub record IsSized (layers : List (List Value)) : Type 0 where
  pub some : 1 ≤ length layers
  pub low : length layers ≤ 4
  pub few : sum_by (λ cells. length cells) layers ≤ 60000
