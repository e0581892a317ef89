-- What a buffer in front of a sink did with a text. The sink's bytes were `old` and are `new`, where these are told; the
-- buffer held `before` and holds `after`.
--   Gathers old new before after text result   a front of what was held and of the text went to the sink, and the rest is held at Ok
use Rattle.std.specs.Prelude.{◌≡◌, ◌≤◌, ℕ, List, [], ◌++◌, length, Result, OnOk, OnErr}
use Rattle.std.specs.declared.option.Option.{Option}
use Rattle.std.specs.Io.KnownBytes.{Appends}

-- what was held and the text behind it fall into a front, which the sink took, and a rest; at Ok the rest
-- is held after, and at Err nothing is, and there is a rest that is lost
pub record Gathers {T E : Type 0} (old new : Option (List ℕ)) (before after text : List ℕ) (result : Result T E) : Type 0 where
  pub handed : List ℕ
  pub rest : List ℕ
  pub all : handed ++ rest ≡ before ++ text
  pub bytes : Appends old new handed
  pub kept : OnOk result (after ≡ rest)
  pub lost : OnErr result ((after ≡ []) × (1 ≤ length rest))
