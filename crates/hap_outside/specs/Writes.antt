-- What a call appended to a sink, whose bytes were `old` and are `new`, where these are told.
--   Writes old new text result   all of the text was appended at Ok, and a front that is less than all of it at Err
use Rattle.std.specs.Prelude.{ℕ, ◌<◌, List, length, take, Result, OnOk, OnErr}
use Rattle.std.specs.declared.option.Option.{Option}
use Rattle.std.specs.Io.KnownBytes.{Appends}

pub record Writes {T E : Type 0} (old new : Option (List ℕ)) (text : List ℕ) (result : Result T E) : Type 0 where
  pub whole : OnOk result (Appends old new text)
  pub part : OnErr result ((n : ℕ) × (n < length text) × Appends old new (take n text))
