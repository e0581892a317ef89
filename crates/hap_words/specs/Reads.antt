-- What a reader of words answers.
--   Reads view value result   Ok comes with the value, by its view; a refusal exactly where there is none; want of
--                             memory at will
use Rattle.std.specs.Prelude.{◌≡◌, ⊤}
use Rattle.std.specs.declared.option.Option.{Option}
use Rattle.std.specs.declared.option.Option.TheVariants.{Some, None}
use Rattle.std.specs.declared.result.Result.{Result}
use Rattle.std.specs.declared.result.Result.TheVariants.{Ok, Err}
use Rattle.hap_words.specs.declared.fault.WordsFault.{WordsFault}
use Rattle.hap_words.specs.declared.fault.WordsFault.TheVariants.{Usage, Memory}

abbrev pub Reads : {T A : Type 0} → (T → A) → Option A → Result T WordsFault → Type 0
Reads view value (Ok t) = value ≡ Some (view t)
Reads view value (Err Usage) = value ≡ None
Reads view value (Err Memory) = ⊤
