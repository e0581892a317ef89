use Rattle.std.proofs.Common.{◌≡◌, ◌++◌, take, drop}
use Rattle.std.specs.Option.{option_map}
use Rattle.sheet_tables.specs.Spots.{at_slash}
use Rattle.sheet_tables.proofs.spot.find_slash.Given as goal

abbrev pub invariant-loop-index : goal.invariant-loop-index
invariant-loop-index l = at_slash l.text ≡ option_map (λ parts. (take l.index l.text ++ parts.0, parts.1)) (at_slash (drop l.index l.text))
