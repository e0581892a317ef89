use Rattle.std.proofs.Common.{◌≡◌, take}
use Rattle.chosen_field.proofs.field.pairs_of.Given as goal

abbrev pub invariant-loop-index : goal.invariant-loop-index
invariant-loop-index l = l.pairs.items ≡ take l.index l.field.pairs
