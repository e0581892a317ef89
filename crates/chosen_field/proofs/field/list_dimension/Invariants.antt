use Rattle.std.proofs.Common.{◌≡◌, map}
use Rattle.number_lists.specs.Words.{upto}
use Rattle.chosen_field.specs.Chosen.{upper_of}
use Rattle.chosen_field.proofs.field.list_dimension.Given as goal

abbrev pub invariant-loop-index : goal.invariant-loop-index
invariant-loop-index g l = l.uppers.items ≡ map (upper_of l.field.pairs l.dim) (upto l.index)
