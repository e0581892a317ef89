use Rattle.std.proofs.Common.{◌≡◌, map, []}
use Rattle.number_lists.specs.Words.{upto}
use Rattle.local_field.proofs.flags.empty_lists.Given as goal

abbrev pub invariant-loop-index : goal.invariant-loop-index
invariant-loop-index l = l.lists ≡ map (λ n. []) (upto l._index)
