use Rattle.std.proofs.Common.{◌≡◌, map, false}
use Rattle.number_lists.specs.Words.{upto}
use Rattle.local_field.proofs.flag_signs.point_signs.Given as goal

abbrev pub invariant-loop-index : goal.invariant-loop-index
invariant-loop-index g l = l.signs.items ≡ map (λ n. false) (upto l._index)
