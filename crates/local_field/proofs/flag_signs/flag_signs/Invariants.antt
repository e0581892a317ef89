use Rattle.std.proofs.Common.{◌≡◌, map}
use Rattle.number_lists.specs.Words.{upto}
use Rattle.local_field.specs.Flags.{flag_negative}
use Rattle.local_field.proofs.flag_signs.flag_signs.Given as goal

abbrev pub invariant-loop-index : goal.invariant-loop-index
invariant-loop-index g l = l.signs.items ≡ map (flag_negative (g.S.Graded.space l.signed) (g.S.Signed.negative l.signed) l.dim) (upto l.index)
