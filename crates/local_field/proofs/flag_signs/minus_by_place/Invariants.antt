use Rattle.std.proofs.Common.{◌≡◌, map}
use Rattle.number_lists.specs.Words.{upto}
use Rattle.local_field.specs.Flags.{minus_at}
use Rattle.local_field.proofs.flag_signs.minus_by_place.Given as goal

abbrev pub invariant-loop-index : goal.invariant-loop-index
invariant-loop-index g l = l.lists ≡ map (minus_at (g.S.Graded.space l.signed) (g.S.Signed.negative l.signed) l.numbering l.dim) (upto l.index)
