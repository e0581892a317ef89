use Rattle.std.proofs.Common.{◌≡◌, map}
use Rattle.number_lists.specs.Words.{upto}
use Rattle.local_field.specs.Buildings.{flag_of}
use Rattle.local_field.specs.Numbered.{number_of}
use Rattle.local_field.proofs.numbering.number_flags.Given as goal

abbrev pub invariant-loop-index : goal.invariant-loop-index
invariant-loop-index g l = l.numbers.items ≡ map (λ n. number_of (g.G.Graded.space l.graded) (flag_of (g.G.Graded.space l.graded) l.dim n)) (upto l.index)
