use Rattle.std.proofs.Common.{◌≡◌, true, take}
use Rattle.std.specs.List.{list_all}
use Rattle.vector_field.specs.Maximal.{is_settled}
use Rattle.vector_field.proofs.search.open_coface.Given as goal

abbrev pub invariant-loop-upper : goal.invariant-loop-upper
invariant-loop-upper g l = list_all (is_settled (g.G.Graded.space l.graded) l.pairing.pairs l.dim l.lower) (take l.upper-index l.uppers) ≡ true
