use Rattle.std.proofs.Common.{◌≡◌, true, take, eqb, length}
use Rattle.std.specs.List.{list_all}
use Rattle.face_poset.specs.Poset.{facets_of}
use Rattle.regular_check.specs.Rules.{sharing}
use Rattle.regular_check.proofs.tally.are_each_twice.Given as goal

abbrev pub invariant-loop-cell : goal.invariant-loop-cell
invariant-loop-cell l = list_all (λ c. list_all (λ f. eqb (length (sharing l.space l.dim l.cells f)) 2) (facets_of l.space l.dim c)) (take l.cell-index l.cells) ≡ true
