use Rattle.cell_signs.specs.Minus.{AreAlong}
use Rattle.cell_signs.proofs.solids.list_solids.Given as goal

abbrev pub invariant-loop-index : goal.invariant-loop-index
invariant-loop-index l = AreAlong l.regular l.index l.lists
