use Rattle.cover_space.proofs.Walked.{AreWalked}
use Rattle.cover_space.proofs.closed.write_sheets.Given as goal

abbrev pub invariant-loop-taken : goal.invariant-loop-taken
invariant-loop-taken l = AreWalked l.space l.labels l.dim l.cell l.sheet l.inside.tree.items l.taken-index l.over
