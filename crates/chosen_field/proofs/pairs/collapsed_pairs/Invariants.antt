use Rattle.std.proofs.Common.{length}
use Rattle.chosen_field.proofs.Turns.{IsTurn}
use Rattle.chosen_field.proofs.pairs.collapsed_pairs.Given as goal

abbrev pub invariant-loop-turn : goal.invariant-loop-turn
invariant-loop-turn g l = IsTurn (g.G.Graded.space l.graded) l.dim (length l.cells) l._turn l.rest.cells l.rest.shared l.made.items l.cells
