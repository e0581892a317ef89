use Rattle.std.proofs.Common.{◌≢◌, ◌<◌, ℕ, get_or}
use Rattle.regular_check.specs.declared.cycles.Step.{Step}
use Rattle.edge_words.proofs.reducing.place_of.Given as goal

abbrev pub invariant-loop-index : goal.invariant-loop-index
invariant-loop-index l = (k : ℕ) (d : Step) → k < l.index → (get_or l.steps k d).edge ≢ l.edge
