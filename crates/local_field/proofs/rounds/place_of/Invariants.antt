use Rattle.std.proofs.Common.{◌≢◌, ◌<◌, ℕ, false, get_or}
use Rattle.local_field.proofs.rounds.place_of.Given as goal

abbrev pub invariant-loop-index : goal.invariant-loop-index
invariant-loop-index l = (k : ℕ) → k < l.index → (get_or l.steps k (record { edge = 0; forward = false })).edge ≢ l.edge
