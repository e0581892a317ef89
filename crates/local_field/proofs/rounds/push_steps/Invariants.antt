use Rattle.std.proofs.Common.{◌≡◌, ◌++◌, take, map}
use Rattle.local_field.specs.Listed.{step_pair}
use Rattle.local_field.proofs.rounds.push_steps.Given as goal

abbrev pub invariant-loop-step : goal.invariant-loop-step
invariant-loop-step l = l.pairs.items ≡ l.fn.pairs.items ++ map (step_pair l.space) (take l.step-index l.steps)
