use Rattle.std.proofs.Common.{◌+◌, ◌-◌, [], take, get_or}
use Rattle.order_complex.specs.Chains.{chains_of}
use Rattle.order_complex.specs.Complex.{IsNumbered}
use Rattle.order_complex.proofs.chains.Chains.front.Given as goal

abbrev pub invariant-loop-step : goal.invariant-loop-step
invariant-loop-step l = IsNumbered l.self (l.degree - l.step) l.number (take (l.degree - l.step + 1) (get_or (chains_of l.self l.degree) (l.chain - 1) []))
