use Rattle.std.proofs.Common.{◌-◌, [], drop, get_or}
use Rattle.order_complex.specs.Chains.{chains_of}
use Rattle.order_complex.specs.Complex.{IsNumbered}
use Rattle.order_complex.proofs.chains.Chains.back.Given as goal

abbrev pub invariant-loop-step : goal.invariant-loop-step
invariant-loop-step l = IsNumbered l.self (l.degree - l.step) l.number (drop l.step (get_or (chains_of l.self l.degree) (l.chain - 1) []))
