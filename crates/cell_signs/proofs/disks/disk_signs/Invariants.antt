use Rattle.std.proofs.Common.{◌≡◌, map, take}
use Rattle.regular_check.specs.Cycle.{cycle}
use Rattle.cell_signs.specs.Along.{goes_back}
use Rattle.cell_signs.proofs.disks.disk_signs.Given as goal

abbrev pub invariant-loop-step : goal.invariant-loop-step
invariant-loop-step l = l.signs.items ≡ map (goes_back (take l.step-index (cycle l.regular l.cell))) l.edges
