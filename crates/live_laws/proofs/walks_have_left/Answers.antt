use Rattle.live_laws.proofs.Steps.{steps_down, steps_on, steps_up, steps_out}
use Rattle.live_laws.proofs.Left.{live_is_left}
use Rattle.live_laws.proofs.walks_have_left.Goals as goal

pub returns : goal.returns
returns c = record { down = steps_down; on = steps_on; up = steps_up; out = steps_out; left = live_is_left }
