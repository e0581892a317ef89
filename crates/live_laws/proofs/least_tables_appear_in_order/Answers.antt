use Rattle.live_laws.proofs.Appearing.{least_appears}
use Rattle.live_laws.proofs.Connected.{appearing_is_transitive}
use Rattle.live_laws.proofs.least_tables_appear_in_order.Goals as goal

pub returns : goal.returns
returns c = record { appears = least_appears; transitive = appearing_is_transitive }
