use Rattle.hap_outside.proofs.Gathering.{gathers_handed}
use Rattle.hap_outside.proofs.held.Held.hold.Goals as goal

pub returns-in-10-clause-bytes : goal.returns-in-10-clause-bytes
returns-in-10-clause-bytes g c =
    gathers_handed _ _ c.args.self.now c.take_in.new.self c.finish.new.self c.args.text.now c.finish.result c.take_in.ensures c.finish.ensures.empty c.finish.ensures.bytes
