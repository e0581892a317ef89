use Rattle.std.proofs.Common.{◌++◌, sym, ap}
use Rattle.hap_outside.proofs.Gathering.{gathers_handed, gathers_behind, gathers_lost}
use Rattle.hap_outside.proofs.held.Held.put_text.Goals as goal

pub returns-in-Err-clause-bytes : goal.returns-in-Err-clause-bytes
returns-in-Err-clause-bytes g c =
    gathers_lost _ _ c.args.self.now c.finish.new.self c.args.text.now c.in-Err.field-0 _ c.in-Err.ensures.empty c.in-Err.ensures.bytes

pub returns-then-text-le-ROOM-clause-bytes : goal.returns-then-text-le-ROOM-clause-bytes
returns-then-text-le-ROOM-clause-bytes g c =
    gathers_behind _ _ _ c.args.self.now c.finish.new.self _ c.args.text.now c.in-Ok.field-0 c.hold-then-text-le-ROOM.result c.in-Ok.ensures.empty c.in-Ok.ensures.bytes c.hold-then-text-le-ROOM.ensures.bytes

pub returns-else-text-le-ROOM-clause-bytes : goal.returns-else-text-le-ROOM-clause-bytes
returns-else-text-le-ROOM-clause-bytes g c =
    gathers_behind _ _ _ c.args.self.now c.finish.new.self _ c.args.text.now c.in-Ok.field-0 c.write_all.result c.in-Ok.ensures.empty c.in-Ok.ensures.bytes
    (gathers_handed _ _ c.finish.new.self c.args.text.now c.finish.new.self c.args.text.now c.write_all.result (ap (λ l. l ++ c.args.text.now) (sym c.in-Ok.ensures.empty)) c.in-Ok.ensures.empty c.write_all.ensures.bytes)
