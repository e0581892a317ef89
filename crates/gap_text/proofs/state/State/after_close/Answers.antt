use Rattle.std.proofs.Common.{sym}
use Rattle.gap_text.proofs.Steps.{after_close-ok}
use Rattle.gap_text.proofs.state.State.after_close.Goals as goal

pub returns : goal.returns
returns c =
    rw (after_close-ok _ _ _ _ c.args.self.now.made c.args.place (sym c.if-not-takes_close.ensures) c.in-Some.ensures.items)
    (rw (← c.in_ok-items.ensures.list) c.put.ensures)
