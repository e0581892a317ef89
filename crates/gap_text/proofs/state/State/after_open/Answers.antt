use Rattle.std.proofs.Common.{arith, sym}
use Rattle.gap_text.proofs.Stack.{levels_of-new, length-levels_of}
use Rattle.gap_text.proofs.Steps.{after_open-deep, after_open-ok}
use Rattle.gap_text.proofs.state.State.after_open.Goals as goal

pub returns-then-len-ge-DEEPEST : goal.returns-then-len-ge-DEEPEST
returns-then-len-ge-DEEPEST c =
    let s = c.args.self.now in
    λ _. after_open-deep _ _ s.made c.args.place (sym c.if-not-takes_value.ensures) (omega (arith, length-levels_of s.open_lists.items))

pub returns : goal.returns
returns c =
    let s = c.args.self.now in
    rw (levels_of-new _ _ _ c.in_ok-push.ensures.items c.new.ensures.items)
    (after_open-ok _ _ s.made c.args.place (sym c.if-not-takes_value.ensures) (omega (arith, length-levels_of s.open_lists.items)))
