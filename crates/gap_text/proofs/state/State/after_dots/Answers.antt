use Rattle.gap_text.proofs.Stack.{levels_of-new}
use Rattle.gap_text.proofs.Steps.{after_dots-shape}
use Rattle.gap_text.proofs.state.State.after_dots.Goals as goal

pub returns-in_ok-push-in-OneNumber : goal.returns-in_ok-push-in-OneNumber
returns-in_ok-push-in-OneNumber c =
    rw (levels_of-new _ _ _ c.in_ok-push-in-OneNumber.ensures.items c.truncate.ensures.items)
    (after_dots-shape _ _ _ _ _ _ c.args.self.now.made c.args.place c.in-AfterItem.is c.in-Some.ensures.items c.deref.ensures.value c.in-OneNumber.ensures)

pub returns-in-TwoNumbers : goal.returns-in-TwoNumbers
returns-in-TwoNumbers c =
    λ _. after_dots-shape _ _ _ _ _ _ c.args.self.now.made c.args.place c.in-AfterItem.is c.in-Some.ensures.items c.deref.ensures.value c.in-TwoNumbers.ensures

pub returns-in-Longer : goal.returns-in-Longer
returns-in-Longer c =
    λ _. after_dots-shape _ _ _ _ _ _ c.args.self.now.made c.args.place c.in-AfterItem.is c.in-Some.ensures.items c.deref.ensures.value c.in-Longer.ensures
