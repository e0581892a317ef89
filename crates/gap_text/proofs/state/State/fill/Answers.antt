use Rattle.gap_text.proofs.Stack.{levels_onto-last}
use Rattle.gap_text.proofs.state.State.fill.Goals as goal

pub returns-in_ok-push-in-Some : goal.returns-in_ok-push-in-Some
returns-in_ok-push-in-Some c =
    simp (c.in-Some.ensures.items, c.in_ok-push-in-Some.ensures.items, levels_onto-last, c.in_ok-push_range-in-Some.ensures.numbers)
