use Rattle.gap_text.proofs.Stack.{levels_onto-last, map-view-last}
use Rattle.gap_text.proofs.state.State.put.Goals as goal

pub returns-in_ok-push-in-Some-2 : goal.returns-in_ok-push-in-Some-2
returns-in_ok-push-in-Some-2 c =
    simp (c.in-Some.ensures.items, c.in_ok-push-in-Some.ensures.items, c.in_ok-push-in-Some-2.ensures.items, levels_onto-last, map-view-last)
