use Rattle.std.proofs.Common.{append_assoc}
use Rattle.gap_text.proofs.Stack.{map-view-last}
use Rattle.gap_text.proofs.Counted.{counted-last}
use Rattle.gap_text.proofs.state.push_range.Goals as goal

pub loop-index-preserved : goal.loop-index-preserved
loop-index-preserved c =
    rw (c.in_ok-push.ensures.items, map-view-last, c.loop-index.invariant, append_assoc, counted-last)
