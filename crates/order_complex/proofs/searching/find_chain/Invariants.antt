use Rattle.std.proofs.Common.{◌<◌, ◌≤◌, ◌-◌, ℕ, List, [], length, get_or}
use Rattle.order_complex.specs.Order.{Before}
use Rattle.order_complex.proofs.searching.find_chain.Given as goal

-- the ids stand between the places
pub record Narrowed (chains : List (List ℕ)) (ids : List ℕ) (low high : ℕ) : Type 0 where
  pub within : high ≤ length chains
  pub left : (i : ℕ) → i < low → Before (get_or chains i []) ids
  pub right : (i : ℕ) → high ≤ i → i < length chains → Before ids (get_or chains i [])

abbrev pub invariant-halves : goal.invariant-halves
invariant-halves l = Narrowed (get_or l.chains l.degree []) l.ids l.low l.high

abbrev pub decreases-halves : goal.decreases-halves
decreases-halves l = l.high - l.low
