use Rattle.std.proofs.Common.{◌≡◌, ◌<◌, ◌≤◌, ◌-◌, ℕ, List, length, get_or}
use Rattle.order_complex.proofs.facets.place_in.Given as goal

-- the number stands between the places
pub record Between (list : List ℕ) (number low high : ℕ) : Type 0 where
  pub within : high ≤ length list
  pub place : ℕ
  pub from : low ≤ place
  pub to : place < high
  pub is : get_or list place 0 ≡ number

abbrev pub invariant-halves : goal.invariant-halves
invariant-halves l = Between l.list l.number l.low l.high

abbrev pub decreases-halves : goal.decreases-halves
decreases-halves l = l.high - l.low
