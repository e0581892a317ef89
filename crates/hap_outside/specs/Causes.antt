-- When a call may answer a fault. Counts are of 64 bits, and stand still at their last value.
--   next_count n                 the count after n
--   Rose before now              a count rose in a call: it is greater after than before, or stands at its last value
--   HasCause before now result   the count never falls, an error comes only where it rose, and an Ok leaves it
--   next_fails listed calls      after so many calls the next one, counted from 1, is one of those that are listed to fail
use Rattle.std.specs.Prelude.{◌≡◌, ◌==◌, ℕ, ◌+◌, ◌-◌, ◌^◌, ◌≤◌, min, Bool, List, Result, OnOk, OnErr}
use Rattle.std.specs.List.{list_any}

abbrev pub next_count : ℕ → ℕ
next_count n = min (n + 1) (2 ^ 64 - 1)

abbrev pub Rose : ℕ → ℕ → Type 0
Rose before now = next_count before ≤ now

pub record HasCause {T E : Type 0} (before now : ℕ) (result : Result T E) : Type 0 where
  pub later : before ≤ now
  pub failed : OnErr result (Rose before now)
  pub kept : OnOk result (now ≡ before)

abbrev pub next_fails : List ℕ → ℕ → Bool
next_fails listed calls = list_any (λ call. call == next_count calls) listed
