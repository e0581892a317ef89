use Rattle.std.proofs.Common.{◌≡◌, ◌+◌, ◌-◌, ◌<◌, ◌≤◌, ◌/◌, ℕ, List, get_or, ap, arith}
use Rattle.std.specs.List.Sorted.{IsStrictlyIncreasing}
use Rattle.std.proofs.lemmas.List.Kept.{AllPairs-from_increasing}
use native.Mathlib.Decide.{dec_lt}
use Prim.{yes, no}
use Rattle.order_complex.proofs.facets.place_in.Invariants.{Between}
use Rattle.order_complex.proofs.facets.place_in.Goals as goal

from_middle : (list : List ℕ) (number low high middle : ℕ) → IsStrictlyIncreasing list → Between list number low high → middle < high → get_or list middle 0 ≤ number → Between list number middle high
from_middle list number low high middle rises h l le =
    elim (dec_lt h.place middle) [
      | yes a ↦ absurd (omega (arith, AllPairs-from_increasing list rises h.place middle 0 a (omega (arith, h.within)), h.is))
      | no a ↦ record { within = h.within; place = h.place; from = omega arith; to = h.to; is = h.is }
    ]

to_middle : (list : List ℕ) (number low high middle : ℕ) → IsStrictlyIncreasing list → Between list number low high → middle < high → number < get_or list middle 0 → Between list number low middle
to_middle list number low high middle rises h l less =
    elim (dec_lt h.place middle) [
      | yes a ↦ record { within = omega (arith, h.within); place = h.place; from = h.from; to = a; is = h.is }
      | no a ↦ absurd (elim (dec_lt middle h.place) [
        | yes b ↦ omega (arith, AllPairs-from_increasing list rises middle h.place 0 b (omega (arith, h.within, h.to)), h.is)
        | no b ↦ let same : middle ≡ h.place = omega arith in omega (arith, h.is, ap (λ i. get_or list i 0) same)
      ])
    ]

pub halves-preserved-then-list-middle : goal.halves-preserved-then-list-middle
halves-preserved-then-list-middle c =
    from_middle c.args.list.now c.args.number c.halves.low c.halves.high (c.halves.low + (c.halves.high - c.halves.low) / 2) c.requires.rises c.halves.invariant (omega arith) c.if-list-middle.true

pub halves-preserved : goal.halves-preserved
halves-preserved c =
    to_middle c.args.list.now c.args.number c.halves.low c.halves.high (c.halves.low + (c.halves.high - c.halves.low) / 2) c.requires.rises c.halves.invariant (omega arith) c.if-list-middle.false
