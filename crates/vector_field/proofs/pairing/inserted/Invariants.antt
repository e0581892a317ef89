use Rattle.std.proofs.Common.{◌≡◌, take, filter, not}
use Rattle.vector_field.specs.Pairings.{is_late}
use Rattle.vector_field.proofs.pairing.inserted.Given as goal

abbrev pub invariant-loop-other : goal.invariant-loop-other
invariant-loop-other l =
    (l.first.items ≡ filter (λ q. not (is_late l.pair.dim l.found.found q)) (take l.other-index l.pairs))
    × (l.late.items ≡ filter (is_late l.pair.dim l.found.found) (take l.other-index l.pairs))
