use Rattle.std.proofs.Common.{◌+◌, ◌-◌, take, drop, length}
use Rattle.array_values.specs.Answers.{gather_from}
use Rattle.array_values.specs.Bits.{bits_of, IsAppended}
use Rattle.array_values.proofs.bits.+push_bits.Given as goal

abbrev pub decreases-push_bits : goal.decreases-push_bits
decreases-push_bits l = length l.sizes.now - l.level

abbrev pub invariant-loop-index : goal.invariant-loop-index
invariant-loop-index l = IsAppended (gather_from 0 (λ _ w. bits_of (drop (l.level + 1) l.sizes) w) (take l.index l.items)) l.fn.bits.items l.bits.items
