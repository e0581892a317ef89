use Rattle.std.proofs.Common.{◌≡◌, ◌++◌, take}
use Rattle.vector_field.proofs.pairing.Pairing.extend.Given as goal

abbrev pub invariant-loop-pair : goal.invariant-loop-pair
invariant-loop-pair l = (l.self.counts ≡ l.fn.self.counts) × (l.self.pairs ≡ l.fn.self.pairs ++ take l.pair-index l.pairs)
