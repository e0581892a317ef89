use Rattle.pair_stages.specs.Signed.{AreKinds}
use Rattle.pair_stages.proofs.listing.list_kinds.Given as goal

abbrev pub invariant-loop-index : goal.invariant-loop-index
invariant-loop-index l = AreKinds l.field.pairs l.dim l.index l.kinds.items
