use Rattle.std.proofs.Common.{◌≡◌, take, drop}
use Rattle.vector_field.specs.Pairs.{counts_of, bad_from, first_bad}
use Rattle.vector_field.proofs.pair_list.PairList.from_pairs.Given as goal

abbrev pub invariant-loop-index : goal.invariant-loop-index
invariant-loop-index g l =
    (l.pairing.counts ≡ counts_of (g.G.Graded.space l.graded))
    × (l.pairing.pairs ≡ take l.index l.pairs)
    × (bad_from (g.G.Graded.space l.graded) (take l.index l.pairs) l.index (drop l.index l.pairs) ≡ first_bad (g.G.Graded.space l.graded) l.pairs)
