use Rattle.std.proofs.Common.{◌+◌}
use Rattle.order_complex.specs.Chains.{cells_before}
use Rattle.order_complex.specs.Counting.{IsTally}
use Rattle.order_complex.proofs.counts.tally_dimension.Given as goal

abbrev pub invariant-loop-index : goal.invariant-loop-index
invariant-loop-index l = IsTally l.space (cells_before l.space l.dim + l.index) l.tally.pairs.items l.tally.triples.items l.tally.edges l.tally.triangles l.tally.tetrahedra
