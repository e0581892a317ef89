use Rattle.cohomology.specs.RankLines.{HaveRankLines}
use Rattle.cohomology.proofs.ranks.rank_lines.Given as goal

abbrev pub invariant-loop-index : goal.invariant-loop-index
invariant-loop-index g l = HaveRankLines g.F.Field.ops l.fn.reduced l.fn.dim l.fn.echelon l.index l.lines.items
