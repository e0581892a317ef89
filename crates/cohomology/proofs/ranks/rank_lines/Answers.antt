use Rattle.cohomology.proofs.ReducedLines.{no_rest, rest_more}
use Rattle.cohomology.proofs.ranks.rank_lines.Goals as goal

pub loop-index-init : goal.loop-index-init
loop-index-init g c = no_rest g.F.Field.ops c.args.reduced.now c.args.dim c.args.echelon.now c.in_ok-lines.lines.items c.in_ok-lines.ensures.lines c.in_ok-lines.ensures.many

pub loop-index-preserved : goal.loop-index-preserved
loop-index-preserved g c =
    rest_more g.F.Field.ops c.args.reduced.now c.args.dim c.args.echelon.now c.loop-index.index c.loop-index.lines.items c.push.new.self.items c.in_ok-line.line c.loop-index.invariant c.in_ok-line.ensures c.in_ok-push.ensures.items
