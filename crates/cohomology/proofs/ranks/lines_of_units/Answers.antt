use Rattle.std.proofs.Common.{List, length, arith, ap, ◌∙◌, sym}
use Rattle.std.proofs.lemmas.List.{length-map}
use Rattle.chain_laws.specs.AllLines.{Line}
use Rattle.critical_complex.specs.Complex.{unit_at}
use Rattle.critical_complex.specs.Levels.{units_at}
use Rattle.cohomology.specs.RankLines.{unit_line}
use Rattle.cohomology.proofs.ReducedLines.{all_units, line_is, unit_more}
use Rattle.cohomology.proofs.ranks.lines_of_units.Goals as goal

pub loop-index-preserved : goal.loop-index-preserved
loop-index-preserved g c =
    unit_more (units_at c.args.reduced.now c.args.dim) c.loop-index.index c.loop-index.lines.items c.push.new.self.items c.new.result (omega (arith, c.loop-index-test.true, c.units-index-end.ensures.units)) c.loop-index.invariant (line_is c.new.result c.in_ok-unit.unit (unit_at (units_at c.args.reduced.now c.args.dim) c.loop-index.index) c.new.ensures.left c.new.ensures.right c.in_ok-unit.ensures.unit) c.in_ok-push.ensures.items

pub returns-clause-lines : goal.returns-clause-lines
returns-clause-lines g c = all_units (units_at c.args.reduced.now c.args.dim) c.loop-index.index c.loop-index.lines.items (omega (arith, c.loop-index-test.false, c.units-index-end.ensures.units)) c.loop-index.invariant

pub returns-clause-many : goal.returns-clause-many
returns-clause-many g c =
    ap (λ (xs : List Line). length xs) (all_units (units_at c.args.reduced.now c.args.dim) c.loop-index.index c.loop-index.lines.items (omega (arith, c.loop-index-test.false, c.units-index-end.ensures.units)) c.loop-index.invariant)
    ∙ length-map (units_at c.args.reduced.now c.args.dim) unit_line
    ∙ sym c.units-index-end.ensures.units
    ∙ c.units-index-end.ensures.uppers
