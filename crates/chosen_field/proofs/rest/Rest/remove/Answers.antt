use Rattle.std.proofs.Common.{◌∙◌, arith}
use Rattle.chosen_field.proofs.Less.{less-more}
use Rattle.chosen_field.proofs.rest.Rest.remove.Goals as goal

pub loop-facet-preserved : goal.loop-facet-preserved
loop-facet-preserved c =
    let r = c.requires.facets c.loop-facet.facet-index 0 c.loop-facet-test.true in (
      c.leave.ensures.cells ∙ c.loop-facet.invariant.0,
      c.leave.ensures.len ∙ c.loop-facet.invariant.1,
      less-more c.args.self.now.shared c.loop-facet.self.shared c.leave.new.self.shared c.args.facets.now c.loop-facet.facet-index c.requires.rise c.loop-facet-test.true r.0 (omega (arith, r.1, c.loop-facet.invariant.1))
          c.in_ok-leave.ensures.shared c.loop-facet.invariant.2,
    )
