use Rattle.std.proofs.Common.{◌∙◌}
use Rattle.local_field.proofs.Renumbered.{lists-more}
use Rattle.local_field.proofs.renumbering.facets_by_place.Goals as goal

pub loop-index-preserved : goal.loop-index-preserved
loop-index-preserved g c =
    lists-more (g.G.Graded.space c.args.graded.now) c.cells-index-end.ensures.valid c.args.numbering.now c.requires.cells c.args.dim c.loop-index.index c.loop-index.lists c.push.new.self c.deref.result.now c.loop-index.invariant (c.deref.ensures.value ∙ c.in_ok-facets.ensures) c.in_ok-push.ensures.ok
