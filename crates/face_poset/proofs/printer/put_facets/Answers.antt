use Rattle.std.proofs.Common.{◌∷◌, ◌∙◌, take, drop, get_or, ◌+◌, decimal}
use Rattle.face_poset.specs.Text.{facet_texts}
use Rattle.hap_outside.proofs.CallerLemmas.{gathers_next, gathers_break}
use Rattle.face_poset.proofs.TextLemmas.{facets-split, facets-more}
use Rattle.face_poset.proofs.printer.put_facets.Goals as goal

pub returns-in_err-put_facet-clause-bytes : goal.returns-in_err-put_facet-clause-bytes
returns-in_err-put_facet-clause-bytes g c =
    gathers_break _ _ _ _ _ _ (facet_texts (take c.loop-facet.facet-index c.args.facets.now)) (44 ∷ decimal (get_or c.args.facets.now c.loop-facet.facet-index 0))
    (facet_texts (drop (c.loop-facet.facet-index + 1) c.args.facets.now)) (facet_texts c.args.facets.now) _ _ c.from_residual.result
    c.loop-facet.invariant.bytes c.from_residual.ensures.0 c.in_err-put_facet.ensures.bytes (facets-split c.args.facets.now c.loop-facet.facet-index c.loop-facet-test.true)

pub loop-facet-preserved : goal.loop-facet-preserved
loop-facet-preserved g c = record {
  bytes = gathers_next _ _ _ _ _ _ _ _ _ _ _ (facets-more c.args.facets.now c.loop-facet.facet-index 0 c.loop-facet-test.true) c.loop-facet.invariant.bytes c.in_ok-put_facet.ensures.bytes;
  still = c.in_ok-put_facet.ensures.cause.kept ∙ c.loop-facet.invariant.still;
}
