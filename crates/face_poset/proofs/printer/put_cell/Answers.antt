use Rattle.std.proofs.Common.{◌++◌, ◌∷◌, [], length, decimal, append_assoc, refl, sym, ◌∙◌}
use Rattle.face_poset.specs.Text.{cell_text, facet_texts}
use Rattle.hap_outside.proofs.CallerLemmas.{gathers_next, gathers_fail, gathers_break}
use Rattle.face_poset.proofs.TextLemmas.{cell-parts}
use Rattle.face_poset.proofs.printer.put_cell.Goals as goal

pub returns-in_err-open_cell-clause-bytes : goal.returns-in_err-open_cell-clause-bytes
returns-in_err-open_cell-clause-bytes g c =
    gathers_fail _ _ _ _ (c.args.lead.now ++ 91 ∷ decimal (length c.args.facets.now)) ((facet_texts c.args.facets.now) ++ 93 ∷ []) (c.args.lead.now ++ cell_text c.args.dim c.args.facets.now) _ c.from_residual.result c.from_residual.ensures.0 c.in_err-open_cell.ensures.bytes
    (sym (append_assoc (c.args.lead.now ++ 91 ∷ decimal (length c.args.facets.now)) (facet_texts c.args.facets.now) (93 ∷ [])) ∙ (cell-parts c.args.lead.now c.args.dim c.args.facets.now c.if-dim-eq0.false))

pub returns-in_err-put_facets-clause-bytes : goal.returns-in_err-put_facets-clause-bytes
returns-in_err-put_facets-clause-bytes g c =
    gathers_break _ _ _ _ _ _ (c.args.lead.now ++ 91 ∷ decimal (length c.args.facets.now)) (facet_texts c.args.facets.now) (93 ∷ []) (c.args.lead.now ++ cell_text c.args.dim c.args.facets.now) _ _ c.from_residual-in_err-put_facets.result
    c.in_ok-open_cell.ensures.bytes c.from_residual-in_err-put_facets.ensures.0 c.in_err-put_facets.ensures.bytes (cell-parts c.args.lead.now c.args.dim c.args.facets.now c.if-dim-eq0.false)

pub returns-clause-bytes : goal.returns-clause-bytes
returns-clause-bytes g c =
    gathers_next _ _ _ _ _ _ ((c.args.lead.now ++ 91 ∷ decimal (length c.args.facets.now)) ++ (facet_texts c.args.facets.now)) (93 ∷ []) (c.args.lead.now ++ cell_text c.args.dim c.args.facets.now) _ c.put_text.result
    (cell-parts c.args.lead.now c.args.dim c.args.facets.now c.if-dim-eq0.false)
    (gathers_next _ _ _ _ _ _ _ _ _ _ _ refl c.in_ok-open_cell.ensures.bytes c.in_ok-put_facets.ensures.bytes) c.put_text.ensures.bytes
