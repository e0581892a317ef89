use Rattle.std.proofs.Common.{◌++◌, ◌∷◌, [], map, append_assoc, refl, sym, ◌∙◌}
use Rattle.face_poset.specs.Text.{cell_text, layer_text, commas}
use Rattle.hap_outside.proofs.CallerLemmas.{gathers_next, gathers_fail, gathers_break}
use Rattle.face_poset.proofs.TextLemmas.{layer-parts}
use Rattle.face_poset.proofs.printer.put_layer.Goals as goal

pub returns-in_err-open_list-clause-bytes : goal.returns-in_err-open_list-clause-bytes
returns-in_err-open_list-clause-bytes g c =
    gathers_fail _ _ _ _ (c.args.lead.now ++ 91 ∷ []) ((commas (map (cell_text c.args.dim) c.args.cells.now)) ++ 93 ∷ []) (c.args.lead.now ++ layer_text c.args.dim c.args.cells.now) _ c.from_residual.result c.from_residual.ensures.0 c.in_err-open_list.ensures.bytes
    (sym (append_assoc (c.args.lead.now ++ 91 ∷ []) (commas (map (cell_text c.args.dim) c.args.cells.now)) (93 ∷ [])) ∙ (layer-parts c.args.lead.now c.args.dim c.args.cells.now))

pub returns-in_err-put_cells-clause-bytes : goal.returns-in_err-put_cells-clause-bytes
returns-in_err-put_cells-clause-bytes g c =
    gathers_break _ _ _ _ _ _ (c.args.lead.now ++ 91 ∷ []) (commas (map (cell_text c.args.dim) c.args.cells.now)) (93 ∷ []) (c.args.lead.now ++ layer_text c.args.dim c.args.cells.now) _ _ c.from_residual-in_err-put_cells.result
    c.in_ok-open_list.ensures.bytes c.from_residual-in_err-put_cells.ensures.0 c.in_err-put_cells.ensures.bytes (layer-parts c.args.lead.now c.args.dim c.args.cells.now)

pub returns-clause-bytes : goal.returns-clause-bytes
returns-clause-bytes g c =
    gathers_next _ _ _ _ _ _ ((c.args.lead.now ++ 91 ∷ []) ++ (commas (map (cell_text c.args.dim) c.args.cells.now))) (93 ∷ []) (c.args.lead.now ++ layer_text c.args.dim c.args.cells.now) _ c.put_text.result
    (layer-parts c.args.lead.now c.args.dim c.args.cells.now)
    (gathers_next _ _ _ _ _ _ _ _ _ _ _ refl c.in_ok-open_list.ensures.bytes c.in_ok-put_cells.ensures.bytes) c.put_text.ensures.bytes
