use Rattle.std.proofs.Common.{◌++◌, ◌∷◌, [], ◌+◌, append_assoc, refl, sym, ◌∙◌}
use Rattle.face_poset.specs.Text.{layers_text, layer_texts, commas}
use Rattle.hap_outside.proofs.CallerLemmas.{gathers_next, gathers_fail, gathers_break}
use Rattle.face_poset.proofs.TextLemmas.{layers-parts}
use Rattle.face_poset.proofs.printer.put_layers.Goals as goal

pub returns-in_err-put_text-clause-bytes : goal.returns-in_err-put_text-clause-bytes
returns-in_err-put_text-clause-bytes g c =
    gathers_fail _ _ _ _ (91 ∷ []) (commas (layer_texts c.args.layers.now (c.args.dimension + 1)) ++ 93 ∷ 10 ∷ []) (layers_text c.args.layers.now c.args.dimension) _ c.from_residual.result c.from_residual.ensures.0 c.in_err-put_text.ensures.bytes
    (sym (append_assoc (91 ∷ []) (commas (layer_texts c.args.layers.now (c.args.dimension + 1))) (93 ∷ 10 ∷ [])) ∙ layers-parts c.args.layers.now c.args.dimension)

pub returns-in_err-put_items-clause-bytes : goal.returns-in_err-put_items-clause-bytes
returns-in_err-put_items-clause-bytes g c =
    gathers_break _ _ _ _ _ _ (91 ∷ []) (commas (layer_texts c.args.layers.now (c.args.dimension + 1))) (93 ∷ 10 ∷ []) (layers_text c.args.layers.now c.args.dimension) _ _ c.from_residual-in_err-put_items.result
    c.in_ok-put_text.ensures.bytes c.from_residual-in_err-put_items.ensures.0 c.in_err-put_items.ensures.bytes (layers-parts c.args.layers.now c.args.dimension)

pub returns-clause-bytes : goal.returns-clause-bytes
returns-clause-bytes g c =
    gathers_next _ _ _ _ _ _ ((91 ∷ []) ++ commas (layer_texts c.args.layers.now (c.args.dimension + 1))) (93 ∷ 10 ∷ []) (layers_text c.args.layers.now c.args.dimension) _ c.put_text-2.result
    (layers-parts c.args.layers.now c.args.dimension)
    (gathers_next _ _ _ _ _ _ _ _ _ _ _ refl c.in_ok-put_text.ensures.bytes c.in_ok-put_items.ensures.bytes) c.put_text-2.ensures.bytes
