use Rattle.std.proofs.Common.{◌∙◌, ap, sym, Ok, rules}
use Rattle.std.specs.Prelude.{slice_set}
use Rattle.face_poset.specs.Poset.{Layers, layer}
use Rattle.cert_text.proofs.TakingLemmas.{breaks}
use Rattle.cert_text.proofs.LayerLemmas.{edges-fail, faces-fail, solids-fail, layers-read}
use Rattle.cert_text.proofs.space.read_faces.Goals as goal

pub returns-in_err-add_points : goal.returns-in_err-add_points
returns-in_err-add_points c = breaks _ _ _ c.from_residual.result c.in_err-add_points.field-0.0 (search rules) (λ h. absurd (h c.in_err-add_points.ensures.memory))

pub returns-in_err-read_layer : goal.returns-in_err-read_layer
returns-in_err-read_layer c =
    breaks _ _ _ c.from_residual-in_err-read_layer.result c.in_err-read_layer.field-0.0 (search rules)
    (λ h. edges-fail c.args.version c.args.cells c.args.lines.now c.in_err-read_layer.field-0.0 (c.in_err-read_layer.ensures.read h))

pub returns-in_err-read_layer-2 : goal.returns-in_err-read_layer-2
returns-in_err-read_layer-2 c =
    breaks _ _ _ c.from_residual-in_err-read_layer-2.result c.in_err-read_layer-2.field-0.0 (search rules)
    (λ h. faces-fail c.args.version c.args.cells c.args.lines.now c.read_layer.new.lines _ c.in_err-read_layer-2.field-0.0 c.in_ok-read_layer.ensures.read (c.in_err-read_layer-2.ensures.read h))

pub returns-in_err-read_layer-3 : goal.returns-in_err-read_layer-3
returns-in_err-read_layer-3 c =
    breaks _ _ _ c.from_residual-in_err-read_layer-3.result c.in_err-read_layer-3.field-0.0 (search rules)
    (λ h. solids-fail c.args.version c.args.cells c.args.lines.now c.read_layer.new.lines c.read_layer-2.new.lines _ _ c.in_err-read_layer-3.field-0.0 c.in_ok-read_layer.ensures.read c.in_ok-read_layer-2.ensures.read (c.in_err-read_layer-3.ensures.read h))

pub returns : goal.returns
returns c =
    layers-read c.args.version c.args.cells c.args.lines.now c.read_layer.new.lines c.read_layer-2.new.lines c.read_layer-3.new.lines c.read_layer.new.builder c.read_layer-2.new.builder c.read_layer-3.new.builder
    c.in_ok-read_layer.ensures.read c.in_ok-read_layer-2.ensures.read c.in_ok-read_layer-3.ensures.read
    (c.in_ok-read_layer.ensures.layers ∙ ap (λ (b : Layers). slice_set b 1 (layer c.read_layer.new.builder 1)) c.in_ok-add_points.ensures.points) c.in_ok-read_layer-2.ensures.layers c.in_ok-read_layer-3.ensures.layers
    ∙ ap (λ (b : Layers). Ok (b, c.read_layer-3.new.lines)) (sym c.in_ok-finish.ensures)
