use Rattle.std.proofs.Common.{◌≤◌, ◌∙◌, ◌-◌, ◌++◌, ◌∷◌, [], sym, ap, arith, List, ℕ, rules, length}
use Rattle.std.specs.Prelude.{slice_set}
use Rattle.face_poset.specs.Poset.{layer}
use Rattle.cert_lines.specs.Readers.{many}
use Rattle.cert_text.specs.Reading.{read_face}
use Rattle.cert_text.specs.Taking.{onto}
use Rattle.cert_text.proofs.Loops.{many-more, many-broken, length-more}
use Rattle.cert_text.proofs.LayerLemmas.{layer-more}
use Rattle.cert_text.proofs.TakingLemmas.{breaks}
use Rattle.cert_text.proofs.space.read_layer.Goals as goal

pub returns-in_err-facets-clause-read : goal.returns-in_err-facets-clause-read
returns-in_err-facets-clause-read c =
    breaks _ _ _ c.from_residual.result c.in_err-facets.field-0.0 (search rules)
    (λ h. c.faces.invariant.read ∙ many-broken (read_face c.args.version c.args.dim c.args.below) (layer c.faces.builder c.args.dim) c.faces.left c.faces.lines c.in_err-facets.field-0.0 (omega (arith, c.faces-test.true)) (c.in_err-facets.ensures.read h))

pub faces-preserved : goal.faces-preserved
faces-preserved c =
    let xs : List (List ℕ) = layer c.faces.builder c.args.dim in
    let a = layer-more c.args.builder.now c.faces.builder c.add_cell.new.builder c.args.dim xs c.in_ok-facets.facets.items c.requires.four c.requires.high c.faces.invariant.layers
    (c.in_ok-add_cell.ensures.added ∙ ap (λ (facets : List ℕ). slice_set c.faces.builder c.args.dim (xs ++ facets ∷ [])) c.deref.ensures.value) in
    let some : 1 ≤ c.faces.left = omega (arith, c.faces-test.true) in
    record {
      read = c.faces.invariant.read
          ∙ (many-more (read_face c.args.version c.args.dim c.args.below) xs c.faces.left c.faces.lines c.read_face.new.lines c.in_ok-facets.facets.items some c.in_ok-facets.ensures.read
          ∙ ap (λ (ys : List (List ℕ)). onto ys (many (c.faces.left - 1) (read_face c.args.version c.args.dim c.args.below) c.read_face.new.lines)) (sym a.layer_is));
      layers = a.layers;
      faces = omega (arith, some, c.faces.invariant.faces, ap length a.layer_is ∙ length-more xs c.in_ok-facets.facets.items);
    }
