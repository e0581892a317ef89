use Rattle.std.proofs.Common.{◌≡◌, ◌+◌}
use Rattle.std.specs.Prelude.{slice_set}
use Rattle.face_poset.specs.Poset.{layer, count}
use Rattle.cert_lines.specs.Readers.{many}
use Rattle.cert_text.specs.Reading.{read_face}
use Rattle.cert_text.specs.Taking.{onto}
use Rattle.cert_text.proofs.space.read_layer.Given as goal

abbrev pub invariant-faces : goal.invariant-faces
invariant-faces l =
    record {
      read : many l.faces (read_face l.version l.dim l.below) l.fn.lines ≡ onto (layer l.builder l.dim) (many l.left (read_face l.version l.dim l.below) l.lines);
      layers : l.builder ≡ slice_set l.fn.builder l.dim (layer l.builder l.dim);
      faces : count l.builder l.dim + l.left ≡ l.faces;
    }

abbrev pub decreases-faces : goal.decreases-faces
decreases-faces l = l.left
