use Rattle.std.proofs.Common.{ap, ◌∙◌, sym, length}
use Rattle.gap_text.specs.Nest.{view}
use Rattle.gap_text.specs.declared.nest.Nest.{Nest}
use Rattle.face_poset.specs.Tops.{inner}
use Rattle.face_poset.proofs.Values.{items-values}
use Rattle.face_poset.proofs.reader.size_of.Goals as goal

pub returns-in-List : goal.returns-in-List
returns-in-List c = c.len.ensures ∙ sym (ap (λ (n : Nest). length (inner (view n))) c.in-List.is ∙ ap length (items-values c.in-List.items))
