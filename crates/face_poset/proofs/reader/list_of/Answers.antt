use Rattle.std.proofs.Common.{ap, ◌∙◌}
use Rattle.gap_text.specs.Nest.{view}
use Rattle.gap_text.specs.declared.nest.Nest.{Nest}
use Rattle.face_poset.specs.Reader.{as_list}
use Rattle.face_poset.proofs.Values.{as_list-is}
use Rattle.face_poset.proofs.reader.list_of.Goals as goal

pub returns-in-List-clause-items : goal.returns-in-List-clause-items
returns-in-List-clause-items c = ap (λ (n : Nest). as_list (view n)) c.in-List.is ∙ as_list-is c.in-List.place c.in-List.items
