use Rattle.std.proofs.Common.{◌≡◌, IfOk, subst}
use Rattle.face_poset.specs.Poset.{Layers}
use Rattle.chosen_field.specs.Chosen.{chosen}
use Rattle.part_groups.proofs.field.tree_field_of.Goals as goal

pub returns-clause-chosen : goal.returns-clause-chosen
returns-clause-chosen c = subst (λ (s : Layers). IfOk c.tree_field.result (λ field. field.pairs ≡ chosen s)) c.in_ok-regular.ensures.same c.tree_field.ensures.pairs
