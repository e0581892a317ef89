use Rattle.std.proofs.Common.{◌≡◌, ◌↔◌, Bool, List, ℕ, IsTrue, sym, ◌∙◌}
use Rattle.face_poset.specs.declared.cells.Pair.{Pair}
use Rattle.vector_field.specs.Maximal.{IsMaximal, is_maximal}
use Rattle.vector_field.proofs.MaximalTest.{maximal_is_exact}
use Rattle.vector_field.proofs.maximal.is_maximal.Goals as goal

told : (space : List (List (List ℕ))) (pairs : List Pair) (answer : Bool) → answer ≡ is_maximal space pairs → IsTrue answer ↔ IsMaximal space pairs
told space pairs answer e = (λ h. (maximal_is_exact space pairs).0 (sym e ∙ h), λ h. e ∙ (maximal_is_exact space pairs).1 h)

pub returns-clause-maximal : goal.returns-clause-maximal
returns-clause-maximal g c = told (g.G.Graded.space c.args.graded.now) c.args.field.now.pairs c.in_ok-answer.answer c.in_ok-answer.ensures
