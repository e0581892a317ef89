use Rattle.std.proofs.Common.{ℕ, List, ◌++◌, map, ap, sym, ◌∙◌}
use Rattle.face_poset.specs.Words.{upto}
use Rattle.face_poset.specs.Poset.{count}
use Rattle.order_complex.specs.Chains.{faces_of}
use Rattle.order_complex.proofs.FaceIds.{all_faces-parts}
use Rattle.order_complex.proofs.faces.faces_in.Goals as goal

pub returns-clause-faces : goal.returns-clause-faces
returns-clause-faces c =
    let F : ℕ → List (List ℕ) = λ dim. map (faces_of c.args.space.now dim) (upto (count c.args.space.now dim)) in
    c.in_ok-push_faces-4.ensures
    ∙ ap (λ ls. ls ++ F 3)
    (c.in_ok-push_faces-3.ensures ∙ ap (λ ls. ls ++ F 2) (c.in_ok-push_faces-2.ensures ∙ ap (λ ls. ls ++ F 1) (c.in_ok-push_faces.ensures ∙ ap (λ ls. ls ++ F 0) c.new-faces.ensures)))
    ∙ sym (all_faces-parts c.args.space.now)
