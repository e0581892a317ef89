use Rattle.std.proofs.Common.{ℕ, List, ◌+◌, ◌++◌, ◌∷◌, [], map, ap, sym, ◌∙◌}
use Rattle.std.proofs.lemmas.List.{map-append, append_assoc}
use Rattle.face_poset.specs.Words.{upto}
use Rattle.number_lists.proofs.CallerLemmas.{upto_more}
use Rattle.order_complex.specs.Chains.{faces_of}
use Rattle.order_complex.proofs.faces.push_faces.Goals as goal

pub loop-index-preserved : goal.loop-index-preserved
loop-index-preserved c =
    let F : ℕ → List ℕ = faces_of c.args.space.now c.args.dim in
    let n : ℕ = c.loop-index.index in
    c.in_ok-push.ensures.ok
    ∙ ap (λ ids. c.loop-index.faces ++ ids ∷ []) (c.deref.ensures.value ∙ c.in_ok-ids.ensures)
    ∙ ap (λ ls. ls ++ F (n + 1) ∷ []) c.loop-index.invariant
    ∙ append_assoc c.args.faces.now (map F (upto n)) (F (n + 1) ∷ [])
    ∙ ap (λ ls. c.args.faces.now ++ ls) (sym (ap (map F) (upto_more n) ∙ map-append F (upto n) ((n + 1) ∷ [])))
