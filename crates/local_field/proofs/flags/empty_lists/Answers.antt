use Rattle.std.proofs.Common.{ℕ, ◌+◌, List, [], ◌∷◌, ◌++◌, map, ap, sym, ◌∙◌}
use Rattle.std.proofs.lemmas.List.{map-append}
use Rattle.number_lists.specs.Words.{upto}
use Rattle.number_lists.proofs.CallerLemmas.{upto_more}
use Rattle.local_field.proofs.flags.empty_lists.Goals as goal

pub loop-index-preserved : goal.loop-index-preserved
loop-index-preserved c =
    let i : ℕ = c.loop-index._index in
    let none : ℕ → List ℕ = λ n. [] in
    c.in_ok-push.ensures.ok ∙ (ap (λ (xs : List (List ℕ)). xs ++ [] ∷ []) c.loop-index.invariant ∙ sym (ap (map none) (upto_more i) ∙ map-append none (upto i) ((i + 1) ∷ [])))
