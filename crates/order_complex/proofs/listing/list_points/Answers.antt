use Rattle.std.proofs.Common.{◌+◌, ◌∷◌, ◌++◌, [], List, ℕ, ap, sym, ◌∙◌, map}
use Rattle.std.proofs.lemmas.List.{map-append}
use Rattle.number_lists.specs.Words.{upto}
use Rattle.number_lists.proofs.CallerLemmas.{upto_more}
use Rattle.order_complex.proofs.listing.list_points.Goals as goal

pub loop-index-preserved : goal.loop-index-preserved
loop-index-preserved c =
    c.in_ok-push.ensures.items ∙ ap (λ (ls : List (List ℕ)). ls ++ ((c.loop-index.index + 1) ∷ []) ∷ []) c.loop-index.invariant
    ∙ sym (ap (map {B = List ℕ} (λ cell. cell ∷ [])) (upto_more c.loop-index.index) ∙ map-append {B = List ℕ} (λ cell. cell ∷ []) (upto c.loop-index.index) ((c.loop-index.index + 1) ∷ []))
