use Rattle.std.proofs.Common.{◌+◌, ◌++◌, ◌∷◌, [], ℕ, List, ap, sym, ◌∙◌}
use Rattle.number_lists.proofs.CallerLemmas.{upto_more}
use Rattle.facet_reader.proofs.partial_order.list_points.Goals as goal

pub loop-index-preserved : goal.loop-index-preserved
loop-index-preserved c =
    c.in_ok-push.ensures.items ∙ (ap (λ (xs : List ℕ). xs ++ (c.loop-index.index + 1) ∷ []) c.loop-index.invariant ∙ sym (upto_more c.loop-index.index))
