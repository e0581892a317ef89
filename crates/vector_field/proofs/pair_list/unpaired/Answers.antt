use Rattle.std.proofs.Common.{◌+◌, ap, sym, ◌∙◌, ℕ, List, ◌++◌, ◌∷◌, []}
use Rattle.vector_field.proofs.Unpaired.{unpaired_taken, unpaired_free}
use Rattle.vector_field.proofs.pair_list.unpaired.Goals as goal
use Rattle.vector_field.proofs.pair_list.unpaired.Goals.{then-not-is_used+in_ok-push, else-not-is_used}

pub loop-index-preserved : goal.loop-index-preserved
loop-index-preserved c =
    elim c.if-not-is_used.branch [
      | then-not-is_used+in_ok-push w ↦
          ap (λ v. v.items) w.cells-is ∙ (w.in_ok-push.ensures.items ∙ (ap (λ (xs : List ℕ). xs ++ (c.loop-index.index + 1) ∷ []) c.loop-index.invariant ∙ sym (unpaired_free c.args.pairing.now.pairs c.args.dim c.loop-index.index (sym c.is_used.ensures ∙ w.if-not-is_used.true))))
      | else-not-is_used w ↦
          ap (λ v. v.items) w.cells-is ∙ (c.loop-index.invariant ∙ sym (unpaired_taken c.args.pairing.now.pairs c.args.dim c.loop-index.index (sym c.is_used.ensures ∙ w.if-not-is_used.false)))
    ]
