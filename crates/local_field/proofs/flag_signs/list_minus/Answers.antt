use Rattle.std.proofs.Common.{ℕ, List, [], ◌∷◌, ◌++◌, true, false, take, filter, get_or, append-nil, ap, sym, ◌∙◌}
use Rattle.local_field.specs.Flags.{negative_at}
use Rattle.local_field.proofs.FlagSigns.{filter_more}
use Rattle.local_field.proofs.flag_signs.list_minus.Goals.{then-is_negative+in_ok-push, else-is_negative}
use Rattle.local_field.proofs.flag_signs.list_minus.Goals as goal

pub loop-facet-preserved : goal.loop-facet-preserved
loop-facet-preserved g c =
    let facets : List ℕ = c.args.facets.now in
    let i : ℕ = c.loop-facet.facet-index in
    elim c.if-is_negative.branch [
      | then-is_negative+in_ok-push w ↦
          ap (λ v. v.items) w.minus-is
          ∙ (w.in_ok-push.ensures.items
          ∙ (ap (λ (xs : List ℕ). xs ++ get_or facets i 0 ∷ []) c.loop-facet.invariant ∙ sym (filter_more (negative_at (g.S.Graded.space c.args.signed.now) (g.S.Signed.negative c.args.signed.now) c.args.numbering.now c.args.dim c.args.place) facets i 0 true c.loop-facet-test.true (sym c.is_negative.ensures ∙ w.if-is_negative.true))))
      | else-is_negative w ↦
          ap (λ v. v.items) w.minus-is
          ∙ (c.loop-facet.invariant ∙ (sym (append-nil (filter (negative_at (g.S.Graded.space c.args.signed.now) (g.S.Signed.negative c.args.signed.now) c.args.numbering.now c.args.dim c.args.place) (take i facets))) ∙ sym (filter_more (negative_at (g.S.Graded.space c.args.signed.now) (g.S.Signed.negative c.args.signed.now) c.args.numbering.now c.args.dim c.args.place) facets i 0 false c.loop-facet-test.true (sym c.is_negative.ensures ∙ w.if-is_negative.false))))
    ]
