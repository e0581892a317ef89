use Rattle.std.proofs.Common.{ℕ, ◌++◌, ◌∷◌, [], List, ap, ◌∙◌}
use Rattle.field_matrix.proofs.Built.{mark_more}
use Rattle.field_matrix.proofs.joined.push_beside.Goals as goal

pub loop-at-preserved : goal.loop-at-preserved
loop-at-preserved c =
    c.in_ok-push.ensures.items ∙ (ap (λ (w : List ℕ). w ++ c.indicator.result ∷ []) c.loop-at.invariant
    ∙ mark_more c.args.joined.now.items c.args.row.now c.args.count c.args.place c.loop-at.at c.indicator.result c.loop-at-test.true c.indicator.ensures)
