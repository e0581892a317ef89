use Rattle.std.proofs.Common.{ap, subst, ◌∙◌}
use Rattle.std.proofs.lemmas.Result.{IfOk-weaker}
use Rattle.space_parts.specs.Laws.{IsWhole}
use Rattle.edge_words.specs.Labels.{Labelled}
use Rattle.part_covers.proofs.Stages.{labels_lift}
use Rattle.part_covers.proofs.totals.labels_on.Goals as goal

pub returns-clause-labels : goal.returns-clause-labels
returns-clause-labels c =
    IfOk-weaker c.labels.result _ _
    (λ l h. ap (λ (x : Labelled). x.labels) h
    ∙ labels_lift c.labels_are_the_lift.ensures c.chosen_is_good.ensures c.args.part.now.space c.args.presentation.now c.args.table.now
    (subst IsWhole c.space-space.ensures.same c.space-space.ensures.whole) c.requires.presentation c.requires.columns c.requires.cover)
    c.labels.ensures.labels
