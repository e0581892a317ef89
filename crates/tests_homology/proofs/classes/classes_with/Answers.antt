use Rattle.tests_homology.proofs.classes.classes_with.Goals as goal

pub new-requires-3-clause-rows : goal.new-requires-3-clause-rows
new-requires-3-clause-rows g c =
    c.reductions_have_rows.ensures c.args.chains.now c.in_ok-field.field.pairs c.in_ok-reduced.reduced c.in_ok-reduced.ensures.reduction
