use Rattle.cohomology.proofs.BasesLemmas.{first_form, next_form}
use Rattle.cohomology.proofs.bases.all_classes.Goals as goal

pub class_lines-requires-clause-form : goal.class_lines-requires-clause-form
class_lines-requires-clause-form g c =
    first_form g.F.Field.ops g.met.F.Field.laws c.args.reduced.now c.in_ok-none.none c.criticals-cells.result (c.in_ok-none.ensures).0 c.criticals-cells.ensures (c.in_ok-none.ensures).1

pub class_lines-requires-2-clause-form : goal.class_lines-requires-2-clause-form
class_lines-requires-2-clause-form g c = next_form g.F.Field.ops c.args.reduced.now 0 c.args.echelons.now.first c.requires.first

pub class_lines-requires-3-clause-form : goal.class_lines-requires-3-clause-form
class_lines-requires-3-clause-form g c = next_form g.F.Field.ops c.args.reduced.now 1 c.args.echelons.now.second c.requires.second

pub class_lines-requires-4-clause-form : goal.class_lines-requires-4-clause-form
class_lines-requires-4-clause-form g c = next_form g.F.Field.ops c.args.reduced.now 2 c.args.echelons.now.third c.requires.third
