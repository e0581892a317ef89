use Rattle.std.proofs.Common.{◌∙◌}
use Rattle.cohomology.proofs.Writing.{below_here, cells_long, into_here, sides_here, values_many, written}
use Rattle.cohomology.proofs.bases.Bases.class_of.Goals as goal

pub dual_values-requires : goal.dual_values-requires
dual_values-requires g c =
    sides_here g.F.Field.ops g.met.F.Field.laws c.solutions_are_one.ensures c.extensions_commute.ensures c.extensions_pair.ensures c.flows_commute.ensures c.cocycles_are_extensions.ensures c.values_fit_entries.ensures c.args.reduced.now c.requires.echelons.complex c.args.chains.now c.requires.rows
    c.args.self.now c.requires.bases c.args.degree c.requires.degree c.args.x.now c.requires.cocycle c.classes-lines.result.now c.classes-lines.ensures

pub without_classes-requires-clause-sides : goal.without_classes-requires-clause-sides
without_classes-requires-clause-sides g c =
    sides_here g.F.Field.ops g.met.F.Field.laws c.solutions_are_one.ensures c.extensions_commute.ensures c.extensions_pair.ensures c.flows_commute.ensures c.cocycles_are_extensions.ensures c.values_fit_entries.ensures c.args.reduced.now c.requires.echelons.complex c.args.chains.now c.requires.rows
    c.args.self.now c.requires.bases c.args.degree c.requires.degree c.args.x.now c.requires.cocycle c.classes-lines.result.now c.classes-lines.ensures

pub without_classes-requires-clause-count : goal.without_classes-requires-clause-count
without_classes-requires-clause-count g c =
    values_many g.F.Field.ops g.met.F.Field.laws c.solutions_are_one.ensures c.extensions_commute.ensures c.extensions_pair.ensures c.flows_commute.ensures c.cocycles_are_extensions.ensures c.values_fit_entries.ensures c.args.reduced.now c.requires.echelons.complex c.args.chains.now c.requires.rows
    c.args.self.now c.requires.bases c.args.degree c.requires.degree c.args.x.now c.requires.cocycle c.classes-lines.result.now c.classes-lines.ensures c.in_ok-values.values c.in_ok-values.ensures

pub clear-requires-clause-cochain : goal.clear-requires-clause-cochain
clear-requires-clause-cochain g c =
    c.in_ok-rest.ensures.long
    ∙ cells_long g.F.Field.ops g.met.F.Field.laws c.solutions_are_one.ensures c.extensions_commute.ensures c.extensions_pair.ensures c.flows_commute.ensures c.cocycles_are_extensions.ensures c.values_fit_entries.ensures c.args.reduced.now c.requires.echelons.complex c.args.chains.now c.requires.rows
    c.args.self.now c.requires.bases c.args.degree c.requires.degree c.args.x.now c.requires.cocycle c.classes-lines.result.now c.classes-lines.ensures

pub bound_of-requires-clause-into : goal.bound_of-requires-clause-into
bound_of-requires-clause-into g c =
    into_here g.F.Field.ops g.met.F.Field.laws c.solutions_are_one.ensures c.extensions_commute.ensures c.extensions_pair.ensures c.flows_commute.ensures c.cocycles_are_extensions.ensures c.values_fit_entries.ensures c.args.reduced.now c.requires.echelons.complex c.args.chains.now c.requires.rows
    c.args.self.now c.requires.bases c.args.degree c.requires.degree c.args.x.now c.requires.cocycle c.classes-lines.result.now c.classes-lines.ensures c.in_ok-values.values c.in_ok-rest.rest c.in_ok-values.ensures c.len-values.ensures.elements c.in_ok-rest.ensures.long c.len-rest.ensures.elements c.in_ok-rest.ensures.sum
    c.in_ok-cleared.cleared.w c.in_ok-cleared.cleared.y c.in_ok-cleared.ensures

pub bound_of-requires-clause-below : goal.bound_of-requires-clause-below
bound_of-requires-clause-below g c =
    below_here g.F.Field.ops g.met.F.Field.laws c.solutions_are_one.ensures c.extensions_commute.ensures c.extensions_pair.ensures c.flows_commute.ensures c.cocycles_are_extensions.ensures c.values_fit_entries.ensures c.args.reduced.now c.requires.echelons.complex c.args.chains.now c.requires.rows
    c.args.self.now c.requires.bases c.args.degree c.requires.degree c.args.x.now c.requires.cocycle c.classes-lines.result.now c.classes-lines.ensures c.in_ok-values.values c.in_ok-rest.rest c.in_ok-values.ensures c.len-values.ensures.elements c.in_ok-rest.ensures.long c.len-rest.ensures.elements c.in_ok-rest.ensures.sum
    c.in_ok-cleared.cleared.w c.in_ok-cleared.cleared.y c.in_ok-cleared.ensures

pub returns : goal.returns
returns g c =
    written g.F.Field.ops g.met.F.Field.laws c.solutions_are_one.ensures c.extensions_commute.ensures c.extensions_pair.ensures c.flows_commute.ensures c.cocycles_are_extensions.ensures c.values_fit_entries.ensures c.args.reduced.now c.requires.echelons.complex c.args.chains.now c.requires.rows
    c.args.self.now c.requires.bases c.args.degree c.requires.degree c.args.x.now c.requires.cocycle c.classes-lines.result.now c.classes-lines.ensures c.in_ok-values.values c.in_ok-rest.rest c.in_ok-values.ensures c.len-values.ensures.elements c.in_ok-rest.ensures.long c.len-rest.ensures.elements c.in_ok-rest.ensures.sum
    c.in_ok-cleared.cleared.w c.in_ok-cleared.cleared.y c.in_ok-cleared.ensures c.equations_are_tests.ensures c.in_ok-bound.bound c.in_ok-bound.ensures (record { coefficients = c.in_ok-entries_of.field-0; bound = c.in_ok-entries_of-2.field-0 }) c.in_ok-entries_of.ensures.entries c.in_ok-entries_of.ensures.cochain c.in_ok-entries_of-2.ensures.entries c.in_ok-entries_of-2.ensures.cochain
