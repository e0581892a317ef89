use Rattle.chain_laws.specs.AllLines.{lines_of}
use Rattle.cohomology.specs.Bases.{class_lists}
use Rattle.cohomology.proofs.BasesLemmas.{basis, cycles, extended, flowed, of_critical, pairing}
use Rattle.cohomology.proofs.RankHomology.{entries, holds}
use Rattle.cohomology.proofs.bases.Bases.new.Goals as goal

pub returns-clause-lines : goal.returns-clause-lines
returns-clause-lines g c =
    holds g.F.Field.ops g.met.F.Field.laws c.solutions_are_one.ensures c.solutions_combine.ensures c.bases_extend.ensures c.extensions_pair.ensures c.flows_commute.ensures c.extensions_commute.ensures c.cells_are_counted.ensures c.betti_by_reduced_ranks.ensures c.betti_is_one_number.ensures
    c.equations_are_tests.ensures c.args.reduced.now c.args.chains.now c.args.echelons.now c.requires.echelons c.requires.rows c.in_ok-ranks.ranks c.in_ok-classes.classes c.in_ok-ranks.ensures c.in_ok-classes.ensures

pub returns-clause-basis : goal.returns-clause-basis
returns-clause-basis g c degree small =
    basis g.F.Field.ops g.met.F.Field.laws c.solutions_are_one.ensures c.solutions_combine.ensures c.bases_extend.ensures c.extensions_pair.ensures c.flows_commute.ensures c.args.reduced.now c.requires.echelons.complex c.args.chains.now c.requires.rows degree small
    (lines_of (class_lists c.in_ok-classes.classes) degree) (c.in_ok-classes.ensures degree small)

pub returns-clause-duals : goal.returns-clause-duals
returns-clause-duals g c degree small = record {
  cycles =
      cycles g.F.Field.ops g.met.F.Field.laws c.solutions_are_one.ensures c.solutions_combine.ensures c.bases_extend.ensures c.extensions_pair.ensures c.flows_commute.ensures c.args.reduced.now c.requires.echelons.complex c.args.chains.now c.requires.rows degree small
      (lines_of (class_lists c.in_ok-classes.classes) degree) (c.in_ok-classes.ensures degree small);
  pairing =
      pairing g.F.Field.ops g.met.F.Field.laws c.solutions_are_one.ensures c.solutions_combine.ensures c.bases_extend.ensures c.extensions_pair.ensures c.flows_commute.ensures c.args.reduced.now c.requires.echelons.complex c.args.chains.now c.requires.rows degree small
      (lines_of (class_lists c.in_ok-classes.classes) degree) (c.in_ok-classes.ensures degree small);
}

pub returns-clause-entries : goal.returns-clause-entries
returns-clause-entries g c =
    entries g.F.Field.ops g.met.F.Field.laws c.solutions_are_one.ensures c.solutions_combine.ensures c.bases_extend.ensures c.extensions_pair.ensures c.flows_commute.ensures c.extensions_commute.ensures c.cells_are_counted.ensures c.betti_by_reduced_ranks.ensures
    c.betti_is_one_number.ensures c.equations_are_tests.ensures c.args.reduced.now c.args.chains.now c.args.echelons.now c.requires.echelons c.requires.rows c.in_ok-ranks.ranks c.in_ok-classes.classes c.in_ok-ranks.ensures c.in_ok-classes.ensures

pub returns-clause-extensions : goal.returns-clause-extensions
returns-clause-extensions g c degree small =
    extended g.F.Field.ops g.met.F.Field.laws c.solutions_are_one.ensures c.solutions_combine.ensures c.bases_extend.ensures c.extensions_pair.ensures c.flows_commute.ensures c.args.reduced.now c.requires.echelons.complex c.args.chains.now c.requires.rows degree small
    (lines_of (class_lists c.in_ok-classes.classes) degree) (c.in_ok-classes.ensures degree small)

pub returns-clause-flows : goal.returns-clause-flows
returns-clause-flows g c degree small =
    flowed g.F.Field.ops g.met.F.Field.laws c.solutions_are_one.ensures c.solutions_combine.ensures c.bases_extend.ensures c.extensions_pair.ensures c.flows_commute.ensures c.args.reduced.now c.requires.echelons.complex c.args.chains.now c.requires.rows degree small
    (lines_of (class_lists c.in_ok-classes.classes) degree) (c.in_ok-classes.ensures degree small)

pub returns-clause-critical : goal.returns-clause-critical
returns-clause-critical g c degree small =
    of_critical g.F.Field.ops g.met.F.Field.laws c.solutions_are_one.ensures c.solutions_combine.ensures c.bases_extend.ensures c.extensions_pair.ensures c.flows_commute.ensures c.args.reduced.now c.requires.echelons.complex c.args.chains.now c.requires.rows degree small
    (lines_of (class_lists c.in_ok-classes.classes) degree) (c.in_ok-classes.ensures degree small)
