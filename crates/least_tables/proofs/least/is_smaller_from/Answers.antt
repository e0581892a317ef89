use Rattle.std.proofs.Common.{◌≡◌, ◌<◌, ◌+◌, ◌-◌, ◌*◌, suc, subst, arith}
use Rattle.least_tables.proofs.Comparing.{IsCompared, met, cell-below, cell-met, all-compared, finds-smaller, finds-greater, goes-on}
use Rattle.least_tables.proofs.least.is_smaller_from.Goals as goal

pub cell-sheet-requires : goal.cell-sheet-requires
cell-sheet-requires c =
    cell-below c.args.columns c.args.sheets c.args.cells.now c.requires.grown c.args.first c.loop-place.place c.loop-place.known c.loop-place.numbering.numbers c.loop-place.numbering.sheets c.loop-place.invariant.compared
    c.loop-place.row c.loop-place.column (omega arith) c.loop-place.invariant.place c.loop-place.invariant.column

pub overflow_sub-sheet : goal.overflow_sub-sheet
overflow_sub-sheet c =
    let r =
    c.requires.grown.ranged _ (cell-below c.args.columns c.args.sheets c.args.cells.now c.requires.grown c.args.first c.loop-place.place c.loop-place.known c.loop-place.numbering.numbers c.loop-place.numbering.sheets c.loop-place.invariant.compared
    c.loop-place.row c.loop-place.column (omega arith) c.loop-place.invariant.place c.loop-place.invariant.column) in
    omega (arith, r.0, c.cell-sheet.ensures)

pub returns-then-number-cells-clause-some : goal.returns-then-number-cells-clause-some
returns-then-number-cells-clause-some c =
    let l : c.loop-place.place < c.args.sheets * c.args.columns = omega (arith, c.requires.grown.long, c.loop-place-test.true) in
    let is : met c.args.columns c.args.cells.now c.loop-place.numbering.sheets c.loop-place.place ≡ suc (c.cell-sheet.result - 1) =
    cell-met c.args.columns c.args.sheets c.args.cells.now c.requires.grown c.args.first c.loop-place.place c.loop-place.known c.loop-place.numbering.numbers c.loop-place.numbering.sheets c.loop-place.invariant.compared
    c.loop-place.row c.loop-place.column c.cell-sheet.result (omega arith) c.loop-place.invariant.place c.loop-place.invariant.column c.cell-sheet.ensures in
    λ _.
    finds-smaller c.args.columns c.args.sheets c.args.cells.now c.requires.grown c.args.first c.loop-place.place c.loop-place.known c.loop-place.numbering.numbers c.loop-place.numbering.sheets c.loop-place.invariant.compared
    (c.cell-sheet.result - 1) c.give-known.result c.give-known.new.self.numbers c.give-known.new.self.sheets c.requires.most l is c.give-known.ensures (omega (arith, c.if-number-cells.true))

pub returns-then-number-cells-2-clause-none : goal.returns-then-number-cells-2-clause-none
returns-then-number-cells-2-clause-none c =
    let l : c.loop-place.place < c.args.sheets * c.args.columns = omega (arith, c.requires.grown.long, c.loop-place-test.true) in
    let is : met c.args.columns c.args.cells.now c.loop-place.numbering.sheets c.loop-place.place ≡ suc (c.cell-sheet.result - 1) =
    cell-met c.args.columns c.args.sheets c.args.cells.now c.requires.grown c.args.first c.loop-place.place c.loop-place.known c.loop-place.numbering.numbers c.loop-place.numbering.sheets c.loop-place.invariant.compared
    c.loop-place.row c.loop-place.column c.cell-sheet.result (omega arith) c.loop-place.invariant.place c.loop-place.invariant.column c.cell-sheet.ensures in
    λ _.
    finds-greater c.args.columns c.args.sheets c.args.cells.now c.requires.grown c.args.first c.loop-place.place c.loop-place.known c.loop-place.numbering.numbers c.loop-place.numbering.sheets c.loop-place.invariant.compared
    (c.cell-sheet.result - 1) c.give-known.result c.give-known.new.self.numbers c.give-known.new.self.sheets c.requires.most l is c.give-known.ensures (omega (arith, c.if-number-cells-2.true))

pub loop-place-preserved : goal.loop-place-preserved
loop-place-preserved c =
    let l : c.loop-place.place < c.args.sheets * c.args.columns = omega (arith, c.requires.grown.long, c.loop-place-test.true) in
    let is : met c.args.columns c.args.cells.now c.loop-place.numbering.sheets c.loop-place.place ≡ suc (c.cell-sheet.result - 1) =
    cell-met c.args.columns c.args.sheets c.args.cells.now c.requires.grown c.args.first c.loop-place.place c.loop-place.known c.loop-place.numbering.numbers c.loop-place.numbering.sheets c.loop-place.invariant.compared
    c.loop-place.row c.loop-place.column c.cell-sheet.result (omega arith) c.loop-place.invariant.place c.loop-place.invariant.column c.cell-sheet.ensures in
    let more : suc c.loop-place.place ≡ c.loop-place.place + 1 = omega arith in
    record {
      compared =
          subst
          (λ n. IsCompared c.args.columns c.args.sheets c.args.first n c.give-known.result c.args.cells.now c.give-known.new.self.numbers c.give-known.new.self.sheets)
          more
          (goes-on c.args.columns c.args.sheets c.args.cells.now c.requires.grown c.args.first c.loop-place.place c.loop-place.known c.loop-place.numbering.numbers c.loop-place.numbering.sheets c.loop-place.invariant.compared
          (c.cell-sheet.result - 1) c.give-known.result c.give-known.new.self.numbers c.give-known.new.self.sheets c.requires.most l is c.give-known.ensures (omega (arith, c.if-number-cells.false, c.if-number-cells-2.false)));
      place = omega arith;
      column = λ _. c.next_place.ensures.within;
    }

pub returns-clause-none : goal.returns-clause-none
returns-clause-none c =
    λ _.
    all-compared c.args.columns c.args.sheets c.args.cells.now c.requires.grown c.args.first c.loop-place.place c.loop-place.known c.loop-place.numbering.numbers c.loop-place.numbering.sheets c.loop-place.invariant.compared
    (omega (arith, c.requires.grown.long, c.loop-place-test.false, c.loop-place.auto.place-end))
