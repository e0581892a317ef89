use Rattle.std.proofs.Common.{◌≡◌, ◌-◌, ◌+◌, ◌<◌, ℕ, List, length, ◌∙◌, arith}
use Rattle.order_complex.specs.Chains.{chains_of}
use Rattle.plain_betti.proofs.Coboundaries.{marking, unmarking, row_more, rows_all}
use Rattle.plain_betti.proofs.ranks.coboundary_matrix.Goals as goal

pub loop-row-preserved : goal.loop-row-preserved
loop-row-preserved g c =
    let F = g.F.Field.ops in
    let here : List (List ℕ) = chains_of c.args.chains.now c.args.degree in
    let next : List (List ℕ) = chains_of c.args.chains.now (c.args.degree + 1) in
    let row : ℕ = c.loop-row.row in
    let place : (row + 1) - 1 ≡ row = omega arith in
    let low : row < length here = omega arith in
    record {
      unmarked = unmarking F here next row c.loop-row.mark c.set.new.self c.set-in-loop-row.new.self ((row + 1) - 1) (g.F.Field.number_of c.one.result) ((row + 1) - 1) (g.F.Field.number_of c.zero-in-loop-row.result)
          low c.loop-row.invariant.unmarked place c.one.ensures c.set.ensures place c.zero-in-loop-row.ensures c.set-in-loop-row.ensures;
      cols = c.put_coboundary.ensures.cols ∙ c.loop-row.invariant.cols;
      rows = row_more F here next row c.loop-row.matrix.rows c.put_coboundary.new.matrix.rows c.set.new.self low c.loop-row.invariant.rows
          (marking F here next row c.loop-row.mark c.set.new.self ((row + 1) - 1) (g.F.Field.number_of c.one.result) (c.chains_are_ordered.ensures c.args.chains.now c.args.degree) low c.loop-row.invariant.unmarked place c.one.ensures c.set.ensures)
          c.put_coboundary.ensures.rows;
    }

pub returns-clause-rows : goal.returns-clause-rows
returns-clause-rows g c =
    let here : List (List ℕ) = chains_of c.args.chains.now c.args.degree in
    let next : List (List ℕ) = chains_of c.args.chains.now (c.args.degree + 1) in
    rows_all g.F.Field.ops here next c.loop-row.row c.loop-row.matrix.rows (omega arith) c.loop-row.invariant.rows
