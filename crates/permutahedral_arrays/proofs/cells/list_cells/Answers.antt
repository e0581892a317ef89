use Rattle.std.proofs.Common.{◌+◌, ◌++◌, ℕ, List, length, ap, sym, ◌∙◌, arith}
use Rattle.permutahedral_arrays.specs.Places.{cells_at}
use Rattle.permutahedral_arrays.proofs.Growing.{flat_next, flat_below}
use Rattle.permutahedral_arrays.proofs.cells.list_cells.Goals as goal

pub returns-then-len-gt-MOST_CELLS-clause-many : goal.returns-then-len-gt-MOST_CELLS-clause-many
returns-then-len-gt-MOST_CELLS-clause-many c =
    let f : ℕ → List (List ℕ) = cells_at c.args.slab c.args.row c.args.marks.now c.args.shapes.now in
    λ _. omega (
      arith,
      c.if-len-gt-MOST_CELLS.true,
      c.len.ensures,
      flat_below f c.loop-index.index (length c.args.marks.now) c.push_cells.new.cells c.loop-index-test.true (c.in_ok-push_cells.ensures ∙ ap (λ (cs : List (List ℕ)). cs ++ f (c.loop-index.index + 1)) c.loop-index.invariant.found),
    )

pub loop-index-preserved : goal.loop-index-preserved
loop-index-preserved c =
    let f : ℕ → List (List ℕ) = cells_at c.args.slab c.args.row c.args.marks.now c.args.shapes.now in
    record {
      found = c.in_ok-push_cells.ensures ∙ (ap (λ (cs : List (List ℕ)). cs ++ f (c.loop-index.index + 1)) c.loop-index.invariant.found ∙ sym (flat_next f c.loop-index.index));
      few = omega (arith, c.len.ensures, c.if-len-gt-MOST_CELLS.false);
    }
