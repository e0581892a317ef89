use Rattle.std.proofs.Common.{arith}
use Rattle.lane_rows.proofs.Loops.{place_found, place_missing}
use Rattle.lane_rows.proofs.search.first_nonzero.Goals as goal

pub returns-then-place-row : goal.returns-then-place-row
returns-then-place-row c =
    let found = c.first_nonzero_from-place.ensures in
    let h = place_found c.args.row.now c.first_nonzero_from-place.result c.if-place-row.true (λ k lt. found.zeros k (omega arith) lt) (found.other c.if-place-row.true) in
    cc

pub returns-else-place-row : goal.returns-else-place-row
returns-else-place-row c =
    let found = c.first_nonzero_from-place.ensures in
    let h = place_missing c.args.row.now (λ k lt. found.zeros k (omega arith) (omega (arith, c.if-place-row.false))) in
    cc
