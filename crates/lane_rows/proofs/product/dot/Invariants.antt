use Rattle.std.proofs.Common.{◌≡◌, ◌+◌, ◌*◌, ◌≤◌, sum, drop}
use Rattle.lane_rows.specs.Lanes.{zip2}
use Rattle.lane_rows.proofs.product.dot.Given as goal

abbrev pub invariant-loop-chunk : goal.invariant-loop-chunk
invariant-loop-chunk l = record {
  whole : l.total + sum (zip2 (λ x y. x * y) (drop (l.chunk * 16) l.left) (drop (l.chunk * 16) l.right)) ≡ sum (zip2 (λ x y. x * y) l.left l.right);
  small : l.total ≤ l.chunk * 16 * 169;
}

abbrev pub invariant-loop-i : goal.invariant-loop-i
invariant-loop-i l = record {
  whole : l.total + sum (zip2 (λ x y. x * y) (drop l.i l.left) (drop l.i l.right)) ≡ sum (zip2 (λ x y. x * y) l.left l.right);
  small : l.total ≤ l.i * 169;
}
