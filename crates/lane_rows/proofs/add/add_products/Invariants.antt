use Rattle.std.proofs.Common.{◌*◌, get_or}
use Rattle.lane_rows.specs.Vectors.{IsSteppedTo}
use Rattle.lane_rows.proofs.add.add_products.Given as goal

abbrev pub invariant-loop-chunk : goal.invariant-loop-chunk
invariant-loop-chunk g l = IsSteppedTo (λ x y. g.S.Sums.sum l.sums x (get_or l.products y 0)) l.fn.target l.source l.target (l.chunk * 16)

abbrev pub invariant-loop-i : goal.invariant-loop-i
invariant-loop-i g l = IsSteppedTo (λ x y. g.S.Sums.sum l.sums x (get_or l.products y 0)) l.fn.target l.source l.target l.i
