use Rattle.std.proofs.Common.{◌*◌, get_or}
use Rattle.lane_rows.specs.Vectors.{IsSteppedTo}
use Rattle.lane_rows.proofs.product.replace.Given as goal

abbrev pub invariant-loop-chunk : goal.invariant-loop-chunk
invariant-loop-chunk l = IsSteppedTo (λ x y. get_or l.table x 0) l.fn.target l.fn.target l.target (l.chunk * 16)

abbrev pub invariant-loop-i : goal.invariant-loop-i
invariant-loop-i l = IsSteppedTo (λ x y. get_or l.table x 0) l.fn.target l.fn.target l.target l.i
