use Rattle.std.proofs.Common.{◌≡◌, ℕ, List, length, take}
use Rattle.linear_laws.specs.Echelon.{IsReducedBelow}
use Rattle.field_matrix.specs.Rows.{cut}
use Rattle.field_matrix.specs.Solutions.{above}
use Rattle.field_matrix.proofs.complement.pivots_from.Given as goal

abbrev pub invariant-loop-i : goal.invariant-loop-i
invariant-loop-i l = (pivots : List ℕ) → IsReducedBelow l.shape.cols (cut l.shape.rows l.shape.cols l.entries) pivots → length pivots ≡ l.rank → l.places.items ≡ above l.begin (take l.i pivots)
