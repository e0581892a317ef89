use Rattle.std.proofs.Common.{ℕ, ◌+◌, List, sym, subst}
use Rattle.linear_laws.specs.Vectors.{IsMatrix}
use Rattle.linear_laws.proofs.CallerLemmas.{beside_matrix, identity_matrix}
use Rattle.linear_laws.specs.Marks.{identity}
use Rattle.field_matrix.specs.Rows.{cut}
use Rattle.field_matrix.proofs.Cut.{cut-matrix}
use Rattle.field_matrix.proofs.solve.reduce_beside.Goals as goal

pub reduce_uncounted-rank-requires-clause-matrix : goal.reduce_uncounted-rank-requires-clause-matrix
reduce_uncounted-rank-requires-clause-matrix g c =
    let k = g.F.Field.ops in
    let f = g.met.F.Field.laws in
    let n : ℕ = c.args.shape.rows in
    let cols : ℕ = c.args.shape.cols in
    subst (λ (w : List ℕ). IsMatrix k (cols + n) (cut n (cols + n) w)) (sym c.deref_mut.ensures.value)
    (subst (IsMatrix k (cols + n)) (sym c.in_ok-joined.ensures.rows)
    (beside_matrix k f cols n (cut n cols c.args.entries.now) (identity n) (cut-matrix k n cols c.args.entries.now c.requires.shape.long c.requires.shape.elements) (identity_matrix k f n)))
