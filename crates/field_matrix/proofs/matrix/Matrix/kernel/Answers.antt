use Rattle.std.proofs.Common.{◌≡◌, ℕ, ◌-◌, ◌≤◌, List, length, sym, ap, ◌∙◌, arith, subst}
use Rattle.linear_laws.specs.Echelon.{IsReducedTo}
use Rattle.field_matrix.specs.Rows.{cut}
use Rattle.field_matrix.proofs.Cut.{length-cut}
use Rattle.field_matrix.proofs.matrix.Matrix.kernel.Goals as goal

pub returns-clause-count : goal.returns-clause-count
returns-clause-count g c = λ rank reduced h.
    let k = g.F.Field.ops in
    let n : ℕ = c.shape.result.rows in
    let m : ℕ = c.shape.result.cols in
    let rows : List (List ℕ) = c.args.self.now.rows in
    let cols : ℕ = c.args.self.now.cols in
    let is : cut n m c.entries.result.now ≡ rows =
    ap (λ (j : ℕ). cut j m c.entries.result.now) c.shape.ensures.rows ∙ (ap (λ (j : ℕ). cut (length rows) j c.entries.result.now) c.shape.ensures.cols ∙ c.entries.ensures.rows) in
    let h' : IsReducedTo k m rank m (cut n m c.entries.result.now) reduced =
    subst (λ (rs : List (List ℕ)). IsReducedTo k m rank m rs reduced) (sym is) (subst (λ (j : ℕ). IsReducedTo k j rank j rows reduced) (sym c.shape.ensures.cols) h) in
    let same : rank ≡ c.in_ok-kernel.kernel.rank = c.in_ok-kernel.ensures.count rank reduced h' in
    let few : c.in_ok-kernel.kernel.rank ≤ n = c.in_ok-kernel.ensures.rank in
    let many : length c.from_entries.result.rows ≡ c.rows.result - c.in_ok-kernel.kernel.rank = ap length c.from_entries.ensures.rows ∙ length-cut (c.rows.result - c.in_ok-kernel.kernel.rank) c.rows-2.result c.in_ok-kernel.kernel.joined.items in
    let here : c.rows.result ≡ length rows = c.rows.ensures.rows in
    let there : n ≡ length rows = c.shape.ensures.rows in
    omega arith
