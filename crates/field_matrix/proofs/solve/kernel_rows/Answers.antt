use Rattle.std.proofs.Common.{◌≡◌, ℕ, ◌+◌, ◌-◌, ◌*◌, ◌≤◌, List, length, drop, sym, ap, ◌∙◌, arith, subst}
use Rattle.linear_laws.specs.Marks.{identity, beside, rights}
use Rattle.linear_laws.specs.Vectors.{IsMatrix, IsKernelBasis}
use Rattle.linear_laws.specs.Echelon.{IsReducedTo}
use Rattle.linear_laws.proofs.CallerLemmas.{few_rows, left_reduced, kernel_basis, kernel_matrix}
use Rattle.field_matrix.specs.Rows.{cut}
use Rattle.field_matrix.proofs.Cut.{length-cut, cut-matrix, cut-elements}
use Rattle.field_matrix.proofs.Ranks.{rank_unique}
use Rattle.field_matrix.proofs.solve.kernel_rows.Goals as goal

pub right_halves-requires-clause-from : goal.right_halves-requires-clause-from
right_halves-requires-clause-from g c =
    let k = g.F.Field.ops in
    let f = g.met.F.Field.laws in
    let n : ℕ = c.args.shape.rows in
    let m : ℕ = c.args.shape.cols in
    let rows : List (List ℕ) = cut n m c.args.entries.now in
    let a : IsMatrix k m rows = cut-matrix k n m c.args.entries.now c.requires.shape.long c.requires.shape.elements in
    let long : length rows ≡ n = length-cut n m c.args.entries.now in
    let r : ℕ = c.in_ok-history.history.rank in
    let after : List (List ℕ) = cut n (m + n) c.in_ok-history.history.joined.items in
    let h : IsReducedTo k (m + n) r m (beside rows (identity n)) after = c.in_ok-history.ensures.reduced in
    let few : r ≤ length after = few_rows k f m n r rows after a long h in
    let within : r ≤ n = omega (arith, length-cut n (m + n) c.in_ok-history.history.joined.items) in
    within

pub returns-clause-rank : goal.returns-clause-rank
returns-clause-rank g c =
    let k = g.F.Field.ops in
    let f = g.met.F.Field.laws in
    let n : ℕ = c.args.shape.rows in
    let m : ℕ = c.args.shape.cols in
    let rows : List (List ℕ) = cut n m c.args.entries.now in
    let a : IsMatrix k m rows = cut-matrix k n m c.args.entries.now c.requires.shape.long c.requires.shape.elements in
    let long : length rows ≡ n = length-cut n m c.args.entries.now in
    let r : ℕ = c.in_ok-history.history.rank in
    let after : List (List ℕ) = cut n (m + n) c.in_ok-history.history.joined.items in
    let h : IsReducedTo k (m + n) r m (beside rows (identity n)) after = c.in_ok-history.ensures.reduced in
    let few : r ≤ length after = few_rows k f m n r rows after a long h in
    let within : r ≤ n = omega (arith, length-cut n (m + n) c.in_ok-history.history.joined.items) in
    within

pub returns-clause-entries : goal.returns-clause-entries
returns-clause-entries g c =
    let k = g.F.Field.ops in
    let f = g.met.F.Field.laws in
    let n : ℕ = c.args.shape.rows in
    let m : ℕ = c.args.shape.cols in
    let rows : List (List ℕ) = cut n m c.args.entries.now in
    let a : IsMatrix k m rows = cut-matrix k n m c.args.entries.now c.requires.shape.long c.requires.shape.elements in
    let long : length rows ≡ n = length-cut n m c.args.entries.now in
    let r : ℕ = c.in_ok-history.history.rank in
    let after : List (List ℕ) = cut n (m + n) c.in_ok-history.history.joined.items in
    let h : IsReducedTo k (m + n) r m (beside rows (identity n)) after = c.in_ok-history.ensures.reduced in
    let few : r ≤ length after = few_rows k f m n r rows after a long h in
    let within : r ≤ n = omega (arith, length-cut n (m + n) c.in_ok-history.history.joined.items) in
    let width : m + n - m ≡ n = omega arith in
    let items : List ℕ = c.in_ok-joined.joined.items in
    let is : cut (n - r) n items ≡ drop r (rights m after) = subst (λ (w : ℕ). cut (n - r) w items ≡ drop r (rights m after)) width (c.in_ok-joined.ensures.rows ∙ ap (λ (w : List ℕ). drop r (rights m (cut n (m + n) w))) c.deref.ensures.value) in
    let filled : length items ≡ (n - r) * n = subst (λ (w : ℕ). length items ≡ (n - r) * w) width c.in_ok-joined.ensures.long in
    record { long = filled; elements = cut-elements k (n - r) n items filled (subst (IsMatrix k n) (sym is) (kernel_matrix k f m n r rows after a long h)) }

pub returns-clause-basis : goal.returns-clause-basis
returns-clause-basis g c =
    let k = g.F.Field.ops in
    let f = g.met.F.Field.laws in
    let n : ℕ = c.args.shape.rows in
    let m : ℕ = c.args.shape.cols in
    let rows : List (List ℕ) = cut n m c.args.entries.now in
    let a : IsMatrix k m rows = cut-matrix k n m c.args.entries.now c.requires.shape.long c.requires.shape.elements in
    let long : length rows ≡ n = length-cut n m c.args.entries.now in
    let r : ℕ = c.in_ok-history.history.rank in
    let after : List (List ℕ) = cut n (m + n) c.in_ok-history.history.joined.items in
    let h : IsReducedTo k (m + n) r m (beside rows (identity n)) after = c.in_ok-history.ensures.reduced in
    let few : r ≤ length after = few_rows k f m n r rows after a long h in
    let within : r ≤ n = omega (arith, length-cut n (m + n) c.in_ok-history.history.joined.items) in
    let width : m + n - m ≡ n = omega arith in
    let items : List ℕ = c.in_ok-joined.joined.items in
    let is : cut (n - r) n items ≡ drop r (rights m after) = subst (λ (w : ℕ). cut (n - r) w items ≡ drop r (rights m after)) width (c.in_ok-joined.ensures.rows ∙ ap (λ (w : List ℕ). drop r (rights m (cut n (m + n) w))) c.deref.ensures.value) in
    let filled : length items ≡ (n - r) * n = subst (λ (w : ℕ). length items ≡ (n - r) * w) width c.in_ok-joined.ensures.long in
    subst (IsKernelBasis k m rows) (sym is) (kernel_basis k f m n r rows after a long h)

pub returns-clause-count : goal.returns-clause-count
returns-clause-count g c =
    let k = g.F.Field.ops in
    let f = g.met.F.Field.laws in
    let n : ℕ = c.args.shape.rows in
    let m : ℕ = c.args.shape.cols in
    let rows : List (List ℕ) = cut n m c.args.entries.now in
    let a : IsMatrix k m rows = cut-matrix k n m c.args.entries.now c.requires.shape.long c.requires.shape.elements in
    let long : length rows ≡ n = length-cut n m c.args.entries.now in
    let r : ℕ = c.in_ok-history.history.rank in
    let after : List (List ℕ) = cut n (m + n) c.in_ok-history.history.joined.items in
    let h : IsReducedTo k (m + n) r m (beside rows (identity n)) after = c.in_ok-history.ensures.reduced in
    let few : r ≤ length after = few_rows k f m n r rows after a long h in
    let within : r ≤ n = omega (arith, length-cut n (m + n) c.in_ok-history.history.joined.items) in
    λ rank reduced h'. rank_unique k f m rank r rows reduced _ a h' (left_reduced k f m n r rows after a long h)
