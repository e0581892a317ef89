use Rattle.std.proofs.Common.{◌≡◌, ℕ, ◌+◌, ◌-◌, ◌*◌, ◌≤◌, ◌++◌, List, length, take, drop, sym, ap, ◌∙◌, arith, subst}
use Rattle.std.proofs.Math.Nat.{mul-le-mul_left}
use Rattle.std.proofs.lemmas.Grind.{common_steps}
use Rattle.linear_laws.specs.Marks.{identity, beside, lefts, rights}
use Rattle.linear_laws.specs.Vectors.{IsMatrix, IsHistory}
use Rattle.linear_laws.specs.Echelon.{IsReducedTo, rank_of}
use Rattle.linear_laws.proofs.CallerLemmas.{beside_matrix, identity_matrix, right_matrix, left_reduced, history_of}
use Rattle.field_matrix.specs.Rows.{cut}
use Rattle.field_matrix.proofs.Cut.{length-cut, cut-matrix, cut-elements}
use Rattle.field_matrix.proofs.Ranks.{reduced_to_rank, few_pivots}
use Rattle.field_matrix.proofs.history.eliminate_rows.Goals as goal

pub reduce_rows-requires-clause-matrix : goal.reduce_rows-requires-clause-matrix
reduce_rows-requires-clause-matrix g c =
    let k = g.F.Field.ops in
    let f = g.met.F.Field.laws in
    let n : ℕ = c.args.shape.rows in
    let m : ℕ = c.args.shape.cols in
    let rows : List (List ℕ) = cut n m c.args.entries.now in
    let a : IsMatrix k m rows = cut-matrix k n m c.args.entries.now c.requires.shape.long c.requires.shape.elements in
    let long : length rows ≡ n = length-cut n m c.args.entries.now in
    let joined : cut n (m + n) c.deref_mut.result.now ≡ beside rows (identity n) = ap (cut n (m + n)) c.deref_mut.ensures.value ∙ c.in_ok-joined.ensures.rows in
    subst (IsMatrix k (m + n)) (sym joined) (beside_matrix k f m n rows (identity n) a (identity_matrix k f n))

pub returns-in_err-left-clause-steps : goal.returns-in_err-left-clause-steps
returns-in_err-left-clause-steps g c =
    let k = g.F.Field.ops in
    let f = g.met.F.Field.laws in
    let n : ℕ = c.args.shape.rows in
    let m : ℕ = c.args.shape.cols in
    let rows : List (List ℕ) = cut n m c.args.entries.now in
    let a : IsMatrix k m rows = cut-matrix k n m c.args.entries.now c.requires.shape.long c.requires.shape.elements in
    let long : length rows ≡ n = length-cut n m c.args.entries.now in
    let joined : cut n (m + n) c.deref_mut.result.now ≡ beside rows (identity n) = ap (cut n (m + n)) c.deref_mut.ensures.value ∙ c.in_ok-joined.ensures.rows in
    let new : List ℕ = c.reduce_rows.new.entries in
    let r : ℕ = c.reduce_rows.result in
    let after : List (List ℕ) = cut n (m + n) new in
    let h : IsReducedTo k (m + n) r m (beside rows (identity n)) after = subst (λ (ws : List (List ℕ)). IsReducedTo k (m + n) r m ws after) joined c.reduce_rows.ensures.reduced in
    let few : length h.pivots ≤ m = few_pivots m after h.pivots h.reduced in
    let is : length h.pivots ≡ r = h.rank_is in
    let rank : r ≤ m = omega arith in
    let product : n * r ≤ n * m = mul-le-mul_left n rank in
    let cost : c.reduce_rows.new.steps ≤ c.args.steps.now + n * r = c.reduce_rows.ensures.steps in
    omega arith

pub returns-in_err-right-clause-steps : goal.returns-in_err-right-clause-steps
returns-in_err-right-clause-steps g c =
    let k = g.F.Field.ops in
    let f = g.met.F.Field.laws in
    let n : ℕ = c.args.shape.rows in
    let m : ℕ = c.args.shape.cols in
    let rows : List (List ℕ) = cut n m c.args.entries.now in
    let a : IsMatrix k m rows = cut-matrix k n m c.args.entries.now c.requires.shape.long c.requires.shape.elements in
    let long : length rows ≡ n = length-cut n m c.args.entries.now in
    let joined : cut n (m + n) c.deref_mut.result.now ≡ beside rows (identity n) = ap (cut n (m + n)) c.deref_mut.ensures.value ∙ c.in_ok-joined.ensures.rows in
    let new : List ℕ = c.reduce_rows.new.entries in
    let r : ℕ = c.reduce_rows.result in
    let after : List (List ℕ) = cut n (m + n) new in
    let h : IsReducedTo k (m + n) r m (beside rows (identity n)) after = subst (λ (ws : List (List ℕ)). IsReducedTo k (m + n) r m ws after) joined c.reduce_rows.ensures.reduced in
    let few : length h.pivots ≤ m = few_pivots m after h.pivots h.reduced in
    let is : length h.pivots ≡ r = h.rank_is in
    let rank : r ≤ m = omega arith in
    let product : n * r ≤ n * m = mul-le-mul_left n rank in
    let cost : c.reduce_rows.new.steps ≤ c.args.steps.now + n * r = c.reduce_rows.ensures.steps in
    omega arith

pub returns-clause-left : goal.returns-clause-left
returns-clause-left g c =
    let k = g.F.Field.ops in
    let f = g.met.F.Field.laws in
    let n : ℕ = c.args.shape.rows in
    let m : ℕ = c.args.shape.cols in
    let rows : List (List ℕ) = cut n m c.args.entries.now in
    let a : IsMatrix k m rows = cut-matrix k n m c.args.entries.now c.requires.shape.long c.requires.shape.elements in
    let long : length rows ≡ n = length-cut n m c.args.entries.now in
    let joined : cut n (m + n) c.deref_mut.result.now ≡ beside rows (identity n) = ap (cut n (m + n)) c.deref_mut.ensures.value ∙ c.in_ok-joined.ensures.rows in
    let new : List ℕ = c.reduce_rows.new.entries in
    let r : ℕ = c.reduce_rows.result in
    let after : List (List ℕ) = cut n (m + n) new in
    let h : IsReducedTo k (m + n) r m (beside rows (identity n)) after = subst (λ (ws : List (List ℕ)). IsReducedTo k (m + n) r m ws after) joined c.reduce_rows.ensures.reduced in
    let same : take c.in_ok-joined.joined.len (new ++ drop (length new) c.in_ok-joined.joined.items) ≡ new = grind (arith, common_steps) in
    let left : List ℕ = c.in_ok-left.left.items in
    let right : List ℕ = c.in_ok-right.right.items in
    let is_left : cut n m left ≡ lefts m after = c.in_ok-left.ensures.rows ∙ ap (λ (w : List ℕ). lefts m (cut n (m + n) w)) (c.deref.ensures.value ∙ same) in
    let width : m + n - m ≡ n = omega arith in
    let all : n - 0 ≡ n = omega arith in
    let is_right : cut n n right ≡ rights m after =
    ap (λ (j : ℕ). cut j n right) (sym all) ∙ (ap (λ (j : ℕ). cut (n - 0) j right) (sym width)
    ∙ (c.in_ok-right.ensures.rows ∙ ap (λ (w : List ℕ). rights m (cut n (m + n) w)) (c.deref-2.ensures.value ∙ same))) in
    let long_left : length left ≡ n * m = c.in_ok-left.ensures.long in
    let long_right : length right ≡ n * n = c.in_ok-right.ensures.long ∙ (ap (λ (j : ℕ). j * (m + n - m)) all ∙ ap (λ (j : ℕ). n * j) width) in
    let form : IsReducedTo k m r m rows (lefts m after) = left_reduced k f m n r rows after a long h in
    let history : IsHistory k m rows (lefts m after) (rights m after) = history_of k f m n r rows after a long h in
    record { long = long_left; elements = cut-elements k n m left long_left (subst (IsMatrix k m) (sym is_left) form.matrix) }

pub returns-clause-right : goal.returns-clause-right
returns-clause-right g c =
    let k = g.F.Field.ops in
    let f = g.met.F.Field.laws in
    let n : ℕ = c.args.shape.rows in
    let m : ℕ = c.args.shape.cols in
    let rows : List (List ℕ) = cut n m c.args.entries.now in
    let a : IsMatrix k m rows = cut-matrix k n m c.args.entries.now c.requires.shape.long c.requires.shape.elements in
    let long : length rows ≡ n = length-cut n m c.args.entries.now in
    let joined : cut n (m + n) c.deref_mut.result.now ≡ beside rows (identity n) = ap (cut n (m + n)) c.deref_mut.ensures.value ∙ c.in_ok-joined.ensures.rows in
    let new : List ℕ = c.reduce_rows.new.entries in
    let r : ℕ = c.reduce_rows.result in
    let after : List (List ℕ) = cut n (m + n) new in
    let h : IsReducedTo k (m + n) r m (beside rows (identity n)) after = subst (λ (ws : List (List ℕ)). IsReducedTo k (m + n) r m ws after) joined c.reduce_rows.ensures.reduced in
    let same : take c.in_ok-joined.joined.len (new ++ drop (length new) c.in_ok-joined.joined.items) ≡ new = grind (arith, common_steps) in
    let left : List ℕ = c.in_ok-left.left.items in
    let right : List ℕ = c.in_ok-right.right.items in
    let is_left : cut n m left ≡ lefts m after = c.in_ok-left.ensures.rows ∙ ap (λ (w : List ℕ). lefts m (cut n (m + n) w)) (c.deref.ensures.value ∙ same) in
    let width : m + n - m ≡ n = omega arith in
    let all : n - 0 ≡ n = omega arith in
    let is_right : cut n n right ≡ rights m after =
    ap (λ (j : ℕ). cut j n right) (sym all) ∙ (ap (λ (j : ℕ). cut (n - 0) j right) (sym width)
    ∙ (c.in_ok-right.ensures.rows ∙ ap (λ (w : List ℕ). rights m (cut n (m + n) w)) (c.deref-2.ensures.value ∙ same))) in
    let long_left : length left ≡ n * m = c.in_ok-left.ensures.long in
    let long_right : length right ≡ n * n = c.in_ok-right.ensures.long ∙ (ap (λ (j : ℕ). j * (m + n - m)) all ∙ ap (λ (j : ℕ). n * j) width) in
    let form : IsReducedTo k m r m rows (lefts m after) = left_reduced k f m n r rows after a long h in
    let history : IsHistory k m rows (lefts m after) (rights m after) = history_of k f m n r rows after a long h in
    record { long = long_right; elements = cut-elements k n n right long_right (subst (IsMatrix k n) (sym is_right) (right_matrix k f m n after h.matrix)) }

pub returns-clause-reduced : goal.returns-clause-reduced
returns-clause-reduced g c =
    let k = g.F.Field.ops in
    let f = g.met.F.Field.laws in
    let n : ℕ = c.args.shape.rows in
    let m : ℕ = c.args.shape.cols in
    let rows : List (List ℕ) = cut n m c.args.entries.now in
    let a : IsMatrix k m rows = cut-matrix k n m c.args.entries.now c.requires.shape.long c.requires.shape.elements in
    let long : length rows ≡ n = length-cut n m c.args.entries.now in
    let joined : cut n (m + n) c.deref_mut.result.now ≡ beside rows (identity n) = ap (cut n (m + n)) c.deref_mut.ensures.value ∙ c.in_ok-joined.ensures.rows in
    let new : List ℕ = c.reduce_rows.new.entries in
    let r : ℕ = c.reduce_rows.result in
    let after : List (List ℕ) = cut n (m + n) new in
    let h : IsReducedTo k (m + n) r m (beside rows (identity n)) after = subst (λ (ws : List (List ℕ)). IsReducedTo k (m + n) r m ws after) joined c.reduce_rows.ensures.reduced in
    let same : take c.in_ok-joined.joined.len (new ++ drop (length new) c.in_ok-joined.joined.items) ≡ new = grind (arith, common_steps) in
    let left : List ℕ = c.in_ok-left.left.items in
    let right : List ℕ = c.in_ok-right.right.items in
    let is_left : cut n m left ≡ lefts m after = c.in_ok-left.ensures.rows ∙ ap (λ (w : List ℕ). lefts m (cut n (m + n) w)) (c.deref.ensures.value ∙ same) in
    let width : m + n - m ≡ n = omega arith in
    let all : n - 0 ≡ n = omega arith in
    let is_right : cut n n right ≡ rights m after =
    ap (λ (j : ℕ). cut j n right) (sym all) ∙ (ap (λ (j : ℕ). cut (n - 0) j right) (sym width)
    ∙ (c.in_ok-right.ensures.rows ∙ ap (λ (w : List ℕ). rights m (cut n (m + n) w)) (c.deref-2.ensures.value ∙ same))) in
    let long_left : length left ≡ n * m = c.in_ok-left.ensures.long in
    let long_right : length right ≡ n * n = c.in_ok-right.ensures.long ∙ (ap (λ (j : ℕ). j * (m + n - m)) all ∙ ap (λ (j : ℕ). n * j) width) in
    let form : IsReducedTo k m r m rows (lefts m after) = left_reduced k f m n r rows after a long h in
    let history : IsHistory k m rows (lefts m after) (rights m after) = history_of k f m n r rows after a long h in
    let rank : rank_of (lefts m after) ≡ r = reduced_to_rank k f m r rows (lefts m after) form in
    subst (λ (ws : List (List ℕ)). IsReducedTo k m (rank_of ws) m rows ws) (sym is_left) (subst (λ (j : ℕ). IsReducedTo k m j m rows (lefts m after)) (sym rank) form)

pub returns-clause-history : goal.returns-clause-history
returns-clause-history g c =
    let k = g.F.Field.ops in
    let f = g.met.F.Field.laws in
    let n : ℕ = c.args.shape.rows in
    let m : ℕ = c.args.shape.cols in
    let rows : List (List ℕ) = cut n m c.args.entries.now in
    let a : IsMatrix k m rows = cut-matrix k n m c.args.entries.now c.requires.shape.long c.requires.shape.elements in
    let long : length rows ≡ n = length-cut n m c.args.entries.now in
    let joined : cut n (m + n) c.deref_mut.result.now ≡ beside rows (identity n) = ap (cut n (m + n)) c.deref_mut.ensures.value ∙ c.in_ok-joined.ensures.rows in
    let new : List ℕ = c.reduce_rows.new.entries in
    let r : ℕ = c.reduce_rows.result in
    let after : List (List ℕ) = cut n (m + n) new in
    let h : IsReducedTo k (m + n) r m (beside rows (identity n)) after = subst (λ (ws : List (List ℕ)). IsReducedTo k (m + n) r m ws after) joined c.reduce_rows.ensures.reduced in
    let same : take c.in_ok-joined.joined.len (new ++ drop (length new) c.in_ok-joined.joined.items) ≡ new = grind (arith, common_steps) in
    let left : List ℕ = c.in_ok-left.left.items in
    let right : List ℕ = c.in_ok-right.right.items in
    let is_left : cut n m left ≡ lefts m after = c.in_ok-left.ensures.rows ∙ ap (λ (w : List ℕ). lefts m (cut n (m + n) w)) (c.deref.ensures.value ∙ same) in
    let width : m + n - m ≡ n = omega arith in
    let all : n - 0 ≡ n = omega arith in
    let is_right : cut n n right ≡ rights m after =
    ap (λ (j : ℕ). cut j n right) (sym all) ∙ (ap (λ (j : ℕ). cut (n - 0) j right) (sym width)
    ∙ (c.in_ok-right.ensures.rows ∙ ap (λ (w : List ℕ). rights m (cut n (m + n) w)) (c.deref-2.ensures.value ∙ same))) in
    let long_left : length left ≡ n * m = c.in_ok-left.ensures.long in
    let long_right : length right ≡ n * n = c.in_ok-right.ensures.long ∙ (ap (λ (j : ℕ). j * (m + n - m)) all ∙ ap (λ (j : ℕ). n * j) width) in
    let form : IsReducedTo k m r m rows (lefts m after) = left_reduced k f m n r rows after a long h in
    let history : IsHistory k m rows (lefts m after) (rights m after) = history_of k f m n r rows after a long h in
    subst (λ (ws : List (List ℕ)). IsHistory k m rows ws (cut n n right)) (sym is_left) (subst (IsHistory k m rows (lefts m after)) (sym is_right) history)

pub returns-clause-steps : goal.returns-clause-steps
returns-clause-steps g c =
    let k = g.F.Field.ops in
    let f = g.met.F.Field.laws in
    let n : ℕ = c.args.shape.rows in
    let m : ℕ = c.args.shape.cols in
    let rows : List (List ℕ) = cut n m c.args.entries.now in
    let a : IsMatrix k m rows = cut-matrix k n m c.args.entries.now c.requires.shape.long c.requires.shape.elements in
    let long : length rows ≡ n = length-cut n m c.args.entries.now in
    let joined : cut n (m + n) c.deref_mut.result.now ≡ beside rows (identity n) = ap (cut n (m + n)) c.deref_mut.ensures.value ∙ c.in_ok-joined.ensures.rows in
    let new : List ℕ = c.reduce_rows.new.entries in
    let r : ℕ = c.reduce_rows.result in
    let after : List (List ℕ) = cut n (m + n) new in
    let h : IsReducedTo k (m + n) r m (beside rows (identity n)) after = subst (λ (ws : List (List ℕ)). IsReducedTo k (m + n) r m ws after) joined c.reduce_rows.ensures.reduced in
    let few : length h.pivots ≤ m = few_pivots m after h.pivots h.reduced in
    let is : length h.pivots ≡ r = h.rank_is in
    let rank : r ≤ m = omega arith in
    let product : n * r ≤ n * m = mul-le-mul_left n rank in
    let cost : c.reduce_rows.new.steps ≤ c.args.steps.now + n * r = c.reduce_rows.ensures.steps in
    omega arith
