use Rattle.std.proofs.Common.{◌≡◌, ℕ, ◌+◌, ◌<◌, List, length, take, true, false, cond, is_some, sym, ap, ◌∙◌, arith, subst}
use Rattle.std.proofs.lemmas.List.{take_all}
use Rattle.lane_rows.specs.Lanes.{first_place}
use Rattle.linear_laws.specs.Vectors.{IsMatrix, IsBasis, row_at}
use Rattle.linear_laws.specs.Echelon.{IsReducedBelow, IsReduced, is_nonzero, rank_of}
use Rattle.field_matrix.specs.Rows.{cut, Rows}
use Rattle.field_matrix.proofs.Cut.{cut-matrix, length-cut}
use Rattle.field_matrix.proofs.Splits.{row_long}
use Rattle.field_matrix.proofs.Ranks.{told_by_first, rank_more, reduced_rank, rank_is_dimension}
use Rattle.field_matrix.proofs.matrix.Matrix.rank.Goals as goal
use Rattle.field_matrix.proofs.matrix.Matrix.rank.Goals.{then-is_some, else-is_some}

pub first_nonzero-requires : goal.first_nonzero-requires
first_nonzero-requires g c =
    let k = g.F.Field.ops in
    let f = g.met.F.Field.laws in
    let n : ℕ = c.self.inside.rows in
    let cols : ℕ = c.self.inside.cols in
    let xs : List ℕ = c.self.inside.entries.items in
    let a : IsMatrix k cols (cut n cols xs) = cut-matrix k n cols xs c.self.invariant.long c.self.invariant.elements in
    let row : List ℕ = c.row_of.result.now in
    let is : row ≡ row_at (cut n cols xs) c.loop-row.row = c.row_of.ensures.row ∙ ap (λ (w : List ℕ). row_at (cut n cols w) c.loop-row.row) c.deref.ensures.value in
    let long : length row ≡ cols = row_long k f n cols c.loop-row.row xs row a c.loop-row-test.true is in
    omega arith

pub loop-row-preserved : goal.loop-row-preserved
loop-row-preserved g c =
    let k = g.F.Field.ops in
    let f = g.met.F.Field.laws in
    let n : ℕ = c.self.inside.rows in
    let cols : ℕ = c.self.inside.cols in
    let xs : List ℕ = c.self.inside.entries.items in
    let a : IsMatrix k cols (cut n cols xs) = cut-matrix k n cols xs c.self.invariant.long c.self.invariant.elements in
    let row : List ℕ = c.row_of.result.now in
    let is : row ≡ row_at (cut n cols xs) c.loop-row.row = c.row_of.ensures.row ∙ ap (λ (w : List ℕ). row_at (cut n cols w) c.loop-row.row) c.deref.ensures.value in
    let i : ℕ = c.loop-row.row in
    let rows : List (List ℕ) = cut n cols xs in
    let told : c.is_some.result ≡ is_nonzero (row_at rows i) = c.is_some.ensures ∙ (ap is_some (c.first_nonzero.ensures ∙ ap first_place is) ∙ told_by_first (row_at rows i)) in
    let within : i < n = c.loop-row-test.true in
    let more : rank_of (take (i + 1) rows) ≡ rank_of (take i rows) + cond (is_nonzero (row_at rows i)) 1 0 = rank_more rows i (omega (arith, length-cut n cols xs)) in
    let counted : c.loop-row.rank ≡ rank_of (take i rows) = c.loop-row.invariant.counted in
    elim c.if-is_some.branch [
      | then-is_some w ↦
          let one : is_nonzero (row_at rows i) ≡ true = sym told ∙ w.if-is_some.true in
          let step : rank_of (take (i + 1) rows) ≡ rank_of (take i rows) + 1 = more ∙ ap (λ b. rank_of (take i rows) + cond b 1 0) one in
          record { counted = omega (arith, w.rank-is); few = omega (arith, w.rank-is, c.loop-row.invariant.few) }
      | else-is_some w ↦
          let none : is_nonzero (row_at rows i) ≡ false = sym told ∙ w.if-is_some.false in
          let step : rank_of (take (i + 1) rows) ≡ rank_of (take i rows) + 0 = more ∙ ap (λ b. rank_of (take i rows) + cond b 1 0) none in
          record { counted = omega (arith, w.rank-is); few = omega (arith, w.rank-is, c.loop-row.invariant.few) }
    ]

pub returns-clause-rank : goal.returns-clause-rank
returns-clause-rank g c =
    let k = g.F.Field.ops in
    let f = g.met.F.Field.laws in
    let n : ℕ = c.self.inside.rows in
    let cols : ℕ = c.self.inside.cols in
    let xs : List ℕ = c.self.inside.entries.items in
    let a : IsMatrix k cols (cut n cols xs) = cut-matrix k n cols xs c.self.invariant.long c.self.invariant.elements in
    let rows : List (List ℕ) = cut n cols xs in
    let all : take c.loop-row.row rows ≡ rows = take_all c.loop-row.row rows (let l : length rows ≡ n = length-cut n cols xs in omega arith) in
    let counted : c.loop-row.rank ≡ rank_of rows = c.loop-row.invariant.counted ∙ ap rank_of all in
    subst (λ (w : Rows). c.loop-row.rank ≡ rank_of w.rows) c.self.view_is counted

pub returns-clause-pivots : goal.returns-clause-pivots
returns-clause-pivots g c =
    let k = g.F.Field.ops in
    let f = g.met.F.Field.laws in
    let n : ℕ = c.self.inside.rows in
    let cols : ℕ = c.self.inside.cols in
    let xs : List ℕ = c.self.inside.entries.items in
    let a : IsMatrix k cols (cut n cols xs) = cut-matrix k n cols xs c.self.invariant.long c.self.invariant.elements in
    let rows : List (List ℕ) = cut n cols xs in
    let all : take c.loop-row.row rows ≡ rows = take_all c.loop-row.row rows (let l : length rows ≡ n = length-cut n cols xs in omega arith) in
    let counted : c.loop-row.rank ≡ rank_of rows = c.loop-row.invariant.counted ∙ ap rank_of all in
    λ pivots h.
    let reduced : IsReducedBelow cols rows pivots = subst (λ (w : Rows). IsReducedBelow w.cols w.rows pivots) (sym c.self.view_is) h in
    sym (reduced_rank k f cols rows pivots a reduced) ∙ sym counted

pub returns-clause-dimension : goal.returns-clause-dimension
returns-clause-dimension g c =
    let k = g.F.Field.ops in
    let f = g.met.F.Field.laws in
    let n : ℕ = c.self.inside.rows in
    let cols : ℕ = c.self.inside.cols in
    let xs : List ℕ = c.self.inside.entries.items in
    let a : IsMatrix k cols (cut n cols xs) = cut-matrix k n cols xs c.self.invariant.long c.self.invariant.elements in
    let rows : List (List ℕ) = cut n cols xs in
    let all : take c.loop-row.row rows ≡ rows = take_all c.loop-row.row rows (let l : length rows ≡ n = length-cut n cols xs in omega arith) in
    let counted : c.loop-row.rank ≡ rank_of rows = c.loop-row.invariant.counted ∙ ap rank_of all in
    λ basis h.
    let b : IsBasis k cols rows basis = subst (λ (w : Rows). IsBasis k w.cols w.rows basis) (sym c.self.view_is) h in
    let reduced : IsReduced cols rows = subst (λ (w : Rows). IsReduced w.cols w.rows) (sym c.self.view_is) c.requires in
    rank_is_dimension k f cols rows basis a reduced b ∙ sym counted
