use Rattle.std.proofs.Common.{◌≡◌, ℕ, ◌<◌, ◌≤◌, List, length, get_or, Some, refl, sym, ap, ◌∙◌, arith, subst}
use Rattle.std.specs.Option.{IsSome}
use Rattle.lane_rows.specs.Lanes.{first_place}
use Rattle.linear_laws.specs.Vectors.{IsMatrix, row_at}
use Rattle.linear_laws.specs.Echelon.{IsReducedBelow, IsReduced, rank_of}
use Rattle.field_matrix.specs.Rows.{cut, Rows}
use Rattle.field_matrix.proofs.Cut.{cut-matrix, length-cut}
use Rattle.field_matrix.proofs.Splits.{row_long}
use Rattle.field_matrix.proofs.Ranks.{pivot_place, reduced_rank}
use Rattle.field_matrix.proofs.matrix.Matrix.pivot.Goals as goal

pub row_of-requires-clause-row : goal.row_of-requires-clause-row
row_of-requires-clause-row g c =
    let k = g.F.Field.ops in
    let f = g.met.F.Field.laws in
    let n : ℕ = c.self.inside.rows in
    let cols : ℕ = c.self.inside.cols in
    let xs : List ℕ = c.self.inside.entries.items in
    let a : IsMatrix k cols (cut n cols xs) = cut-matrix k n cols xs c.self.invariant.long c.self.invariant.elements in
    let reduced : IsReduced cols (cut n cols xs) = subst (λ (w : Rows). IsReduced w.cols w.rows) (sym c.self.view_is) c.requires.reduced in
    let below : c.args.row < rank_of (cut n cols xs) = subst (λ (w : Rows). c.args.row < rank_of w.rows) (sym c.self.view_is) c.requires.row in
    let many : rank_of (cut n cols xs) ≡ length reduced.pivots = reduced_rank k f cols (cut n cols xs) reduced.pivots a reduced.reduced in
    let few : length reduced.pivots ≤ length (cut n cols xs) = reduced.reduced.few in
    let within : c.args.row < n = omega (arith, length-cut n cols xs) in
    within

pub first_nonzero-requires : goal.first_nonzero-requires
first_nonzero-requires g c =
    let k = g.F.Field.ops in
    let f = g.met.F.Field.laws in
    let n : ℕ = c.self.inside.rows in
    let cols : ℕ = c.self.inside.cols in
    let xs : List ℕ = c.self.inside.entries.items in
    let a : IsMatrix k cols (cut n cols xs) = cut-matrix k n cols xs c.self.invariant.long c.self.invariant.elements in
    let reduced : IsReduced cols (cut n cols xs) = subst (λ (w : Rows). IsReduced w.cols w.rows) (sym c.self.view_is) c.requires.reduced in
    let below : c.args.row < rank_of (cut n cols xs) = subst (λ (w : Rows). c.args.row < rank_of w.rows) (sym c.self.view_is) c.requires.row in
    let many : rank_of (cut n cols xs) ≡ length reduced.pivots = reduced_rank k f cols (cut n cols xs) reduced.pivots a reduced.reduced in
    let few : length reduced.pivots ≤ length (cut n cols xs) = reduced.reduced.few in
    let within : c.args.row < n = omega (arith, length-cut n cols xs) in
    let row : List ℕ = c.row_of.result.now in
    let is : row ≡ row_at (cut n cols xs) c.args.row = c.row_of.ensures.row ∙ ap (λ (w : List ℕ). row_at (cut n cols w) c.args.row) c.deref.ensures.value in
    let long : length row ≡ cols = row_long k f n cols c.args.row xs row a within is in
    omega arith

pub unwrap-requires : goal.unwrap-requires
unwrap-requires g c =
    let k = g.F.Field.ops in
    let f = g.met.F.Field.laws in
    let n : ℕ = c.self.inside.rows in
    let cols : ℕ = c.self.inside.cols in
    let xs : List ℕ = c.self.inside.entries.items in
    let a : IsMatrix k cols (cut n cols xs) = cut-matrix k n cols xs c.self.invariant.long c.self.invariant.elements in
    let reduced : IsReduced cols (cut n cols xs) = subst (λ (w : Rows). IsReduced w.cols w.rows) (sym c.self.view_is) c.requires.reduced in
    let below : c.args.row < rank_of (cut n cols xs) = subst (λ (w : Rows). c.args.row < rank_of w.rows) (sym c.self.view_is) c.requires.row in
    let many : rank_of (cut n cols xs) ≡ length reduced.pivots = reduced_rank k f cols (cut n cols xs) reduced.pivots a reduced.reduced in
    let few : length reduced.pivots ≤ length (cut n cols xs) = reduced.reduced.few in
    let within : c.args.row < n = omega (arith, length-cut n cols xs) in
    let first : first_place (row_at (cut n cols xs) c.args.row) ≡ Some (get_or reduced.pivots c.args.row 0) = pivot_place k f cols (cut n cols xs) reduced.pivots c.args.row a reduced.reduced below in
    let row : List ℕ = c.row_of.result.now in
    let is : row ≡ row_at (cut n cols xs) c.args.row = c.row_of.ensures.row ∙ ap (λ (w : List ℕ). row_at (cut n cols w) c.args.row) c.deref.ensures.value in
    let found : c.first_nonzero.result ≡ Some (get_or reduced.pivots c.args.row 0) = c.first_nonzero.ensures ∙ (ap first_place is ∙ first) in
    subst IsSome (sym found) refl

pub returns-clause-first : goal.returns-clause-first
returns-clause-first g c =
    let k = g.F.Field.ops in
    let f = g.met.F.Field.laws in
    let n : ℕ = c.self.inside.rows in
    let cols : ℕ = c.self.inside.cols in
    let xs : List ℕ = c.self.inside.entries.items in
    let a : IsMatrix k cols (cut n cols xs) = cut-matrix k n cols xs c.self.invariant.long c.self.invariant.elements in
    let reduced : IsReduced cols (cut n cols xs) = subst (λ (w : Rows). IsReduced w.cols w.rows) (sym c.self.view_is) c.requires.reduced in
    let below : c.args.row < rank_of (cut n cols xs) = subst (λ (w : Rows). c.args.row < rank_of w.rows) (sym c.self.view_is) c.requires.row in
    let many : rank_of (cut n cols xs) ≡ length reduced.pivots = reduced_rank k f cols (cut n cols xs) reduced.pivots a reduced.reduced in
    let few : length reduced.pivots ≤ length (cut n cols xs) = reduced.reduced.few in
    let within : c.args.row < n = omega (arith, length-cut n cols xs) in
    let row : List ℕ = c.row_of.result.now in
    let is : row ≡ row_at (cut n cols xs) c.args.row = c.row_of.ensures.row ∙ ap (λ (w : List ℕ). row_at (cut n cols w) c.args.row) c.deref.ensures.value in
    let seen : first_place row ≡ Some c.unwrap.result = sym c.first_nonzero.ensures ∙ c.unwrap.ensures in
    subst (λ (w : Rows). first_place (row_at w.rows c.args.row) ≡ Some c.unwrap.result) c.self.view_is (ap first_place (sym is) ∙ seen)

pub returns-clause-pivots : goal.returns-clause-pivots
returns-clause-pivots g c =
    let k = g.F.Field.ops in
    let f = g.met.F.Field.laws in
    let n : ℕ = c.self.inside.rows in
    let cols : ℕ = c.self.inside.cols in
    let xs : List ℕ = c.self.inside.entries.items in
    let a : IsMatrix k cols (cut n cols xs) = cut-matrix k n cols xs c.self.invariant.long c.self.invariant.elements in
    let reduced : IsReduced cols (cut n cols xs) = subst (λ (w : Rows). IsReduced w.cols w.rows) (sym c.self.view_is) c.requires.reduced in
    let below : c.args.row < rank_of (cut n cols xs) = subst (λ (w : Rows). c.args.row < rank_of w.rows) (sym c.self.view_is) c.requires.row in
    let many : rank_of (cut n cols xs) ≡ length reduced.pivots = reduced_rank k f cols (cut n cols xs) reduced.pivots a reduced.reduced in
    let few : length reduced.pivots ≤ length (cut n cols xs) = reduced.reduced.few in
    let within : c.args.row < n = omega (arith, length-cut n cols xs) in
    let row : List ℕ = c.row_of.result.now in
    let is : row ≡ row_at (cut n cols xs) c.args.row = c.row_of.ensures.row ∙ ap (λ (w : List ℕ). row_at (cut n cols w) c.args.row) c.deref.ensures.value in
    λ pivots h.
    let reduced' : IsReducedBelow cols (cut n cols xs) pivots = subst (λ (w : Rows). IsReducedBelow w.cols w.rows pivots) (sym c.self.view_is) h in
    let first : first_place (row_at (cut n cols xs) c.args.row) ≡ Some (get_or pivots c.args.row 0) = pivot_place k f cols (cut n cols xs) pivots c.args.row a reduced' below in
    let seen : Some (get_or pivots c.args.row 0) ≡ Some c.unwrap.result = sym first ∙ (ap first_place (sym is) ∙ (sym c.first_nonzero.ensures ∙ c.unwrap.ensures)) in
    cc
