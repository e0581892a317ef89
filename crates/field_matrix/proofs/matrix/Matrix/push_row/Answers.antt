use Rattle.std.proofs.Common.{◌≡◌, ℕ, suc, ◌+◌, ◌++◌, ◌∷◌, [], List, length, sym, ap, ◌∙◌, arith}
use Rattle.field_matrix.specs.Rows.{cut, Rows}
use Rattle.field_matrix.proofs.Built.{cut-pushed}
use Rattle.field_matrix.proofs.Views.{rows_are}
use Rattle.field_matrix.proofs.matrix.Matrix.push_row.Goals as goal

pub overflow_add-self : goal.overflow_add-self
overflow_add-self g c =
    let e : length c.args.self.now.rows ≡ c.self.inside.rows = rows_are c.self.inside.rows c.self.inside.cols c.self.inside.entries.items c.args.self.now c.self.view_is in
    omega (arith, e, c.requires.few)

pub returns-clause-rows : goal.returns-clause-rows
returns-clause-rows g c =
    let n : ℕ = c.self.inside.rows in
    let cols : ℕ = c.self.inside.cols in
    let xs : List ℕ = c.self.inside.entries.items in
    let row : List ℕ = c.args.row.now in
    let new : List ℕ = c.extend_from_slice.new.self.items in
    let is : new ≡ xs ++ row = c.in_ok-extend_from_slice.ensures.items ∙ ap (λ (w : List ℕ). xs ++ w) c.numbers.ensures.numbers in
    let long : length row ≡ cols = c.requires.cols ∙ ap (λ (w : Rows). w.cols) (sym c.self.view_is) in
    ap (λ (m : ℕ). cut m cols new) (let e : n + 1 ≡ suc n = omega arith in e)
    ∙ (ap (cut (suc n) cols) is ∙ (cut-pushed n cols xs row c.self.invariant.long long ∙ ap (λ (w : Rows). w.rows ++ row ∷ []) c.self.view_is))
