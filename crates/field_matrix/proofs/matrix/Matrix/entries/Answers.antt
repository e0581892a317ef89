use Rattle.std.proofs.Common.{length, sym, subst, ap, ℕ, List, ◌∙◌}
use Rattle.field_matrix.specs.Rows.{IsFilled, Rows, cut}
use Rattle.field_matrix.proofs.Views.{rows_are}
use Rattle.field_matrix.proofs.matrix.Matrix.entries.Goals as goal

pub returns-clause-entries : goal.returns-clause-entries
returns-clause-entries g c =
    let k = g.F.Field.ops in
    let v : Rows = c.args.self.now in
    subst (λ (w : List ℕ). IsFilled k (length v.rows) v.cols w) (sym c.deref.ensures.value)
    (subst (λ (n : ℕ). IsFilled k n v.cols c.self.inside.entries.items) (sym (rows_are c.self.inside.rows c.self.inside.cols c.self.inside.entries.items c.args.self.now c.self.view_is))
    (subst (λ (w : Rows). IsFilled k c.self.inside.rows w.cols c.self.inside.entries.items) c.self.view_is c.self.invariant))

pub returns-clause-rows : goal.returns-clause-rows
returns-clause-rows g c =
    let xs : List ℕ = c.self.inside.entries.items in
    let v : Rows = c.args.self.now in
    ap (cut (length v.rows) v.cols) c.deref.ensures.value
    ∙ (ap (λ (n : ℕ). cut n v.cols xs) (rows_are c.self.inside.rows c.self.inside.cols c.self.inside.entries.items c.args.self.now c.self.view_is)
    ∙ (ap (λ (w : Rows). cut c.self.inside.rows w.cols xs) (sym c.self.view_is) ∙ ap (λ (w : Rows). w.rows) c.self.view_is))
