use Rattle.std.proofs.Common.{◌≡◌, ℕ, ◌++◌, ◌*◌, List, [], length, take, drop, sym, ap, ◌∙◌, arith, subst}
use Rattle.std.proofs.lemmas.Grind.{common_steps}
use Rattle.linear_laws.specs.Vectors.{IsVector, IsMatrix, row_at}
use Rattle.linear_laws.proofs.CallerLemmas.{all_at, all_set}
use Rattle.field_matrix.specs.Rows.{cut, IsFilled, Rows}
use Rattle.field_matrix.proofs.Cut.{cut-matrix, cut-elements}
use Rattle.field_matrix.proofs.Views.{row_within}
use Rattle.field_matrix.proofs.matrix.Matrix.put_row.Goals as goal

pub set_row-requires-clause-row : goal.set_row-requires-clause-row
set_row-requires-clause-row g c = row_within c.self.inside.rows c.self.inside.cols c.self.inside.entries.items c.args.self.now c.self.view_is c.args.place c.requires.place

pub invariant_of-self : goal.invariant_of-self
invariant_of-self g c =
    let k = g.F.Field.ops in
    let n : ℕ = c.self.inside.rows in
    let cols : ℕ = c.self.inside.cols in
    let xs : List ℕ = c.self.inside.entries.items in
    let v : Rows = c.args.from.now in
    let new : List ℕ = c.set_row.new.entries in
    let same : take c.self.inside.entries.len (new ++ drop (length new) xs) ≡ new = grind (arith, common_steps) in
    let kept : length new ≡ length xs = c.set_row.auto.entries ∙ ap length c.deref_mut.ensures.value in
    let long : length new ≡ n * cols = kept ∙ c.self.invariant.long in
    let a : IsMatrix k cols (cut n cols c.deref_mut.result.now) =
    subst (λ (w : List ℕ). IsMatrix k cols (cut n cols w)) (sym c.deref_mut.ensures.value) (cut-matrix k n cols xs c.self.invariant.long c.self.invariant.elements) in
    let source : List ℕ = c.row_of-source.result.now in
    let theirs : IsMatrix k v.cols v.rows =
    subst (IsMatrix k v.cols) c.entries.ensures.rows (cut-matrix k (length v.rows) v.cols c.entries.result.now c.entries.ensures.entries.long c.entries.ensures.entries.elements) in
    let is : source ≡ row_at v.rows c.args.row =
    c.row_of-source.ensures.row
    ∙ (ap (λ (m : ℕ). row_at (cut m c.shape.result.cols c.entries.result.now) c.args.row) c.shape.ensures.rows
    ∙ (ap (λ (m : ℕ). row_at (cut (length v.rows) m c.entries.result.now) c.args.row) c.shape.ensures.cols ∙ ap (λ (ws : List (List ℕ)). row_at ws c.args.row) c.entries.ensures.rows)) in
    let width : v.cols ≡ cols = c.requires.cols ∙ ap (λ (w : Rows). w.cols) (sym c.self.view_is) in
    let vector : IsVector k cols source = subst (λ (m : ℕ). IsVector k m source) width (subst (IsVector k v.cols) (sym is) (all_at (IsVector k v.cols) v.rows c.args.row [] c.requires.row theirs)) in
    let b : IsMatrix k cols (cut n cols new) = subst (IsMatrix k cols) (sym c.set_row.ensures) (all_set (IsVector k cols) (cut n cols c.deref_mut.result.now) c.args.place source vector a) in
    subst (IsFilled k n cols) (sym same) (record { long = long; elements = cut-elements k n cols new long b })
