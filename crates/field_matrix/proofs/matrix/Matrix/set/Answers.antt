use Rattle.std.proofs.Common.{◌≡◌, ℕ, ◌++◌, ◌*◌, ◌<◌, List, length, length-set, set, take, drop, sym, ap, ◌∙◌, arith, subst}
use Rattle.std.proofs.lemmas.Grind.{common_steps}
use Rattle.linear_laws.specs.Vectors.{IsVector, IsMatrix, row_at}
use Rattle.linear_laws.proofs.CallerLemmas.{all_set}
use Rattle.field_matrix.specs.Rows.{cut, IsFilled}
use Rattle.field_matrix.proofs.Cut.{cut-matrix, cut-elements}
use Rattle.field_matrix.proofs.Splits.{row_vector}
use Rattle.field_matrix.proofs.Views.{row_within}
use Rattle.field_matrix.proofs.matrix.Matrix.set.Goals as goal

pub set_entry-requires-clause-row : goal.set_entry-requires-clause-row
set_entry-requires-clause-row g c = row_within c.self.inside.rows c.self.inside.cols c.self.inside.entries.items c.args.self.now c.self.view_is c.args.row c.requires.row

pub invariant_of-self : goal.invariant_of-self
invariant_of-self g c =
    let k = g.F.Field.ops in
    let f = g.met.F.Field.laws in
    let n : ℕ = c.self.inside.rows in
    let cols : ℕ = c.self.inside.cols in
    let xs : List ℕ = c.self.inside.entries.items in
    let new : List ℕ = c.set_entry.new.entries in
    let same : take c.self.inside.entries.len (new ++ drop (length new) xs) ≡ new = grind (arith, common_steps) in
    let kept : length new ≡ length xs = c.set_entry.auto.entries ∙ ap length c.deref_mut.ensures.value in
    let long : length new ≡ n * cols = kept ∙ c.self.invariant.long in
    let a : IsMatrix k cols (cut n cols c.deref_mut.result.now) =
    subst (λ (w : List ℕ). IsMatrix k cols (cut n cols w)) (sym c.deref_mut.ensures.value) (cut-matrix k n cols xs c.self.invariant.long c.self.invariant.elements) in
    let within : c.args.row < n = row_within n cols xs c.args.self.now c.self.view_is c.args.row c.requires.row in
    let old : IsVector k cols (row_at (cut n cols c.deref_mut.result.now) c.args.row) = row_vector k f n cols c.args.row c.deref_mut.result.now a within in
    let number : ℕ = c.to_number-number.result in
    let small : number < k.size = subst (λ (b : ℕ). number < b) (sym g.met.F.Field.size_is) c.to_number-number.ensures.below in
    let row : List ℕ = set (row_at (cut n cols c.deref_mut.result.now) c.args.row) c.args.col number in
    let vector : IsVector k cols row = record {
      long = length-set (row_at (cut n cols c.deref_mut.result.now) c.args.row) c.args.col number ∙ old.long;
      elements = all_set (λ x. x < k.size) (row_at (cut n cols c.deref_mut.result.now) c.args.row) c.args.col number small old.elements;
    } in
    let b : IsMatrix k cols (cut n cols new) = subst (IsMatrix k cols) (sym c.set_entry.ensures) (all_set (IsVector k cols) (cut n cols c.deref_mut.result.now) c.args.row row vector a) in
    subst (IsFilled k n cols) (sym same) (record { long = long; elements = cut-elements k n cols new long b })
