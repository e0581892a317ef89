use Rattle.std.proofs.Common.{◌≡◌, ℕ, ◌++◌, ◌+◌, ◌*◌, ◌≤◌, List, length, take, drop, sym, ap, ◌∙◌, arith, subst}
use Rattle.std.proofs.lemmas.Grind.{common_steps}
use Rattle.linear_laws.specs.Vectors.{IsMatrix}
use Rattle.linear_laws.specs.Echelon.{IsReducedTo, rank_of}
use Rattle.field_matrix.specs.Rows.{cut, IsFilled, Rows}
use Rattle.field_matrix.proofs.Cut.{cut-matrix, cut-elements}
use Rattle.field_matrix.proofs.Ranks.{reduced_to_rank}
use Rattle.field_matrix.proofs.Views.{rows_are}
use Rattle.field_matrix.proofs.matrix.Matrix.reduce.Goals as goal

pub reduce_rows-requires-clause-matrix : goal.reduce_rows-requires-clause-matrix
reduce_rows-requires-clause-matrix g c =
    subst (λ (w : List ℕ). IsMatrix g.F.Field.ops c.self.inside.cols (cut c.self.inside.rows c.self.inside.cols w)) (sym c.deref_mut.ensures.value)
    (cut-matrix g.F.Field.ops c.self.inside.rows c.self.inside.cols c.self.inside.entries.items c.self.invariant.long c.self.invariant.elements)

pub invariant_of-self : goal.invariant_of-self
invariant_of-self g c =
    let k = g.F.Field.ops in
    let n : ℕ = c.self.inside.rows in
    let cols : ℕ = c.self.inside.cols in
    let xs : List ℕ = c.self.inside.entries.items in
    let new : List ℕ = c.reduce_rows.new.entries in
    let same : take c.self.inside.entries.len (new ++ drop (length new) xs) ≡ new = grind (arith, common_steps) in
    let kept : length new ≡ length xs = c.reduce_rows.auto.entries ∙ ap length c.deref_mut.ensures.value in
    let long : length new ≡ n * cols = kept ∙ c.self.invariant.long in
    subst (IsFilled k n cols) (sym same) (record { long = long; elements = cut-elements k n cols new long c.reduce_rows.ensures.reduced.matrix })

pub returns-clause-reduced : goal.returns-clause-reduced
returns-clause-reduced g c =
    let k = g.F.Field.ops in
    let f = g.met.F.Field.laws in
    let n : ℕ = c.self.inside.rows in
    let cols : ℕ = c.self.inside.cols in
    let xs : List ℕ = c.self.inside.entries.items in
    let new : List ℕ = c.reduce_rows.new.entries in
    let r : ℕ = c.reduce_rows.result in
    let same : take c.self.inside.entries.len (new ++ drop (length new) xs) ≡ new = grind (arith, common_steps) in
    let h : IsReducedTo k cols r cols (cut n cols xs) (cut n cols new) =
    subst (λ (w : List ℕ). IsReducedTo k cols r cols (cut n cols w) (cut n cols new)) c.deref_mut.ensures.value c.reduce_rows.ensures.reduced in
    let rank : rank_of (cut n cols new) ≡ r = reduced_to_rank k f cols r (cut n cols xs) (cut n cols new) h in
    let Good : List ℕ → Rows → Type 0 = λ w v. IsReducedTo k v.cols (rank_of (cut n cols w)) v.cols v.rows (cut n cols w) in
    subst (λ (w : List ℕ). Good w c.args.self.now) (sym same) (subst (Good new) c.self.view_is (subst (λ (b : ℕ). IsReducedTo k cols b cols (cut n cols xs) (cut n cols new)) (sym rank) h))

pub returns-clause-steps : goal.returns-clause-steps
returns-clause-steps g c =
    let k = g.F.Field.ops in
    let f = g.met.F.Field.laws in
    let n : ℕ = c.self.inside.rows in
    let cols : ℕ = c.self.inside.cols in
    let xs : List ℕ = c.self.inside.entries.items in
    let new : List ℕ = c.reduce_rows.new.entries in
    let r : ℕ = c.reduce_rows.result in
    let same : take c.self.inside.entries.len (new ++ drop (length new) xs) ≡ new = grind (arith, common_steps) in
    let rank : rank_of (cut n cols new) ≡ r = reduced_to_rank k f cols r (cut n cols c.deref_mut.result.now) (cut n cols new) c.reduce_rows.ensures.reduced in
    let rows : length c.args.self.now.rows ≡ n = rows_are n cols xs c.args.self.now c.self.view_is in
    let Good : ℕ → ℕ → Type 0 = λ a b. c.reduce_rows.new.steps ≤ c.args.steps.now + a * b in
    subst (λ (b : ℕ). Good (length c.args.self.now.rows) b) (sym (ap (λ (w : List ℕ). rank_of (cut n cols w)) same ∙ rank)) (subst (λ (a : ℕ). Good a r) (sym rows) c.reduce_rows.ensures.steps)
