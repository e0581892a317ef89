use Rattle.std.proofs.Common.{◌≡◌, ℕ, List, [], length, replicate, sym, ap, ◌∙◌, subst}
use Rattle.std.proofs.lemmas.List.{nil_from_length}
use Rattle.std.proofs.lemmas.Simd.{length-replicate}
use Rattle.linear_laws.specs.Vectors.{IsVector, combination}
use Rattle.linear_laws.proofs.CallerLemmas.{combination-zeros, zeros-elements}
use Rattle.field_matrix.proofs.matrix.Matrix.solve.Goals as goal

pub returns-then-cols-eq0 : goal.returns-then-cols-eq0
returns-then-cols-eq0 g c =
    let k = g.F.Field.ops in
    let f = g.met.F.Field.laws in
    let rows : List (List ℕ) = c.args.self.now.rows in
    let n : ℕ = c.args.self.now.cols in
    let none : n ≡ 0 = sym c.cols.ensures.cols ∙ c.if-cols-eq0.true in
    let is : c.in_ok-zero.field-0 ≡ replicate (length rows) 0 = c.in_ok-zero.ensures ∙ ap (λ (j : ℕ). replicate {A = ℕ} j 0) c.rows.ensures.rows in
    let right : c.args.rhs.now ≡ [] = nil_from_length c.args.rhs.now (c.requires ∙ none) in (
      subst (IsVector k (length rows)) (sym is) (record { long = length-replicate (length rows) 0; elements = zeros-elements k f (length rows) }),
      ap (λ (cs : List ℕ). combination k n cs rows) is
          ∙ (combination-zeros k f n (length rows) rows c.cols.ensures.matrix ∙ (ap (λ (j : ℕ). replicate {A = ℕ} j 0) none ∙ sym right)),
    )
