use Rattle.std.proofs.Common.{◌≡◌, ◌+◌, ◌∷◌, [], ℕ, List, length, length-append, take, ap, sym, ◌∙◌, subst, arith}
use Rattle.std.proofs.lemmas.List.{take_all}
use Rattle.cohomology.specs.Swept.{front, ArePivots, AreSwept, IsSwept}
use Rattle.cohomology.proofs.RowSteps.{one_more_row}
use Rattle.cohomology.proofs.rows.swept_rows.Goals as goal

pub loop-index-init : goal.loop-index-init
loop-index-init g c = record {
  cols = (c.in_ok-swept.ensures).0 ∙ c.cols.ensures.cols;
  long = ap (λ (rows : List (List ℕ)). length rows) (c.in_ok-swept.ensures).1;
  swept = λ pivots p. subst (AreSwept g.F.Field.ops c.args.form.now.cols (front c.args.form.now.rows) pivots []) (sym (c.in_ok-swept.ensures).1) tt;
}

pub push_row-requires-clause-cols : goal.push_row-requires-clause-cols
push_row-requires-clause-cols g c =
    let p : ArePivots c.args.form.now.cols c.args.form.now.rows c.requires.form.is.pivots = record { reduced = c.requires.form.is.reduced; many = c.requires.form.is.rank_is } in
    (c.sweep_row.ensures c.requires.form.is.pivots p).vector.long ∙ sym c.requires.cols ∙ sym c.loop-index.invariant.cols

pub push_row-requires-clause-few : goal.push_row-requires-clause-few
push_row-requires-clause-few g c = omega (arith, c.loop-index.invariant.long, c.loop-index-test.true, c.rows-index-end.type_inv)

pub loop-index-preserved : goal.loop-index-preserved
loop-index-preserved g c = record {
  cols = c.push_row.ensures.cols ∙ c.loop-index.invariant.cols;
  long =
      ap (λ (rows : List (List ℕ)). length rows) c.in_ok-push_row.ensures.rows
      ∙ length-append c.loop-index.swept.rows (c.sweep_row.new.row ∷ [])
      ∙ ap (λ k. k + 1) c.loop-index.invariant.long;
  swept = λ pivots p.
      one_more_row g.F.Field.ops g.met.F.Field.laws c.args.form.now.cols c.args.form.now.rows c.requires.form pivots p c.loop-index.index c.args.rows.now.rows c.loop-index.swept.rows c.sweep_row.new.row c.push_row.new.self.rows
      (omega (arith, c.loop-index-test.true, c.rows-index-end.ensures.rows)) (c.loop-index.invariant.swept pivots p)
      (subst (λ w. IsSwept g.F.Field.ops c.args.form.now.cols (front c.args.form.now.rows) pivots (length pivots) w c.sweep_row.new.row) (c.in_ok-row.ensures) (c.sweep_row.ensures pivots p))
      c.in_ok-push_row.ensures.rows;
}

pub returns-clause-cols : goal.returns-clause-cols
returns-clause-cols g c = c.loop-index.invariant.cols

pub returns-clause-swept : goal.returns-clause-swept
returns-clause-swept g c pivots p =
    let at : length c.args.rows.now.rows ≡ c.loop-index.index = omega (arith, c.loop-index-test.false, c.loop-index.auto.index-end, c.rows-index-end.ensures.rows) in
    let all : take c.loop-index.index c.args.rows.now.rows ≡ c.args.rows.now.rows = ap (λ k. take k c.args.rows.now.rows) (sym at) ∙ take_all (length c.args.rows.now.rows) c.args.rows.now.rows (omega arith) in
    subst (λ ws. AreSwept g.F.Field.ops c.args.form.now.cols (front c.args.form.now.rows) pivots ws c.loop-index.swept.rows) all (c.loop-index.invariant.swept pivots p)
