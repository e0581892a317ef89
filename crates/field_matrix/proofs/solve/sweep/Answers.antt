use Rattle.std.proofs.Common.{◌≡◌, ℕ, ◌+◌, ◌<◌, List, [], length, replicate, get_or, Some, None, refl, ap, sym, ◌∙◌, arith, subst}
use Rattle.lane_rows.specs.Lanes.{first_place}
use Rattle.small_field.specs.Values.{AreElements}
use Rattle.linear_laws.specs.Vectors.{IsVector, IsMatrix, plus_scaled, row_at}
use Rattle.linear_laws.proofs.CallerLemmas.{all_at, combination-vector}
use Rattle.field_matrix.specs.Rows.{cut}
use Rattle.field_matrix.proofs.Views.{row_seen}
use Rattle.field_matrix.proofs.Sweep.{Swept, swept_none, swept_more, clear_on, told_vector}
use Rattle.field_matrix.proofs.solve.sweep.Goals as goal

pub loop-row-init : goal.loop-row-init
loop-row-init g c =
    let k = g.F.Field.ops in
    subst (Swept k c.args.reduced.now.cols c.args.history.now.cols 0 c.args.reduced.now.rows c.args.history.now.rows c.args.left.now c.args.left.now) (sym c.requires.told)
    (swept_none k g.met.F.Field.laws c.args.reduced.now.cols c.args.reduced.now.rows c.rows-row-end.ensures.matrix c.requires.reduced.pivots c.requires.reduced.reduced c.args.history.now.cols c.args.history.now.rows c.requires.history c.requires.rows c.args.left.now c.requires.left)

pub returns-in-None-clause-told : goal.returns-in-None-clause-told
returns-in-None-clause-told g c = told_vector g.F.Field.ops g.met.F.Field.laws c.args.reduced.now.cols c.args.history.now.cols c.args.reduced.now.rows c.args.history.now.rows c.args.left.now c.loop-row.left c.loop-row.told c.requires.history c.loop-row.invariant.swept

pub returns-in-None-clause-clear : goal.returns-in-None-clause-clear
returns-in-None-clause-clear g c =
    let k = g.F.Field.ops in
    let rows : List (List ℕ) = c.args.reduced.now.rows in
    let i : ℕ = c.loop-row.row in
    let lt : i < length rows = subst (λ (n : ℕ). i < n) c.rows-row-end.ensures.rows c.loop-row-test.true in
    let source : List ℕ = c.row_of-source.result.now in
    let is : source ≡ row_at rows i =
    row_seen c.shape.result.rows c.shape.result.cols i c.entries.result.now source c.args.reduced.now c.shape.ensures.rows c.shape.ensures.cols c.entries.ensures.rows c.row_of-source.ensures.row in
    let none : first_place (row_at rows i) ≡ None = ap first_place (sym is) ∙ (sym c.first_nonzero.ensures ∙ c.in-None.is) in
    clear_on k g.met.F.Field.laws c.args.reduced.now.cols rows c.rows-row-end.ensures.matrix c.requires.reduced.pivots c.requires.reduced.reduced i c.loop-row.left lt none c.loop-row.invariant.clear

pub clear_at-requires-clause-from : goal.clear_at-requires-clause-from
clear_at-requires-clause-from g c =
    let k = g.F.Field.ops in
    let rows : List (List ℕ) = c.args.reduced.now.rows in
    let i : ℕ = c.loop-row.row in
    let lt : i < length rows = subst (λ (n : ℕ). i < n) c.rows-row-end.ensures.rows c.loop-row-test.true in
    let source : List ℕ = c.row_of-source.result.now in
    let is : source ≡ row_at rows i =
    row_seen c.shape.result.rows c.shape.result.cols i c.entries.result.now source c.args.reduced.now c.shape.ensures.rows c.shape.ensures.cols c.entries.ensures.rows c.row_of-source.ensures.row in
    let others : List (List ℕ) = c.args.history.now.rows in
    let from : List ℕ = c.row_of-from.result.now in
    let from_is : from ≡ row_at others i =
    row_seen c.shape-in-Some.result.rows c.shape-in-Some.result.cols i c.entries-in-Some.result.now from c.args.history.now c.shape-in-Some.ensures.rows c.shape-in-Some.ensures.cols c.entries-in-Some.ensures.rows c.row_of-from.ensures.row in
    subst (AreElements k) (sym from_is) (all_at (IsVector k c.args.history.now.cols) others i [] (subst (λ (n : ℕ). i < n) (sym c.requires.rows) lt) c.requires.history).elements

pub clear_at-requires-clause-told : goal.clear_at-requires-clause-told
clear_at-requires-clause-told g c = (told_vector g.F.Field.ops g.met.F.Field.laws c.args.reduced.now.cols c.args.history.now.cols c.args.reduced.now.rows c.args.history.now.rows c.args.left.now c.loop-row.left c.loop-row.told c.requires.history c.loop-row.invariant.swept).elements

pub loop-row-preserved : goal.loop-row-preserved
loop-row-preserved g c =
    let k = g.F.Field.ops in
    let rows : List (List ℕ) = c.args.reduced.now.rows in
    let i : ℕ = c.loop-row.row in
    let lt : i < length rows = subst (λ (n : ℕ). i < n) c.rows-row-end.ensures.rows c.loop-row-test.true in
    let source : List ℕ = c.row_of-source.result.now in
    let is : source ≡ row_at rows i =
    row_seen c.shape.result.rows c.shape.result.cols i c.entries.result.now source c.args.reduced.now c.shape.ensures.rows c.shape.ensures.cols c.entries.ensures.rows c.row_of-source.ensures.row in
    let others : List (List ℕ) = c.args.history.now.rows in
    let from : List ℕ = c.row_of-from.result.now in
    let from_is : from ≡ row_at others i =
    row_seen c.shape-in-Some.result.rows c.shape-in-Some.result.cols i c.entries-in-Some.result.now from c.args.history.now c.shape-in-Some.ensures.rows c.shape-in-Some.ensures.cols c.entries-in-Some.ensures.rows c.row_of-from.ensures.row in
    let p : ℕ = c.in-Some.place in
    let found : first_place (row_at rows i) ≡ Some p = ap first_place (sym is) ∙ (sym c.first_nonzero.ensures ∙ c.in-Some.is) in
    let s : ℕ = k.neg (get_or c.loop-row.left p 0) in
    let State : List ℕ → List ℕ → Type 0 = Swept k c.args.reduced.now.cols c.args.history.now.cols (i + 1) rows others c.args.left.now in
    subst (λ (w : List ℕ). State w c.clear_at.new.told) (sym (c.clear_at.ensures.left ∙ ap (plus_scaled k s c.loop-row.left) is))
    (subst (State (plus_scaled k s c.loop-row.left (row_at rows i))) (sym (c.clear_at.ensures.told ∙ ap (plus_scaled k s c.loop-row.told) from_is))
    (swept_more k g.met.F.Field.laws c.args.reduced.now.cols rows c.rows-row-end.ensures.matrix c.requires.reduced.pivots c.requires.reduced.reduced c.args.history.now.cols others c.requires.history c.requires.rows i p s c.args.left.now c.loop-row.left c.loop-row.told lt found refl c.requires.left c.loop-row.invariant))

pub returns-clause-told : goal.returns-clause-told
returns-clause-told g c = told_vector g.F.Field.ops g.met.F.Field.laws c.args.reduced.now.cols c.args.history.now.cols c.args.reduced.now.rows c.args.history.now.rows c.args.left.now c.loop-row.left c.loop-row.told c.requires.history c.loop-row.invariant.swept
