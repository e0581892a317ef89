use Rattle.std.proofs.Common.{◌≡◌, ℕ, ◌+◌, ◌*◌, ◌≤◌, ◌++◌, List, length, take, drop, sym, ap, ◌∙◌, arith, subst}
use Rattle.std.proofs.lemmas.Grind.{common_steps}
use Rattle.linear_laws.specs.Vectors.{IsMatrix}
use Rattle.linear_laws.specs.Echelon.{IsReducedTo, IsReducedBelow}
use Rattle.field_matrix.specs.Rows.{cut}
use Rattle.field_matrix.specs.Solutions.{above, IsComplement}
use Rattle.field_matrix.proofs.Cut.{length-cut, cut-matrix}
use Rattle.field_matrix.proofs.Turned.{turned_matrix}
use Rattle.field_matrix.proofs.Chosen.{above_few}
use Rattle.field_matrix.proofs.Bases.{is_complement}
use Rattle.field_matrix.proofs.complement.complement_rows.Goals as goal

pub reduce_uncounted-rank-requires-clause-matrix : goal.reduce_uncounted-rank-requires-clause-matrix
reduce_uncounted-rank-requires-clause-matrix g c =
    let k = g.F.Field.ops in
    let f = g.met.F.Field.laws in
    let s : ℕ = c.args.first_shape.rows in
    let r : ℕ = c.args.shape.rows in
    let m : ℕ = c.args.shape.cols in
    let sub : List (List ℕ) = cut s m c.args.first.now in
    let rows : List (List ℕ) = cut r m c.args.others.now in
    let filled : length c.args.first.now ≡ s * m = c.requires.first.long ∙ ap (λ (j : ℕ). s * j) c.requires.cols in
    let asub : IsMatrix k m sub = cut-matrix k s m c.args.first.now filled c.requires.first.elements in
    let arows : IsMatrix k m rows = cut-matrix k r m c.args.others.now c.requires.others.long c.requires.others.elements in
    let ls : length sub ≡ s = length-cut s m c.args.first.now in
    let lr : length rows ≡ r = length-cut r m c.args.others.now in
    let items : List ℕ = c.in_ok-columns.columns.items in
    let ts : List (List ℕ) = cut m (s + r) items in
    let lt : length ts ≡ m = length-cut m (s + r) items in
    let at : IsMatrix k (s + r) ts = turned_matrix k f m s r sub rows ts asub arows ls lr lt c.in_ok-columns.ensures.columns in
    subst (λ (w : List ℕ). IsMatrix k (s + r) (cut m (s + r) w)) (sym c.deref_mut.ensures.value) at

pub new-requires : goal.new-requires
new-requires g c =
    let k = g.F.Field.ops in
    let f = g.met.F.Field.laws in
    let s : ℕ = c.args.first_shape.rows in
    let r : ℕ = c.args.shape.rows in
    let m : ℕ = c.args.shape.cols in
    let sub : List (List ℕ) = cut s m c.args.first.now in
    let rows : List (List ℕ) = cut r m c.args.others.now in
    let filled : length c.args.first.now ≡ s * m = c.requires.first.long ∙ ap (λ (j : ℕ). s * j) c.requires.cols in
    let asub : IsMatrix k m sub = cut-matrix k s m c.args.first.now filled c.requires.first.elements in
    let arows : IsMatrix k m rows = cut-matrix k r m c.args.others.now c.requires.others.long c.requires.others.elements in
    let ls : length sub ≡ s = length-cut s m c.args.first.now in
    let lr : length rows ≡ r = length-cut r m c.args.others.now in
    let items : List ℕ = c.in_ok-columns.columns.items in
    let ts : List (List ℕ) = cut m (s + r) items in
    let lt : length ts ≡ m = length-cut m (s + r) items in
    let at : IsMatrix k (s + r) ts = turned_matrix k f m s r sub rows ts asub arows ls lr lt c.in_ok-columns.ensures.columns in
    let after : List (List ℕ) = cut m (s + r) c.reduce_uncounted-rank.new.entries in
    let rank : ℕ = c.reduce_uncounted-rank.result in
    let h : IsReducedTo k (s + r) rank (s + r) ts after = subst (λ (w : List ℕ). IsReducedTo k (s + r) rank (s + r) (cut m (s + r) w) after) c.deref_mut.ensures.value c.reduce_uncounted-rank.ensures in
    let new : List ℕ = c.reduce_uncounted-rank.new.entries in
    let same : take c.in_ok-columns.columns.len (new ++ drop (length new) items) ≡ new = grind (arith, common_steps) in
    let now : c.deref.result.now ≡ new = c.deref.ensures.value ∙ same in
    let are : c.in_ok-places.places.items ≡ above s h.pivots =
    c.in_ok-places.ensures h.pivots (subst (λ (w : List ℕ). IsReducedBelow (s + r) (cut m (s + r) w) h.pivots) (sym now) h.reduced) h.rank_is in
    let few : length (above s h.pivots) ≤ length h.pivots = above_few s h.pivots in
    let many : length h.pivots ≤ length after = h.reduced.few in
    let long : length after ≡ m = length-cut m (s + r) new in
    let count : length c.in_ok-places.places.items ≡ length (above s h.pivots) = ap length are in
    omega arith

pub returns : goal.returns
returns g c =
    let k = g.F.Field.ops in
    let f = g.met.F.Field.laws in
    let s : ℕ = c.args.first_shape.rows in
    let r : ℕ = c.args.shape.rows in
    let m : ℕ = c.args.shape.cols in
    let sub : List (List ℕ) = cut s m c.args.first.now in
    let rows : List (List ℕ) = cut r m c.args.others.now in
    let filled : length c.args.first.now ≡ s * m = c.requires.first.long ∙ ap (λ (j : ℕ). s * j) c.requires.cols in
    let asub : IsMatrix k m sub = cut-matrix k s m c.args.first.now filled c.requires.first.elements in
    let arows : IsMatrix k m rows = cut-matrix k r m c.args.others.now c.requires.others.long c.requires.others.elements in
    let ls : length sub ≡ s = length-cut s m c.args.first.now in
    let lr : length rows ≡ r = length-cut r m c.args.others.now in
    let items : List ℕ = c.in_ok-columns.columns.items in
    let ts : List (List ℕ) = cut m (s + r) items in
    let lt : length ts ≡ m = length-cut m (s + r) items in
    let at : IsMatrix k (s + r) ts = turned_matrix k f m s r sub rows ts asub arows ls lr lt c.in_ok-columns.ensures.columns in
    let after : List (List ℕ) = cut m (s + r) c.reduce_uncounted-rank.new.entries in
    let rank : ℕ = c.reduce_uncounted-rank.result in
    let h : IsReducedTo k (s + r) rank (s + r) ts after = subst (λ (w : List ℕ). IsReducedTo k (s + r) rank (s + r) (cut m (s + r) w) after) c.deref_mut.ensures.value c.reduce_uncounted-rank.ensures in
    let new : List ℕ = c.reduce_uncounted-rank.new.entries in
    let same : take c.in_ok-columns.columns.len (new ++ drop (length new) items) ≡ new = grind (arith, common_steps) in
    let now : c.deref.result.now ≡ new = c.deref.ensures.value ∙ same in
    let are : c.in_ok-places.places.items ≡ above s h.pivots =
    c.in_ok-places.ensures h.pivots (subst (λ (w : List ℕ). IsReducedBelow (s + r) (cut m (s + r) w) h.pivots) (sym now) h.reduced) h.rank_is in
    subst (IsComplement k m sub rows) (sym (c.new.ensures ∙ are)) (is_complement k f m s r rank sub rows ts after asub arows ls lr at lt c.in_ok-columns.ensures.columns h)
