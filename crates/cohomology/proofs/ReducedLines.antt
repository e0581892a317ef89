-- Rank lines, one by one, and values spread to all reduced rows.
use Rattle.std.proofs.Common.{◌≡◌, ℕ, zero, suc, ◌+◌, ◌<◌, ◌≤◌, inl, inr, List, [], ◌∷◌, ◌++◌, length, length-append, map, take, get_or, set, replicate, append_assoc, refl, ap, sym, ◌∙◌, subst, arith}
use Rattle.std.proofs.lemmas.List.{get_or_default, get_or-map, length-map, take_more, take_all}
use Rattle.small_field.specs.Field.{Ops, IsField}
use Rattle.linear_laws.specs.Echelon.{IsReducedBelow}
use Rattle.linear_laws.specs.Vectors.{combination, row_at}
use Rattle.linear_laws.proofs.CallerLemmas.{all_at, nonzero_many, nonzero_within, same_or_not}
use Rattle.std.proofs.lemmas.Simd.{length-replicate}
use Rattle.linear_laws.specs.ZeroRows.{nonzero_places, nonzero_rows}
use Rattle.split_laws.specs.Kinds.{criticals, uppers}
use Rattle.split_laws.specs.Laws.{SolutionsAreOne}
use Rattle.field_matrix.specs.declared.history.Elimination.{Elimination}
use Rattle.pair_stages.specs.declared.unit.Unit.{Unit}
use Rattle.pair_stages.specs.Stages.{critical_from}
use Rattle.critical_complex.proofs.CallerLemmas.{critical_long}
use Rattle.critical_complex.specs.Levels.{Level, cells_at, kinds_at, IsExtensionAt, IsFilledAt, IsReducedAt}
use Rattle.critical_complex.specs.Complex.{no_unit, unit_at, IsReducedComplex}
use Rattle.chain_laws.specs.Lines.{cochain_of, AreEntries}
use Rattle.chain_laws.specs.AllLines.{Line}
use Rattle.cohomology.specs.Bases.{cells_with, kinds_with, no_line, rows_with}
use Rattle.cohomology.specs.Echelons.{rank_in, IsEchelon}
use Rattle.cohomology.specs.RankLines.{unit_line, unit_lines, HaveRankLines, HaveRows, IsReducedLine, IsSpread}
use Rattle.cohomology.proofs.ClassLemmas.{reduced_index}
use Rattle.cohomology.proofs.ReducedRows.{reduced_is_one}
use Rattle.cohomology.proofs.Spreading.{put, put_long, put_step, put_widens, widen, widened}

-- ---- the lines of units

pub line_is : (line : Line) (u v : Unit) → line.left ≡ u.left → line.right ≡ u.right → u ≡ v → line ≡ unit_line v
line_is line u v l r e = ap (λ x. record { left = x; right = line.right }) l ∙ ap (λ x. record { left = u.left; right = x }) r ∙ ap unit_line e

pub unit_more : (us : List Unit) (i : ℕ) (lines next : List Line) (line : Line) → i < length us → lines ≡ take i (map unit_line us) → line ≡ unit_line (unit_at us i) → next ≡ lines ++ line ∷ [] → next ≡ take (i + 1) (map unit_line us)
unit_more us i lines next line l h u e =
    e ∙ ap (λ xs. xs ++ line ∷ []) h ∙ ap (λ x. take i (map unit_line us) ++ x ∷ []) (u ∙ sym (get_or-map unit_line us i no_unit no_line l))
    ∙ sym (take_more (map unit_line us) i no_line (let z : length (map unit_line us) ≡ length us = length-map us unit_line in omega (arith, l, z)))

pub all_units : (us : List Unit) (i : ℕ) (lines : List Line) → length us ≤ i → lines ≡ take i (map unit_line us) → lines ≡ map unit_line us
all_units us i lines l h = h ∙ take_all i (map unit_line us) (omega (arith, l, length-map us unit_line))

-- ---- one reduced line more

at_end : (rest : List Line) (line : Line) (i : ℕ) → i ≡ length rest → get_or (rest ++ line ∷ []) i no_line ≡ line
at_end rest line i e = ap (λ k. get_or (rest ++ line ∷ []) k no_line) e ∙ last rest
  where
    last : (xs : List Line) → get_or (xs ++ line ∷ []) (length xs) no_line ≡ line
    last [] = refl
    last (x ∷ xs) = last xs

before_end : (rest : List Line) (line : Line) (i : ℕ) → i < length rest → get_or (rest ++ line ∷ []) i no_line ≡ get_or rest i no_line
before_end [] line i l = absurd (omega (arith, l))
before_end (x ∷ rest) line zero l = refl
before_end (x ∷ rest) line (suc i) l = before_end rest line i (omega (arith, l))

module _ {G : Type 0} (F : Ops) (levels : List Level) (degree : ℕ) (e : Elimination G) where
  pub no_rest : (lines : List Line) → lines ≡ unit_lines levels degree → length lines ≡ uppers (kinds_at levels (degree + 1)) → HaveRankLines F levels degree e 0 lines
  no_rest lines h m = record {
    rest = [];
    are = h ∙ sym (append-nil (unit_lines levels degree));
    many = ap (λ xs. length xs) (sym h) ∙ m;
    long = refl;
    each = λ i l. absurd (omega (arith, l));
  }
    where
      append-nil : (xs : List Line) → xs ++ [] ≡ xs
      append-nil [] = refl
      append-nil (x ∷ xs) = ap (λ ys. x ∷ ys) (append-nil xs)

  pub rest_more : (upto : ℕ) (lines next : List Line) (line : Line) → HaveRankLines F levels degree e upto lines → IsReducedLine F levels degree e upto line → next ≡ lines ++ line ∷ [] → HaveRankLines F levels degree e (upto + 1) next
  rest_more upto lines next line h r n = record {
    rest = h.rest ++ line ∷ [];
    are = n ∙ ap (λ xs. xs ++ line ∷ []) h.are ∙ append_assoc (unit_lines levels degree) h.rest (line ∷ []);
    many = h.many;
    long = length-append h.rest (line ∷ []) ∙ ap (λ k. k + 1) h.long;
    each = λ i l. elim (same_or_not i upto) [
      | inl same ↦
          subst (λ k. IsReducedLine F levels degree e k (get_or (h.rest ++ line ∷ []) i no_line)) (sym same)
          (subst (IsReducedLine F levels degree e upto) (sym (at_end h.rest line i (same ∙ sym h.long))) r)
      | inr apart ↦
          let lower : i < upto = omega (arith, l, apart) in
          subst (IsReducedLine F levels degree e i) (sym (before_end h.rest line i (omega (arith, lower, h.long)))) (h.each i lower)
    ];
  }

-- ---- values spread

-- w has the first of the values at the first of the places
pub record IsPutBefore (levels : List Level) (degree : ℕ) (places values : List ℕ) (upto : ℕ) (w : List ℕ) : Type 0 where
  pub is : w ≡ put (take upto places) (take upto values) (replicate (criticals (kinds_at levels degree)) 0)

pub put_first : (levels : List Level) (degree : ℕ) (places values w : List ℕ) → w ≡ replicate (criticals (kinds_at levels degree)) 0 → IsPutBefore levels degree places values 0 w
put_first levels degree places values w e = record { is = e }

pub put_before_long : (levels : List Level) (degree : ℕ) (places values : List ℕ) (i : ℕ) (w : List ℕ) → IsPutBefore levels degree places values i w → length w ≡ criticals (kinds_at levels degree)
put_before_long levels degree places values i w h =
    let n : ℕ = criticals (kinds_at levels degree) in
    ap (λ xs. length xs) h.is ∙ put_long (take i places) (take i values) (replicate n 0) ∙ length-replicate n 0

pub put_next : (levels : List Level) (degree : ℕ) (places values w next : List ℕ) (i x : ℕ) → i < length places → i < length values → x ≡ get_or values i 0 → IsPutBefore levels degree places values i w → next ≡ set w (get_or places i 0) x → IsPutBefore levels degree places values (i + 1) next
put_next levels degree places values w next i x lp lv v h e = record {
  is =
      e ∙ ap (λ y. set w (get_or places i 0) y) v ∙ ap (λ u. set u (get_or places i 0) (get_or values i 0)) h.is
      ∙ put_step places values (replicate (criticals (kinds_at levels degree)) 0) i lp lv;
}

pub critical_many : (levels : List Level) (degree : ℕ) (cells : List ℕ) → cells ≡ critical_from 1 (kinds_at levels (degree + 1)) → length cells ≡ criticals (kinds_at levels (degree + 1))
critical_many levels degree cells e = ap (λ xs. length xs) e ∙ critical_long 1 (kinds_at levels (degree + 1))

module _ (F : Ops) (L : IsField F) (levels : List Level) (degree : ℕ) where
  -- the places are as many as the values, and within the critical cells
  pub places_many : (places : List ℕ) (count : ℕ) → IsFilledAt F levels degree places → HaveRows F levels degree count → length places ≡ count
  places_many places count h r = ap (λ xs. length xs) (h r.filled.all r.filled.reduced) ∙ nonzero_many r.filled.all ∙ sym (ap (λ xs. length xs) r.filled.are) ∙ r.many

  pub place_within : (places : List ℕ) (count i : ℕ) → IsFilledAt F levels degree places → HaveRows F levels degree count → i < length places → get_or places i 0 < criticals (kinds_at levels degree)
  place_within places count i h r l =
      let all : List (List ℕ) = r.filled.all in
      let same : places ≡ nonzero_places all = h all r.filled.reduced in
      subst (λ ps. get_or ps i 0 < criticals (kinds_at levels degree)) (sym same)
      (subst (λ k. get_or (nonzero_places all) i 0 < k) r.filled.reduced.long (all_at (λ k. k < length all) (nonzero_places all) i 0 (subst (λ ps. i < length ps) same l) (nonzero_within all)))

  pub spread_all : (places values w : List ℕ) → IsFilledAt F levels degree places → HaveRows F levels degree (length values) → (upto : ℕ) → length values ≤ upto → IsPutBefore levels degree places values upto w → IsSpread F levels degree values w
  spread_all places values w h r upto l p =
      let n : ℕ = criticals (kinds_at levels degree) in
      let many : length places ≡ length values = places_many places (length values) h r in
      let put_all : w ≡ put places values (replicate n 0) =
      p.is ∙ ap (λ ps. put ps (take upto values) (replicate n 0)) (take_all upto places (omega (arith, many, l))) ∙ ap (λ xs. put places xs (replicate n 0)) (take_all upto values (omega (arith, l))) in
      record {
        long = ap (λ xs. length xs) put_all ∙ put_long places values (replicate n 0) ∙ length-replicate n 0;
        same = λ all a.
            let places_are : places ≡ nonzero_places all = h all a in
            let fits : length values ≡ length (nonzero_rows all) = sym many ∙ ap (λ ps. length ps) places_are ∙ nonzero_many all in
            let wide : w ≡ widen all values = put_all ∙ ap (λ ps. put ps values (replicate n 0)) places_are ∙ ap (λ k. put (nonzero_places all) values (replicate k 0)) (sym a.long) ∙ put_widens all values fits in
            ap (λ xs. combination F (criticals (kinds_at levels (degree + 1))) xs all) wide ∙ widened F L (criticals (kinds_at levels (degree + 1))) all values a.matrix fits;
      }

  -- ---- the row of an echelon form

  pub spread_row : {G : Type 0} → SolutionsAreOne F → IsReducedComplex F levels → (e : Elimination G) → IsEchelon F levels degree e → (index : ℕ) → index < length e.history.rows → (values w : List ℕ) → values ≡ row_at e.history.rows index → IsSpread F levels degree values w
      → (all : List (List ℕ)) → IsReducedAt F levels degree all → combination F (criticals (kinds_at levels (degree + 1))) w all ≡ row_at e.reduced.rows index
  spread_row law R e h index l values w v s all a =
      let k : ℕ = suc degree in
      let m : ℕ = criticals (kinds_at levels (degree + 1)) in
      s.same all a
      ∙ ap (λ xs. combination F m xs (nonzero_rows all)) v
      ∙ ap (combination F m (row_at e.history.rows index)) (ap nonzero_rows (reduced_is_one F L law (cells_with levels k) (cells_with levels (suc k)) (rows_with levels k) (kinds_with levels k) (kinds_with levels (suc k)) (R.complex.splits k) all h.filled.all (reduced_index F levels degree all a) (reduced_index F levels degree h.filled.all h.filled.reduced)) ∙ sym h.filled.are)
      ∙ sym (get_or-map (λ cs. combination F m cs h.rows) e.history.rows index [] [] l)
      ∙ ap (λ rows. row_at rows index) h.history.gives

  pub rows_of_history : {G : Type 0} (e : Elimination G) → IsEchelon F levels degree e → (row : List ℕ) → length row ≡ e.history.cols → HaveRows F levels degree (length row)
  rows_of_history e h row l = record { rows = h.rows; filled = h.filled; many = sym (l ∙ h.history_cols) }

  -- its pivots are places of critical cells of one degree more
  pub pivot_below : {G : Type 0} (e : Elimination G) → IsEchelon F levels degree e → (index pivot : ℕ) → index < rank_in e
      → ((pivots : List ℕ) → IsReducedBelow e.reduced.cols e.reduced.rows pivots → get_or pivots index 0 ≡ pivot) → pivot < criticals (kinds_at levels (degree + 1))
  pivot_below e h index pivot l p =
      let at : get_or h.form.pivots index 0 ≡ pivot = p h.form.pivots (subst (λ n. IsReducedBelow n e.reduced.rows h.form.pivots) (sym h.cols) h.form.reduced) in
      subst (λ k. k < criticals (kinds_at levels (degree + 1))) at (h.form.reduced.within index (omega (arith, l, h.form.rank_is)))

  history_long : {G : Type 0} (e : Elimination G) → IsEchelon F levels degree e → (index : ℕ) → index < rank_in e → index < length e.history.rows
  history_long e h index l =
      let m : ℕ = criticals (kinds_at levels (degree + 1)) in
      let same : length (map (λ cs. combination F m cs h.rows) e.history.rows) ≡ length e.reduced.rows = ap (λ xs. length xs) h.history.gives in
      let few : length h.form.pivots ≤ length e.reduced.rows = h.form.reduced.few in
      omega (arith, l, few, h.form.rank_is, same, length-map e.history.rows (λ cs. combination F m cs h.rows))

  pub reduced_line_is : {G : Type 0} → SolutionsAreOne F → IsReducedComplex F levels → (e : Elimination G) → IsEchelon F levels degree e → (index : ℕ) → index < rank_in e → (history values x : List ℕ) (left right : List (ℕ × ℕ)) (line : Line)
      → history ≡ row_at e.history.rows index → IsSpread F levels degree history values → IsExtensionAt F levels degree values x → AreEntries F (length x) left → cochain_of (length x) left ≡ x
      → (cells : List ℕ) (pivot number d : ℕ) → cells ≡ critical_from 1 (kinds_at levels (degree + 1)) → ((pivots : List ℕ) → IsReducedBelow e.reduced.cols e.reduced.rows pivots → get_or pivots index 0 ≡ pivot) → number ≡ get_or cells pivot d
      → right ≡ (number, 1) ∷ [] → line.left ≡ left → line.right ≡ right → IsReducedLine F levels degree e index line
  reduced_line_is law R e h index l history values x left right line his spread ext entries cochain cells pivot number d cs ps at one ll lr =
      let n : ℕ = cells_at levels degree in
      let long : length x ≡ n = ext.vector.long in
      let low : pivot < length cells = omega (arith, pivot_below e h index pivot l ps, critical_many levels degree cells cs) in
      record {
        values = values;
        extension = subst (IsExtensionAt F levels degree values) (sym (ap (cochain_of n) ll ∙ ap (λ k. cochain_of k left) (sym long) ∙ cochain)) ext;
        left = subst (AreEntries F n) (sym ll) (subst (λ k. AreEntries F k left) long entries);
        row = spread_row law R e h index (history_long e h index l) history values his spread;
        right = λ pivots p.
            lr ∙ one
            ∙ ap (λ k. (k, 1) ∷ []) (at ∙ get_or_default cells pivot d 0 low ∙ ap (λ xs. get_or xs pivot 0) cs ∙ ap (λ k. get_or (critical_from 1 (kinds_at levels (degree + 1))) k 0) (sym (ps pivots p.reduced)));
      }
