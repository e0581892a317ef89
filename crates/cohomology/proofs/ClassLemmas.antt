-- Class lines, one by one.
use Rattle.std.proofs.Common.{◌≡◌, ℕ, zero, suc, ◌+◌, ◌<◌, inl, inr, List, [], ◌∷◌, ◌++◌, length, length-append, map, take, refl, ap, sym, ◌∙◌, subst, arith}
use Rattle.std.proofs.lemmas.List.{take_more}
use Rattle.small_field.specs.Field.{Ops}
use Rattle.linear_laws.specs.Vectors.{row_at}
use Rattle.linear_laws.specs.Marks.{identity, mark}
use Rattle.linear_laws.proofs.CallerLemmas.{all_append, identity_row, length-identity, same_or_not}
use Rattle.split_laws.specs.declared.kind.Kind.{Kind}
use Rattle.split_laws.specs.Solutions.{AreExtensions, AreFlows, IsExtension, IsFlow, IsReducedBy}
use Rattle.critical_complex.specs.Levels.{Level, cells_at, kinds_at, rows_at, IsExtensionAt, IsFlowAt, IsReducedAt}
use Rattle.chain_laws.specs.Lines.{cochain_of}
use Rattle.chain_laws.specs.AllLines.{Line, left_sides, right_sides}
use Rattle.cohomology.specs.Bases.{cells_with, rows_with, kinds_with, AreLinesFor, HaveDuals, HaveSides, IsClassFor, IsReducedFrom}
use Rattle.cohomology.specs.Swept.{ArePivots, IsDual}

module _ (F : Ops) where
  -- ---- degrees and indexes

  pub extension_index : (levels : List Level) (d : ℕ) (w x : List ℕ) → IsExtensionAt F levels d w x → IsExtension F (cells_at levels d) (cells_at levels (suc d)) (rows_at levels d) (kinds_at levels d) (kinds_at levels (suc d)) w x
  extension_index levels d w x h =
      let up : d + 1 ≡ suc d = omega arith in
      subst (λ e. IsExtension F (cells_at levels d) (cells_at levels e) (rows_at levels d) (kinds_at levels d) (kinds_at levels e) w x) up h

  pub flow_index : (levels : List Level) (d : ℕ) (c z : List ℕ) → IsFlowAt F levels d c z → IsFlow F (cells_with levels d) (cells_at levels d) (rows_with levels d) (kinds_with levels d) (kinds_at levels d) c z
  flow_index levels zero c z h = h
  flow_index levels (suc d) c z h = h

  pub reduced_index : (levels : List Level) (d : ℕ) (rows : List (List ℕ)) → IsReducedAt F levels d rows → IsReducedFrom F levels (suc d) rows
  reduced_index levels d rows h =
      let up : d + 1 ≡ suc d = omega arith in
      subst (λ e. IsReducedBy F (cells_at levels d) (cells_at levels e) (rows_at levels d) (kinds_at levels d) (kinds_at levels e) rows) up h

  -- ---- one line more

  extensions_more : (n m : ℕ) (rows : List (List ℕ)) (ts us : List Kind) (ws xs : List (List ℕ)) (w x : List ℕ) → AreExtensions F n m rows ts us ws xs → IsExtension F n m rows ts us w x → AreExtensions F n m rows ts us (ws ++ w ∷ []) (xs ++ x ∷ [])
  extensions_more n m rows ts us [] [] w x h e = (e, tt)
  extensions_more n m rows ts us [] (y ∷ xs) w x h e = absurd h
  extensions_more n m rows ts us (v ∷ ws) [] w x h e = absurd h
  extensions_more n m rows ts us (v ∷ ws) (y ∷ xs) w x h e = (h.0, extensions_more n m rows ts us ws xs w x h.1 e)

  flows_more : (n m : ℕ) (rows : List (List ℕ)) (ts us : List Kind) (ws xs : List (List ℕ)) (w x : List ℕ) → AreFlows F n m rows ts us ws xs → IsFlow F n m rows ts us w x → AreFlows F n m rows ts us (ws ++ w ∷ []) (xs ++ x ∷ [])
  flows_more n m rows ts us [] [] w x h e = (e, tt)
  flows_more n m rows ts us [] (y ∷ xs) w x h e = absurd h
  flows_more n m rows ts us (v ∷ ws) [] w x h e = absurd h
  flows_more n m rows ts us (v ∷ ws) (y ∷ xs) w x h e = (h.0, flows_more n m rows ts us ws xs w x h.1 e)

  pushed_lefts : (n : ℕ) (lines : List Line) (line : Line) → map (cochain_of n) (left_sides lines) ++ cochain_of n line.left ∷ [] ≡ map (cochain_of n) (left_sides (lines ++ line ∷ []))
  pushed_lefts n [] line = refl
  pushed_lefts n (l ∷ lines) line = ap (λ xs. cochain_of n l.left ∷ xs) (pushed_lefts n lines line)

  pushed_rights : (n : ℕ) (lines : List Line) (line : Line) → map (cochain_of n) (right_sides lines) ++ cochain_of n line.right ∷ [] ≡ map (cochain_of n) (right_sides (lines ++ line ∷ []))
  pushed_rights n [] line = refl
  pushed_rights n (l ∷ lines) line = ap (λ xs. cochain_of n l.right ∷ xs) (pushed_rights n lines line)

  pub no_lines : (levels : List Level) (d : ℕ) → AreLinesFor F levels d [] [] []
  no_lines levels d = record { extensions = tt; flows = tt; sides = tt }

  pub lines_more : (levels : List Level) (d : ℕ) (zs vs : List (List ℕ)) (lines next : List Line) (z v : List ℕ) (line : Line) → AreLinesFor F levels d zs vs lines → IsClassFor F levels d z v line → next ≡ lines ++ line ∷ [] → AreLinesFor F levels d (zs ++ z ∷ []) (vs ++ v ∷ []) next
  lines_more levels d zs vs lines next z v line h c e =
      let n : ℕ = cells_at levels d in
      subst (AreLinesFor F levels d (zs ++ z ∷ []) (vs ++ v ∷ [])) (sym e)
      (record {
        extensions =
            subst (AreExtensions F n (cells_at levels (suc d)) (rows_at levels d) (kinds_at levels d) (kinds_at levels (suc d)) (zs ++ z ∷ [])) (pushed_lefts n lines line)
            (extensions_more n (cells_at levels (suc d)) (rows_at levels d) (kinds_at levels d) (kinds_at levels (suc d)) zs (map (cochain_of n) (left_sides lines)) z (cochain_of n line.left) h.extensions c.extension);
        flows =
            subst (AreFlows F (cells_with levels d) n (rows_with levels d) (kinds_with levels d) (kinds_at levels d) (vs ++ v ∷ [])) (pushed_rights n lines line)
            (flows_more (cells_with levels d) n (rows_with levels d) (kinds_with levels d) (kinds_at levels d) vs (map (cochain_of n) (right_sides lines)) v (cochain_of n line.right) h.flows c.flow);
        sides = all_append (HaveSides F n) lines (line ∷ []) h.sides (c.sides, tt);
      })

  pub lines_more_at : (levels : List Level) (d i : ℕ) (all : List (List ℕ)) (vs : List (List ℕ)) (lines next : List Line) (v : List ℕ) (line : Line) → i < length all → AreLinesFor F levels d (take i all) vs lines → IsClassFor F levels d (row_at all i) v line
      → next ≡ lines ++ line ∷ [] → AreLinesFor F levels d (take (i + 1) all) (vs ++ v ∷ []) next
  lines_more_at levels d i all vs lines next v line l h c e =
      subst (λ us. AreLinesFor F levels d us (vs ++ v ∷ []) next) (sym (take_more all i [] l)) (lines_more levels d (take i all) vs lines next (row_at all i) v line h c e)

  -- ---- duals

  pub no_duals : (levels : List Level) (d n : ℕ) (form others : List (List ℕ)) → HaveDuals F levels d n form others 0 []
  no_duals levels d n form others = record { vs = []; are = no_lines levels d; long = refl; duals = λ pivots places p q place l. absurd (omega (arith, l)) }

  pushed_at : (vs : List (List ℕ)) (v : List ℕ) → row_at (vs ++ v ∷ []) (length vs) ≡ v
  pushed_at [] v = refl
  pushed_at (w ∷ vs) v = pushed_at vs v

  kept_at : (vs : List (List ℕ)) (v : List ℕ) (i : ℕ) → i < length vs → row_at (vs ++ v ∷ []) i ≡ row_at vs i
  kept_at [] v i l = absurd (omega (arith, l))
  kept_at (w ∷ vs) v zero l = refl
  kept_at (w ∷ vs) v (suc i) l = kept_at vs v i (omega (arith, l))

  pub duals_more : (levels : List Level) (d n i : ℕ) (form others : List (List ℕ)) (lines next : List Line) (v : List ℕ) (line : Line) → i < length others → HaveDuals F levels d n form others i lines → IsClassFor F levels d (row_at others i) v line
      → ((pivots places : List ℕ) → ArePivots n form pivots → ArePivots n others places → IsDual F n form pivots others places (length pivots) i v) → next ≡ lines ++ line ∷ [] → HaveDuals F levels d n form others (i + 1) next
  duals_more levels d n i form others lines next v line l h c dual e = record {
    vs = h.vs ++ v ∷ [];
    are = lines_more_at levels d i others h.vs lines next v line l h.are c e;
    long = length-append h.vs (v ∷ []) ∙ ap (λ k. k + 1) h.long;
    duals = λ pivots places p q place lp. elim (same_or_not place i) [
      | inl here ↦
          subst (λ k. IsDual F n form pivots others places (length pivots) k (row_at (h.vs ++ v ∷ []) k)) (sym here)
          (subst (IsDual F n form pivots others places (length pivots) i) (sym (ap (row_at (h.vs ++ v ∷ [])) (sym h.long) ∙ pushed_at h.vs v)) (dual pivots places p q))
      | inr apart ↦
          let lower : place < i = omega (arith, lp, apart) in
          subst (IsDual F n form pivots others places (length pivots) place) (sym (kept_at h.vs v place (omega (arith, lower, h.long)))) (h.duals pivots places p q place lower)
    ];
  }

  -- ---- marks

  pub marks_more : (levels : List Level) (d i count : ℕ) (lines next : List Line) (z : List ℕ) (line : Line) → i < count → AreLinesFor F levels d (take i (identity count)) (take i (identity count)) lines → IsClassFor F levels d z z line → z ≡ mark count i
      → next ≡ lines ++ line ∷ [] → AreLinesFor F levels d (take (i + 1) (identity count)) (take (i + 1) (identity count)) next
  marks_more levels d i count lines next z line l h c e n =
      let more : take (i + 1) (identity count) ≡ take i (identity count) ++ z ∷ [] =
      take_more (identity count) i [] (omega (arith, l, length-identity count)) ∙ ap (λ (w : List ℕ). take i (identity count) ++ w ∷ []) (identity_row count i l ∙ sym e) in
      subst (λ us. AreLinesFor F levels d us us next) (sym more) (lines_more levels d (take i (identity count)) (take i (identity count)) lines next z z line h c n)
