-- Class lines are those of a basis of the cohomology of the reduced rows, with dual cycles.
use Rattle.std.proofs.Common.{◌≡◌, ℕ, zero, suc, ◌+◌, ◌<◌, ◌≤◌, List, [], ◌∷◌, false, length, take, get_or, replicate, refl, ap, sym, ◌∙◌, subst, arith}
use Rattle.std.specs.List.{AllByRecursion}
use Rattle.std.proofs.lemmas.List.{get_or-set_other, get_or-set_same, get_or-take}
use Rattle.std.proofs.lemmas.Simd.{length-replicate, get_or-replicate}
use Rattle.small_field.specs.Field.{Ops, IsField}
use Rattle.linear_laws.specs.Betti.{IsCohomologyBasis}
use Rattle.linear_laws.specs.Echelon.{is_nonzero, IsReducedBelow, IsReducedTo, rank_of}
use Rattle.linear_laws.specs.Laws.{TrianglesAreIndependent, KernelsComplete}
use Rattle.linear_laws.specs.Marks.{identity, mark}
use Rattle.linear_laws.specs.Vectors.{boundary, combination, dot, plus_scaled, row_at, InSpan, IsInKernel, IsKernelBasis, IsMatrix, IsVector, SameSpan}
use Rattle.linear_laws.specs.ZeroRows.{nonzero_places, nonzero_rows}
use Rattle.linear_laws.proofs.CallerLemmas.{combination-identity, combination-mark, dot_mark, identity_row, in_span_trans, length-identity, long_pivots, mark_vector, none_is_zeros, nonzero_many, one_times, span_zero, zeros_dot}
use Rattle.split_laws.specs.Complex.{AreReduced}
use Rattle.split_laws.specs.Kinds.{criticals}
use Rattle.split_laws.specs.Solutions.{IsReducedBy}
use Rattle.split_laws.specs.Laws.{ReducedIsClosed, SolutionsAreOne}
use Rattle.field_matrix.specs.Rows.{Rows}
use Rattle.critical_complex.specs.Levels.{Level, cells_at, kinds_at, rows_at, IsFilledAt, IsReducedAt}
use Rattle.critical_complex.specs.Complex.{IsReducedComplex}
use Rattle.chain_laws.specs.AllLines.{Line}
use Rattle.cohomology.specs.Bases.{cells_with, rows_with, kinds_with, AreClasses, AreLinesFor, HaveDuals, IsFormInto, IsReducedFrom}
use Rattle.cohomology.specs.Swept.{front, ArePivots, AreSwept, IsDual, IsForm}
use Rattle.cohomology.proofs.Completing.{completed, new_clear}
use Rattle.cohomology.proofs.Duals.{dual_is_cycle}
use Rattle.cohomology.proofs.ReducedRows.{from_nonzero, front_in, last_in, reduced_is_one, some_reduced, some_rows}

pub as_form : (F : Ops) (levels : List Level) (degree : ℕ) (m : Rows) → IsFormInto F levels degree m → IsForm F m.cols m.rows
as_form F levels degree m h = record { before = nonzero_rows h.all; is = h.form }

module _ (F : Ops) (L : IsField F) (law : SolutionsAreOne F) (levels : List Level) (R : IsReducedComplex F levels) where
  -- reduced rows at all indexes
  pub some : ℕ → List (List ℕ)
  some k = some_rows F L law (cells_with levels k) (cells_with levels (suc k)) (rows_with levels k) (kinds_with levels k) (kinds_with levels (suc k)) (R.complex.splits k)

  pub are_some : AreReduced F (cells_with levels) (rows_with levels) (kinds_with levels) some
  unfolding some
  are_some k = some_reduced F L law (cells_with levels k) (cells_with levels (suc k)) (rows_with levels k) (kinds_with levels k) (kinds_with levels (suc k)) (R.complex.splits k)

  one : (k : ℕ) (xs ys : List (List ℕ)) → IsReducedFrom F levels k xs → IsReducedFrom F levels k ys → xs ≡ ys
  one k xs ys a b = reduced_is_one F L law (cells_with levels k) (cells_with levels (suc k)) (rows_with levels k) (kinds_with levels k) (kinds_with levels (suc k)) (R.complex.splits k) xs ys a b

  closed : ReducedIsClosed F → (k : ℕ) (last next : List (List ℕ)) → IsReducedFrom F levels k last → IsReducedFrom F levels (suc k) next
      → AllByRecursion (λ r. combination F (criticals (kinds_with levels (suc (suc k)))) r next ≡ replicate (criticals (kinds_with levels (suc (suc k)))) 0) last
  closed still k last next a b =
      let m : ℕ = criticals (kinds_with levels (suc (suc k))) in
      subst (λ xs. AllByRecursion (λ r. combination F m r next ≡ replicate m 0) xs) (one k (some k) last (are_some k) a)
      (subst (λ ys. AllByRecursion (λ r. combination F m r ys ≡ replicate m 0) (some k)) (one (suc k) (some (suc k)) next (are_some (suc k)) b)
      (still (cells_with levels) (rows_with levels) (kinds_with levels) some R.complex are_some k))

  module _ (degree : ℕ) where
    abbrev c : ℕ
    c = criticals (kinds_at levels degree)

    abbrev m : ℕ
    m = criticals (kinds_at levels (suc degree))

    -- ---- by a kernel

    module _ (form : List (List ℕ)) (all : List (List ℕ)) (into : IsReducedFrom F levels degree all) (h : IsReducedTo F c (rank_of form) c (nonzero_rows all) form) (rows kernel vs zs : List (List ℕ)) (out : IsReducedFrom F levels (suc degree) rows)
        (basis : IsKernelBasis F m rows kernel) (swept : AreSwept F c (front form) h.pivots kernel vs) (g : IsReducedTo F c (rank_of zs) c vs zs) where
      pub kernel_clear : (i j : ℕ) → i < rank_of zs → j < rank_of form → get_or (row_at zs i) (get_or h.pivots j 0) 0 ≡ 0
      kernel_clear = new_clear F L c (rank_of form) (nonzero_rows all) form h kernel vs swept (rank_of zs) zs g

      pub kernel_completes : ReducedIsClosed F → TrianglesAreIndependent F → KernelsComplete F → (last next : List (List ℕ)) → IsReducedFrom F levels degree last → IsReducedFrom F levels (suc degree) next → IsCohomologyBasis F m last next (front zs)
      kernel_completes still independent complete last next a b =
          subst (λ ys. IsCohomologyBasis F m last ys (front zs)) (one (suc degree) rows next out b)
          (subst (λ xs. IsCohomologyBasis F m xs rows (front zs)) (one degree all last into a)
          (completed F L c (rank_of form) (nonzero_rows all) form h kernel vs swept (rank_of zs) zs g all into.matrix (last_in F L c (rank_of form) all form into.matrix h) (front_in F L c (rank_of form) all form into.matrix h)
          (subst (λ k. IsMatrix F k kernel) out.long basis.matrix) independent complete m rows out.long out.matrix (closed still degree all rows into out) basis))

      all_cycles : (us : List (List ℕ)) (ds : (place : ℕ) → place < length us → IsDual F c form h.pivots zs g.pivots (length h.pivots) place (row_at us place)) → length us ≤ rank_of zs
          → AllByRecursion (λ v. boundary F all v ≡ replicate (length all) 0) us
      all_cycles us ds le = from_place us 0 (λ i l. (i, le_of i l, ds i l))
        where
          le_of : (i : ℕ) → i < length us → i < rank_of zs
          le_of i l = omega (arith, l, le)

          from_place : (ws : List (List ℕ)) (first : ℕ) → ((i : ℕ) → i < length ws → (place : ℕ) × (place < rank_of zs) × IsDual F c form h.pivots zs g.pivots (length h.pivots) place (row_at ws i)) → AllByRecursion (λ v. boundary F all v ≡ replicate (length all) 0) ws
          from_place [] first f = tt
          from_place (w ∷ ws) first f =
              let d = f 0 (omega arith) in (
                dual_is_cycle F L c (rank_of form) (nonzero_rows all) form h (rank_of zs) vs zs g kernel_clear d.0 w (subst (λ k. IsDual F c form h.pivots zs g.pivots k d.0 w) h.rank_is d.2) all (last_in F L c (rank_of form) all form into.matrix h),
                from_place ws (suc first) (λ i l. f (suc i) (omega (arith, l))),
              )

      pub classes_by_kernel : ReducedIsClosed F → TrianglesAreIndependent F → KernelsComplete F → (lines : List Line) → HaveDuals F levels degree c form zs (rank_of zs) lines → AreClasses F levels degree lines
      classes_by_kernel still independent complete lines d =
          let p : ArePivots c form h.pivots = record { reduced = h.reduced; many = h.rank_is } in
          let q : ArePivots c zs g.pivots = record { reduced = g.reduced; many = g.rank_is } in
          let long : length (front zs) ≡ rank_of zs = long_pivots F L c (rank_of zs) vs zs g in
          let dual : (place : ℕ) → place < rank_of zs → IsDual F c form h.pivots zs g.pivots (length h.pivots) place (row_at d.vs place) = d.duals h.pivots g.pivots p q in
          record {
            zs = front zs;
            vs = d.vs;
            are = d.are;
            basis = kernel_completes still independent complete;
            cycles = λ last a.
                subst (λ xs. AllByRecursion (λ v. boundary F xs v ≡ replicate (length xs) 0) d.vs) (one degree all last into a)
                (all_cycles d.vs (λ place l. dual place (omega (arith, l, d.long))) (omega (arith, d.long)));
            long = d.long ∙ sym long;
            own = λ place l.
                let lp : place < rank_of zs = omega (arith, l, long) in
                ap (λ u. dot F u (row_at d.vs place)) (get_or-take (rank_of zs) zs place [] lp) ∙ (dual place lp).own;
            apart = λ place other l lo ne.
                let lp : place < rank_of zs = omega (arith, l, long) in
                let lq : other < rank_of zs = omega (arith, lo, long) in
                ap (λ u. dot F u (row_at d.vs place)) (get_or-take (rank_of zs) zs other [] lq) ∙ (dual place lp).apart other (omega (arith, lq, g.rank_is)) ne;
          }

    module _ (form : Rows) (i : IsFormInto F levels degree form) (rows kernel vs zs : List (List ℕ)) (out : IsReducedFrom F levels (suc degree) rows) (width : ℕ) (width_is : width ≡ m) (basis : IsKernelBasis F width rows kernel)
        (swept : (pivots : List ℕ) → ArePivots form.cols form.rows pivots → AreSwept F form.cols (front form.rows) pivots kernel vs) (cols : ℕ) (cols_are : cols ≡ c) (g : IsReducedTo F cols (rank_of zs) cols vs zs) where
      abbrev with_pivots : (pivots : List ℕ) → ArePivots form.cols form.rows pivots → IsReducedTo F c (rank_of form.rows) c (nonzero_rows i.all) form.rows
      with_pivots pivots p = record {
        matrix = subst (λ n. IsMatrix F n form.rows) i.cols i.form.matrix;
        long = i.form.long;
        span = subst (λ n. SameSpan F n (nonzero_rows i.all) form.rows) i.cols i.form.span;
        pivots = pivots;
        rank_is = p.many;
        reduced = subst (λ n. IsReducedBelow n form.rows pivots) i.cols p.reduced;
      }

      basis_here : IsKernelBasis F m rows kernel
      basis_here = subst (λ n. IsKernelBasis F n rows kernel) width_is basis

      swept_here : (pivots : List ℕ) → ArePivots form.cols form.rows pivots → AreSwept F c (front form.rows) pivots kernel vs
      swept_here pivots p = subst (λ n. AreSwept F n (front form.rows) pivots kernel vs) i.cols (swept pivots p)

      reduced_here : IsReducedTo F c (rank_of zs) c vs zs
      reduced_here = subst (λ n. IsReducedTo F n (rank_of zs) n vs zs) cols_are g

      pub case_clear : (pivots : List ℕ) → ArePivots form.cols form.rows pivots → (a b : ℕ) → a < rank_of zs → b < length pivots → get_or (row_at zs a) (get_or pivots b 0) 0 ≡ 0
      case_clear pivots p a b la lb =
          kernel_clear form.rows i.all i.reduced (with_pivots pivots p) rows kernel vs zs out basis_here (swept_here pivots p) reduced_here a b la (omega (arith, lb, p.many))

      pub case_classes : ReducedIsClosed F → TrianglesAreIndependent F → KernelsComplete F → (lines : List Line) → HaveDuals F levels degree form.cols form.rows zs (rank_of zs) lines → AreClasses F levels degree lines
      case_classes still independent complete lines d =
          let p : ArePivots form.cols form.rows i.form.pivots = record { reduced = i.form.reduced; many = i.form.rank_is } in
          classes_by_kernel form.rows i.all i.reduced (with_pivots i.form.pivots p) rows kernel vs zs out basis_here (swept_here i.form.pivots p) reduced_here still independent complete lines
          (subst (λ n. HaveDuals F levels degree n form.rows zs (rank_of zs) lines) i.cols d)

    -- ---- by marks, where all rows are zero

    zero_row_at : (rows : List (List ℕ)) → AllByRecursion (λ w. w ≡ replicate m 0) rows → (i : ℕ) → i < length rows → row_at rows i ≡ replicate m 0
    zero_row_at [] a i l = absurd (omega (arith, l))
    zero_row_at (w ∷ rows) a zero l = a.0
    zero_row_at (w ∷ rows) a (suc i) l = zero_row_at rows a.1 i (omega (arith, l))

    no_span : (v : List ℕ) → InSpan F c [] v → v ≡ replicate c 0
    no_span v p = by_coefficients p.coefficients p.is
      where
        by_coefficients : (cs : List ℕ) → combination F c cs [] ≡ v → v ≡ replicate c 0
        by_coefficients [] e = sym e
        by_coefficients (x ∷ cs) e = sym e

    module _ (last next : List (List ℕ)) (nothing : AllByRecursion (InSpan F c []) last) (last_matrix : IsMatrix F c last) (next_matrix : IsMatrix F m next) (long : length next ≡ c) (zeros : AllByRecursion (λ w. w ≡ replicate m 0) next) where
      marks_inside : (i : ℕ) → i < c → IsInKernel F m next (row_at (identity c) i)
      marks_inside i l =
          subst (IsInKernel F m next) (sym (identity_row c i l))
          (record {
            vector = subst (λ k. IsVector F k (mark c i)) (sym long) (mark_vector F L c i);
            zero = combination-mark F L m c i next next_matrix long l ∙ zero_row_at next zeros i (omega (arith, l, long));
          })

      from_rows : (P : List ℕ → Type 0) (rows : List (List ℕ)) → ((i : ℕ) → i < length rows → P (row_at rows i)) → AllByRecursion P rows
      from_rows P [] f = tt
      from_rows P (w ∷ rows) f = (f 0 (omega arith), from_rows P rows (λ i l. f (suc i) (omega (arith, l))))

      pub marks_basis : IsCohomologyBasis F m last next (identity c)
      marks_basis = record {
        cocycles = from_rows (IsInKernel F m next) (identity c) (λ i l. marks_inside i (omega (arith, l, length-identity c)));
        spans = λ z k.
            let v : IsVector F c z = subst (λ n. IsVector F n z) long k.vector in (
              z,
              replicate c 0,
              subst (λ n. IsVector F n z) (sym (length-identity c)) v,
              subst (λ n. InSpan F n last (replicate c 0)) (sym long) (span_zero F L c last last_matrix),
              sym (ap (λ n. plus_scaled F 1 (replicate c 0) (combination F n z (identity c))) long ∙ ap (plus_scaled F 1 (replicate c 0)) (combination-identity F L c z v) ∙ one_times F L c z v.long v.elements),
            );
        unique = λ cs v p.
            let w : IsVector F c cs = subst (λ n. IsVector F n cs) (length-identity c) v in
            let q : InSpan F c last cs = subst (InSpan F c last) (combination-identity F L c cs w) (subst (λ n. InSpan F n last (combination F n cs (identity c))) long p) in
            no_span cs (in_span_trans F L c last [] cs tt nothing q) ∙ ap (λ n. replicate n 0) (sym (length-identity c));
      }

    boundary_of_none : (v : List ℕ) (ws : List (List ℕ)) → AllByRecursion (InSpan F c []) ws → boundary F ws v ≡ replicate (length ws) 0
    boundary_of_none v [] a = refl
    boundary_of_none v (w ∷ ws) a =
        ap (λ x. x ∷ boundary F ws v) (ap (λ u. dot F u v) (no_span w a.0) ∙ zeros_dot F L c v) ∙ ap (λ xs. 0 ∷ xs) (boundary_of_none v ws a.1)

    zeros_from : (rows : List (List ℕ)) → IsMatrix F m rows → AllByRecursion (λ w. is_nonzero w ≡ false) rows → AllByRecursion (λ w. w ≡ replicate m 0) rows
    zeros_from [] a z = tt
    zeros_from (w ∷ rows) a z = (none_is_zeros w z.0 ∙ ap (λ (j : ℕ). replicate {A = ℕ} j 0) a.0.long, zeros_from rows a.1 z.1)

    no_length : (xs : List (List ℕ)) → length xs ≡ 0 → xs ≡ []
    no_length [] e = refl
    no_length (x ∷ xs) e = absurd (omega (arith, e))

    all_zero_rows : (places : List ℕ) (rows : List (List ℕ)) → length places ≡ 0 → places ≡ nonzero_places rows → IsMatrix F m rows → AllByRecursion (λ w. w ≡ replicate m 0) rows
    all_zero_rows places rows none e a =
        let count : length (nonzero_rows rows) ≡ 0 = sym (nonzero_many rows) ∙ ap (λ (ps : List ℕ). length ps) (sym e) ∙ none in
        zeros_from rows a
        (from_nonzero (λ w. is_nonzero w ≡ false) rows (λ w t. t) (subst (AllByRecursion (λ w. is_nonzero w ≡ false)) (sym (no_length (nonzero_rows rows) count)) tt))

    any_cycles : (last : List (List ℕ)) → ((v : List ℕ) → boundary F last v ≡ replicate (length last) 0) → (vs : List (List ℕ)) → AllByRecursion (λ v. boundary F last v ≡ replicate (length last) 0) vs
    any_cycles last f [] = tt
    any_cycles last f (v ∷ vs) = (f v, any_cycles last f vs)

    module _ (form : Rows) (i : IsFormInto F levels degree form) (none : rank_of form.rows ≡ 0) (places : List ℕ) (filled : IsFilledAt F levels degree places) (empty : length places ≡ 0) where
      nothing_into : (last : List (List ℕ)) → IsReducedFrom F levels degree last → AllByRecursion (InSpan F c []) last
      nothing_into last a =
          let h : IsReducedTo F c (rank_of form.rows) c (nonzero_rows i.all) form.rows = subst (λ n. IsReducedTo F n (rank_of form.rows) n (nonzero_rows i.all) form.rows) i.cols i.form in
          subst (AllByRecursion (InSpan F c [])) (one degree i.all last i.reduced a)
          (subst (λ k. AllByRecursion (InSpan F c (take k form.rows)) i.all) none (last_in F L c (rank_of form.rows) i.all form.rows i.reduced.matrix h))

      zeros_out : (next : List (List ℕ)) → IsReducedFrom F levels (suc degree) next → AllByRecursion (λ w. w ≡ replicate m 0) next
      zeros_out next b =
          let up : suc degree ≡ degree + 1 = omega arith in
          let at : IsReducedAt F levels degree next = subst (λ e. IsReducedBy F (cells_at levels degree) (cells_at levels e) (rows_at levels degree) (kinds_at levels degree) (kinds_at levels e) next) up b in
          all_zero_rows places next empty (filled next at) b.matrix

      pub classes_by_marks : (lines : List Line) → AreLinesFor F levels degree (identity c) (identity c) lines → AreClasses F levels degree lines
      classes_by_marks lines are = record {
        zs = identity c;
        vs = identity c;
        are = are;
        basis = λ last next a b. marks_basis last next (nothing_into last a) a.matrix b.matrix b.long (zeros_out next b);
        cycles = λ last a. any_cycles last (λ v. boundary_of_none v last (nothing_into last a)) (identity c);
        long = refl;
        own = λ place l.
            let lp : place < c = omega (arith, l, length-identity c) in
            ap (λ u. dot F u u) (identity_row c place lp)
            ∙ dot_mark F L c place (mark c place) (mark_vector F L c place) lp
            ∙ get_or-set_same (replicate c 0) place 1 0 (omega (arith, lp, length-replicate {A = ℕ} c 0));
        apart = λ place other l lo ne.
            let lp : place < c = omega (arith, l, length-identity c) in
            let lq : other < c = omega (arith, lo, length-identity c) in
            ap (λ u. dot F u (row_at (identity c) place)) (identity_row c other lq)
            ∙ ap (dot F (mark c other)) (identity_row c place lp)
            ∙ dot_mark F L c other (mark c place) (mark_vector F L c place) lq
            ∙ get_or-set_other (replicate c 0) place other 1 0 ne
            ∙ get_or-replicate c other 0 0 lq;
      }
