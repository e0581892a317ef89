-- A kernel that is cleared at the pivots of the coboundaries and reduced completes them: a basis of the cohomology.
use Rattle.std.proofs.Common.{◌≡◌, ℕ, suc, ◌<◌, ◌≤◌, List, [], ◌∷◌, ◌++◌, length, map, get_or, replicate, ap, sym, ◌∙◌, subst, arith}
use Rattle.std.specs.List.{AllByRecursion}
use Rattle.std.proofs.lemmas.List.{get_or-take}
use Rattle.small_field.specs.Field.{Ops, IsField}
use Rattle.linear_laws.specs.Betti.{IsCohomologyBasis}
use Rattle.linear_laws.specs.Echelon.{IsReducedTo}
use Rattle.linear_laws.specs.Laws.{TrianglesAreIndependent, KernelsComplete}
use Rattle.linear_laws.specs.Marks.{mark}
use Rattle.linear_laws.specs.Triangle.{Triangle}
use Rattle.linear_laws.specs.Vectors.{combination, dot, row_at, InSpan, IsBasis, IsIndependent, IsKernelBasis, IsMatrix, IsVector}
use Rattle.linear_laws.proofs.CallerLemmas.{all_append, all_at, all_take, all_weaker, in_span_trans, long_pivots, pivots_independent, pivots_span, same_span, span_rows}
use Rattle.cohomology.specs.Swept.{AreSwept}
use Rattle.cohomology.proofs.Sweeping.{form_own, form_other, front, front_matrix, pivot, swept_back, swept_matrix, swept_span_clear, swept_there}
use Rattle.cohomology.proofs.Triangles.{all_parts, at_mark, joined, marks_matrix, over, triangle_of}

module _ (F : Ops) (L : IsField F) (n r : ℕ) (before form : List (List ℕ)) (h : IsReducedTo F n r n before form) where
  rank_few : r ≤ length form
  rank_few = let a : length h.pivots ≤ length form = h.reduced.few in omega (arith, a, h.rank_is)

  abbrev rows : List (List ℕ)
  rows = front F L n r before form h

  front_long : length rows ≡ r
  front_long = long_pivots F L n r before form h

  pub front_at : (i : ℕ) → i < r → row_at rows i ≡ row_at form i
  front_at i l = get_or-take r form i [] l

  pub pivots_triangle : Triangle F rows (map (mark n) h.pivots)
  pivots_triangle =
      triangle_of F L n rows h.pivots (front_matrix F L n r before form h) (front_long ∙ sym h.rank_is) h.reduced.within
      (λ i l e.
      let li : i < r = omega (arith, l, h.rank_is) in
      let one : 1 ≡ 0 = sym (form_own F L n r before form h i li) ∙ ap (λ ys. get_or ys (get_or h.pivots i 0) 0) (sym (front_at i li)) ∙ e in
      absurd (omega (arith, one)))
      (λ i j lij lj.
      let lr : j < r = omega (arith, lj, h.rank_is) in
      ap (λ ys. get_or ys (get_or h.pivots i 0) 0) (front_at j lr) ∙ form_other F L n r before form h i j (omega (arith, lij, lr)) lr (λ e. omega (arith, e, lij)))

module _ (F : Ops) (L : IsField F) (n r : ℕ) (before form : List (List ℕ)) (h : IsReducedTo F n r n before form) (ws vs : List (List ℕ)) (swept : AreSwept F n (front F L n r before form h) h.pivots ws vs) (b : ℕ) (zform : List (List ℕ)) (g : IsReducedTo F n b n vs zform) where
  abbrev R : List (List ℕ)
  R = front F L n r before form h

  abbrev Z : List (List ℕ)
  Z = front F L n b vs zform g

  R_matrix : IsMatrix F n R
  R_matrix = front_matrix F L n r before form h

  Z_matrix : IsMatrix F n Z
  Z_matrix = front_matrix F L n b vs zform g

  -- ---- what is new is zero at the pivots of the coboundaries

  Z_inside : AllByRecursion (InSpan F n vs) Z
  Z_inside =
      all_take (InSpan F n vs) b zform
      (all_weaker (InSpan F n zform) (InSpan F n vs) g.span.back zform (span_rows F L n zform g.matrix))

  Z_clear : (j : ℕ) → j < r → AllByRecursion (λ z. get_or z (pivot F L n r before form h j) 0 ≡ 0) Z
  Z_clear j l = all_weaker (InSpan F n vs) (λ z. get_or z (pivot F L n r before form h j) 0 ≡ 0) (λ z p. swept_span_clear F L n r before form h ws vs swept z p j l) Z Z_inside

  few : b ≤ length zform
  few = let a : length g.pivots ≤ length zform = g.reduced.few in omega (arith, a, g.rank_is)

  pub new_clear : (i j : ℕ) → i < b → j < r → get_or (row_at zform i) (pivot F L n r before form h j) 0 ≡ 0
  new_clear i j li lj =
      ap (λ ys. get_or ys (pivot F L n r before form h j) 0) (sym (front_at F L n b vs zform g i li))
      ∙ all_at (λ z. get_or z (pivot F L n r before form h j) 0 ≡ 0) Z i [] (omega (arith, li, long_pivots F L n b vs zform g)) (Z_clear j lj)

  -- ---- independent

  zero_tests : (ps : List ℕ) → AllByRecursion (λ p. (p < n) × AllByRecursion (λ z. get_or z p 0 ≡ 0) Z) ps → AllByRecursion (λ t. AllByRecursion (λ z. dot F z t ≡ 0) Z) (map (mark n) ps)
  zero_tests [] a = tt
  zero_tests (p ∷ ps) a = (zero_test p a.0.0 Z Z_matrix a.0.1, zero_tests ps a.1)
    where
      zero_test : (p : ℕ) → p < n → (zs : List (List ℕ)) → IsMatrix F n zs → AllByRecursion (λ z. get_or z p 0 ≡ 0) zs → AllByRecursion (λ z. dot F z (mark n p) ≡ 0) zs
      zero_test p l [] m c = tt
      zero_test p l (z ∷ zs) m c = (at_mark F L n p z m.0 l ∙ c.0, zero_test p l zs m.1 c.1)

  all_clear : (ps : List ℕ) → ((i : ℕ) → i < length ps → (get_or ps i 0 < n) × AllByRecursion (λ z. get_or z (get_or ps i 0) 0 ≡ 0) Z) → AllByRecursion (λ p. (p < n) × AllByRecursion (λ z. get_or z p 0 ≡ 0) Z) ps
  all_clear [] c = tt
  all_clear (p ∷ ps) c = (c 0 (omega arith), all_clear ps (λ i l. c (suc i) (omega (arith, l))))

  both_triangle : Triangle F (R ++ Z) (map (mark n) h.pivots ++ map (mark n) g.pivots)
  both_triangle =
      joined F L R (map (mark n) h.pivots) Z (map (mark n) g.pivots)
      (over F L Z R (map (mark n) h.pivots) (pivots_triangle F L n r before form h)
      (zero_tests h.pivots (all_clear h.pivots (λ i l. (h.reduced.within i l, Z_clear i (omega (arith, l, h.rank_is)))))))
      (pivots_triangle F L n b vs zform g)

  both_matrix : IsMatrix F n (R ++ Z)
  both_matrix = all_append (IsVector F n) R Z R_matrix Z_matrix

  both_independent : TrianglesAreIndependent F → IsIndependent F n (R ++ Z)
  both_independent law =
      law n (R ++ Z) (map (mark n) h.pivots ++ map (mark n) g.pivots) both_matrix
      (all_append (IsVector F n) (map (mark n) h.pivots) (map (mark n) g.pivots) (marks_matrix F L n h.pivots) (marks_matrix F L n g.pivots)) both_triangle

  -- ---- they span

  module _ (last : List (List ℕ)) (last_matrix : IsMatrix F n last) (last_in : AllByRecursion (InSpan F n R) last) (R_in : AllByRecursion (InSpan F n last) R) (ws_matrix : IsMatrix F n ws) where
    spans : AllByRecursion (InSpan F n (R ++ Z)) (last ++ ws)
    spans =
        let parts = all_parts (InSpan F n (R ++ Z)) R Z (span_rows F L n (R ++ Z) both_matrix) in
        let vs_in : AllByRecursion (InSpan F n (R ++ Z)) vs =
        all_weaker (InSpan F n vs) (InSpan F n (R ++ Z))
        (λ v p. in_span_trans F L n Z (R ++ Z) v both_matrix parts.1 (in_span_trans F L n zform Z v Z_matrix (pivots_span F L n b vs zform g) (g.span.there v p))) vs (span_rows F L n vs (swept_matrix F L n r before form h ws vs swept)) in
        all_append (InSpan F n (R ++ Z)) last ws
        (all_weaker (InSpan F n R) (InSpan F n (R ++ Z)) (λ v p. in_span_trans F L n R (R ++ Z) v both_matrix parts.0 p) last last_in)
        (swept_there F L n r before form h (R ++ Z) both_matrix parts.0 ws vs swept vs_in)

    whole_matrix : IsMatrix F n (last ++ ws)
    whole_matrix = all_append (IsVector F n) last ws last_matrix ws_matrix

    inside : AllByRecursion (InSpan F n (last ++ ws)) (R ++ Z)
    inside =
        let parts = all_parts (InSpan F n (last ++ ws)) last ws (span_rows F L n (last ++ ws) whole_matrix) in
        let front_in : AllByRecursion (InSpan F n (last ++ ws)) R = all_weaker (InSpan F n last) (InSpan F n (last ++ ws)) (λ v p. in_span_trans F L n last (last ++ ws) v whole_matrix parts.0 p) R R_in in
        let vs_in : AllByRecursion (InSpan F n (last ++ ws)) vs = swept_back F L n r before form h (last ++ ws) whole_matrix front_in ws vs swept parts.1 in
        all_append (InSpan F n (last ++ ws)) R Z front_in (all_weaker (InSpan F n vs) (InSpan F n (last ++ ws)) (λ v p. in_span_trans F L n vs (last ++ ws) v whole_matrix vs_in p) Z Z_inside)

    both_basis : TrianglesAreIndependent F → IsBasis F n (last ++ ws) (R ++ Z)
    both_basis law = record { matrix = both_matrix; independent = both_independent law; span = same_span F L n (last ++ ws) (R ++ Z) whole_matrix both_matrix spans inside }

    last_basis : IsBasis F n last R
    last_basis = record { matrix = R_matrix; independent = pivots_independent F L n r before form h; span = same_span F L n last R last_matrix R_matrix last_in R_in }

    pub completed : TrianglesAreIndependent F → KernelsComplete F → (m : ℕ) (next : List (List ℕ)) → length next ≡ n → IsMatrix F m next → AllByRecursion (λ d. combination F m d next ≡ replicate m 0) last → IsKernelBasis F m next ws
        → IsCohomologyBasis F m last next Z
    completed independent complete m next e next_matrix closed kernel =
        complete m last next ws R Z (subst (λ k. IsMatrix F k last) (sym e) last_matrix) next_matrix closed kernel (subst (λ k. IsBasis F k last R) (sym e) last_basis) (subst (λ k. IsBasis F k (last ++ ws) (R ++ Z)) (sym e) (both_basis independent))
