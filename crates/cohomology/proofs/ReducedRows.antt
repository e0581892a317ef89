-- Reduced rows: there are some, and they are one. Rows that are not zero stand for all rows.
use Rattle.std.proofs.Common.{◌≡◌, ℕ, ◌<◌, List, [], ◌∷◌, Bool, true, false, cond, length, map, replicate, refl, ap, sym, ◌∙◌, subst, arith}
use Rattle.std.specs.List.{AllByRecursion, range_with_len}
use Rattle.std.proofs.lemmas.List.{get_or_default, same_lists}
use Rattle.std.proofs.lemmas.List.FromFn.{length-map-range_with_len, get_or-map-range_with_len}
use Rattle.small_field.specs.Field.{Ops, IsField}
use Rattle.linear_laws.specs.Echelon.{is_nonzero, IsReducedTo}
use Rattle.linear_laws.specs.Marks.{mark}
use Rattle.linear_laws.specs.Vectors.{combination, InSpan, IsMatrix, IsVector}
use Rattle.linear_laws.specs.ZeroRows.{nonzero_rows}
use Rattle.linear_laws.proofs.CallerLemmas.{all_nonzero, all_take, all_weaker, combination-vector, in_span_trans, mark_vector, none_is_zeros, pivots_span, span_rows, span_zero}
use Rattle.split_laws.specs.declared.kind.Kind.{Kind}
use Rattle.split_laws.specs.Kinds.{criticals, part}
use Rattle.split_laws.specs.Split.{IsSplit}
use Rattle.split_laws.specs.Solutions.{IsExtension, IsReducedBy}
use Rattle.split_laws.specs.Laws.{SolutionsAreOne}
use Rattle.split_laws.proofs.CallerLemmas.{part-vector}
use Rattle.cohomology.proofs.Sweeping.{front, front_matrix}

module _ (F : Ops) (L : IsField F) (law : SolutionsAreOne F) (n m : ℕ) (rows : List (List ℕ)) (ts us : List Kind) (split : IsSplit F n m rows ts us) where
  -- the extension that is 1 at one critical cell
  abbrev extension_at : ℕ → List ℕ
  extension_at i = (law.extension n m rows ts us split (mark (criticals ts) i) (mark_vector F L (criticals ts) i)).0

  is_extension_at : (i : ℕ) → IsExtension F n m rows ts us (mark (criticals ts) i) (extension_at i)
  is_extension_at i = (law.extension n m rows ts us split (mark (criticals ts) i) (mark_vector F L (criticals ts) i)).1

  is_one : (i : ℕ) (x : List ℕ) → IsExtension F n m rows ts us (mark (criticals ts) i) x → x ≡ extension_at i
  is_one i x e = (law.extension n m rows ts us split (mark (criticals ts) i) (mark_vector F L (criticals ts) i)).2 x e

  pub reduced_is_one : (xs ys : List (List ℕ)) → IsReducedBy F n m rows ts us xs → IsReducedBy F n m rows ts us ys → xs ≡ ys
  reduced_is_one xs ys a b =
      same_lists xs ys (a.long ∙ sym b.long)
      (λ i d l.
      let la : i < criticals ts = omega (arith, l, a.long) in
      let lb : i < length ys = omega (arith, la, b.long) in
      get_or_default xs i d [] l ∙ a.each i (extension_at i) la (is_extension_at i) ∙ sym (b.each i (extension_at i) la (is_extension_at i)) ∙ sym (get_or_default ys i d [] lb))

  reduced_row : ℕ → List ℕ
  reduced_row i = part us (combination F m (extension_at i) rows)

  pub some_rows : List (List ℕ)
  some_rows = map reduced_row (range_with_len 0 (criticals ts))

  row_vector : (i : ℕ) → IsVector F (criticals us) (reduced_row i)
  unfolding reduced_row
  row_vector i = part-vector F L us m (combination F m (extension_at i) rows) split.above (combination-vector F L m (extension_at i) rows split.matrix)

  rows_matrix : (is : List ℕ) → IsMatrix F (criticals us) (map reduced_row is)
  rows_matrix [] = tt
  rows_matrix (i ∷ is) = (row_vector i, rows_matrix is)

  row_is : (i : ℕ) (x : List ℕ) → IsExtension F n m rows ts us (mark (criticals ts) i) x → reduced_row i ≡ part us (combination F m x rows)
  unfolding reduced_row
  row_is i x e = ap (λ ys. part us (combination F m ys rows)) (sym (is_one i x e))

  pub some_reduced : IsReducedBy F n m rows ts us some_rows
  unfolding some_rows
  some_reduced = record {
    matrix = rows_matrix (range_with_len 0 (criticals ts));
    long = length-map-range_with_len reduced_row 0 (criticals ts);
    each = λ i x l e. get_or-map-range_with_len reduced_row 0 (criticals ts) i i [] l (omega arith) ∙ row_is i x e;
  }

-- ---- rows that are not zero

pub from_nonzero : (P : List ℕ → Type 0) (rows : List (List ℕ)) → ((w : List ℕ) → is_nonzero w ≡ false → P w) → AllByRecursion P (nonzero_rows rows) → AllByRecursion P rows
from_nonzero P [] z a = tt
from_nonzero P (w ∷ rows) z a = by_test (is_nonzero w) refl a (from_nonzero P rows z)
  where
    by_test : (b : Bool) → is_nonzero w ≡ b → AllByRecursion P (cond b (w ∷ nonzero_rows rows) (nonzero_rows rows)) → (AllByRecursion P (nonzero_rows rows) → AllByRecursion P rows) → P w × AllByRecursion P rows
    by_test true e h more = (h.0, more h.1)
    by_test false e h more = (z w e, more h)

module _ (F : Ops) (L : IsField F) (n r : ℕ) (last form : List (List ℕ)) (matrix : IsMatrix F n last) (h : IsReducedTo F n r n (nonzero_rows last) form) where
  pub with_vectors : (rows : List (List ℕ)) → IsMatrix F n rows → (ws : List (List ℕ)) → IsMatrix F n ws → AllByRecursion (InSpan F n rows) (nonzero_rows ws) → AllByRecursion (InSpan F n rows) ws
  with_vectors rows m [] a k = tt
  with_vectors rows m (w ∷ ws) a k = by_test (is_nonzero w) refl k (with_vectors rows m ws a.1)
    where
      by_test : (b : Bool) → is_nonzero w ≡ b → AllByRecursion (InSpan F n rows) (cond b (w ∷ nonzero_rows ws) (nonzero_rows ws)) → (AllByRecursion (InSpan F n rows) (nonzero_rows ws) → AllByRecursion (InSpan F n rows) ws)
          → InSpan F n rows w × AllByRecursion (InSpan F n rows) ws
      by_test true e t more = (t.0, more t.1)
      by_test false e t more = (subst (InSpan F n rows) (sym (none_is_zeros w e ∙ ap (λ (j : ℕ). replicate {A = ℕ} j 0) a.0.long)) (span_zero F L n rows m), more t)

  -- all rows are in the span of the rows with pivots, and back
  pub last_in : AllByRecursion (InSpan F n (front F L n r (nonzero_rows last) form h)) last
  last_in =
      let rows : List (List ℕ) = front F L n r (nonzero_rows last) form h in
      let m : IsMatrix F n rows = front_matrix F L n r (nonzero_rows last) form h in
      with_vectors rows m last matrix
      (all_weaker (InSpan F n (nonzero_rows last)) (InSpan F n rows) (λ v p. in_span_trans F L n form rows v m (pivots_span F L n r (nonzero_rows last) form h) (h.span.there v p)) (nonzero_rows last)
      (span_rows F L n (nonzero_rows last) (all_nonzero F L (IsVector F n) last matrix)))

  pub front_in : AllByRecursion (InSpan F n last) (front F L n r (nonzero_rows last) form h)
  front_in =
      let nonzero : List (List ℕ) = nonzero_rows last in
      let nonzero_in : AllByRecursion (InSpan F n last) nonzero = all_nonzero F L (InSpan F n last) last (span_rows F L n last matrix) in
      all_take (InSpan F n last) r form
      (all_weaker (InSpan F n form) (InSpan F n last) (λ v p. in_span_trans F L n nonzero last v matrix nonzero_in (h.span.back v p)) form (span_rows F L n form h.matrix))
