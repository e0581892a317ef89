use Rattle.std.proofs.Common.{◌≡◌, ◌≢◌, ℕ, zero, suc, ◌+◌, ◌<◌, ◌≤◌, ◌⊎◌, inl, inr, List, [], ◌∷◌, length, take, get_or, true, false, cond, is_some, Some, refl, ap, sym, ◌∙◌, arith, subst}
use Rattle.std.specs.List.{AllByRecursion}
use Rattle.std.proofs.lemmas.List.Sums.{sum_by-cons, sum_by_more}
use Rattle.std.proofs.lemmas.List.{take_all, length-take-le, get_or-take}
use native.Mathlib.Decide.{dec_lt}
use Prim.{yes, no}
use Rattle.lane_rows.specs.Lanes.{first_place}
use Rattle.lane_rows.proofs.CallerLemmas.{place_found, place_missing}
use Rattle.small_field.specs.Field.{Ops, IsField}
use Rattle.linear_laws.specs.Vectors.{IsVector, IsMatrix, IsBasis, InSpan, row_at}
use Rattle.linear_laws.specs.Echelon.{IsReducedBelow, IsReducedTo, IsReduced, is_nonzero, rank_of}
use Rattle.linear_laws.proofs.CallerLemmas.{nonzero_at, zero_row, all_at, span_rows, one_is_not_zero, rank_of_basis, all_take, all_weaker, in_span_trans, pivots_span, pivots_independent, long_pivots, rank_is_dimension as same_rank}

-- the first entry that is not zero
pub record First (row : List ℕ) (i : ℕ) : Type 0 where
  pub within : i < length row
  pub before : (j : ℕ) → j < i → get_or row j 0 ≡ 0
  pub here : get_or row i 0 ≢ 0

zeros_below : (x : ℕ) (row : List ℕ) → x ≡ 0 → ((j : ℕ) → j < length row → get_or row j 0 ≡ 0) → (j : ℕ) → j < length (x ∷ row) → get_or (x ∷ row) j 0 ≡ 0
zeros_below x row x0 z zero lt = x0
zeros_below x row x0 z (suc j) lt = z j (omega arith)

zeros_until : (x : ℕ) (row : List ℕ) (i : ℕ) → x ≡ 0 → ((j : ℕ) → j < i → get_or row j 0 ≡ 0) → (j : ℕ) → j < suc i → get_or (x ∷ row) j 0 ≡ 0
zeros_until x row i x0 z zero lt = x0
zeros_until x row i x0 z (suc j) lt = z j (omega arith)

pub find_first : (row : List ℕ) → ((j : ℕ) → j < length row → get_or row j 0 ≡ 0) ⊎ ((i : ℕ) × First row i)
find_first [] = inl (λ j lt. absurd (omega arith))
find_first (x ∷ row) =
    elim (dec_lt 0 x) [
      | yes l ↦ inr (0, record { within = omega arith; before = λ j lt. absurd (omega arith); here = let h : x ≢ 0 = omega arith in h })
      | no m ↦
          let x0 : x ≡ 0 = omega arith in
          elim (find_first row) [
            | inl z ↦ inl (zeros_below x row x0 z)
            | inr p ↦ let w : p.0 < length row = p.1.within in inr (suc p.0, record { within = omega arith; before = zeros_until x row p.0 x0 p.1.before; here = p.1.here })
          ]
    ]

pub first_is : (row : List ℕ) (i : ℕ) → First row i → first_place row ≡ Some i
first_is row i p = place_found row i p.within p.before p.here

-- a row is not zero where it has a first entry that is not
pub told_by_first : (row : List ℕ) → is_some (first_place row) ≡ is_nonzero row
told_by_first row =
    elim (find_first row) [
      | inl z ↦ ap is_some (place_missing row z) ∙ sym (zero_row row z)
      | inr p ↦ ap is_some (first_is row p.0 p.1) ∙ sym (nonzero_at row p.0 p.1.here)
    ]

rank_cons : (row : List ℕ) (rows : List (List ℕ)) → rank_of (row ∷ rows) ≡ cond (is_nonzero row) 1 0 + rank_of rows
rank_cons row rows = sum_by-cons (λ r. cond (is_nonzero r) 1 0) row rows

-- one more row
pub rank_more : (rows : List (List ℕ)) (i : ℕ) → i < length rows → rank_of (take (i + 1) rows) ≡ rank_of (take i rows) + cond (is_nonzero (row_at rows i)) 1 0
rank_more rows i lt = sum_by_more (λ r. cond (is_nonzero r) 1 0) rows i [] lt

-- the first r rows alone are not zero
count_front : (rows : List (List ℕ)) (r : ℕ) → r ≤ length rows → ((i : ℕ) → i < r → is_nonzero (row_at rows i) ≡ true) → ((i : ℕ) → r ≤ i → i < length rows → is_nonzero (row_at rows i) ≡ false) → rank_of rows ≡ r
count_front [] r le some none = omega arith
count_front (row ∷ rows) zero le some none =
    rank_cons row rows ∙ (ap (λ b. cond b 1 0 + rank_of rows) (none 0 (omega arith) (omega arith)) ∙ (ap (λ n. 0 + n) (count_front rows 0 (omega arith) (λ i lt. absurd (omega arith)) (λ i l lt. none (suc i) (omega arith) (omega arith))) ∙ omega arith))
count_front (row ∷ rows) (suc r) le some none =
    rank_cons row rows
    ∙ (ap (λ b. cond b 1 0 + rank_of rows) (some 0 (omega arith))
    ∙ (ap (λ n. 1 + n) (count_front rows r (omega arith) (λ i lt. some (suc i) (omega arith)) (λ i l lt. none (suc i) (omega arith) (omega arith))) ∙ omega arith))

module _ (k : Ops) (f : IsField k) where
  pub reduced_rank : (n : ℕ) (rows : List (List ℕ)) (pivots : List ℕ) → IsMatrix k n rows → IsReducedBelow n rows pivots → rank_of rows ≡ length pivots
  reduced_rank n rows pivots a h =
      count_front rows (length pivots) h.few
      (λ i lt. nonzero_at (row_at rows i) (get_or pivots i 0) (λ z. one_is_not_zero (sym (h.one i lt) ∙ z)))
      (λ i le lt.
      let v : IsVector k n (row_at rows i) = all_at (IsVector k n) rows i [] lt a in
      let long : length (row_at rows i) ≡ n = v.long in
      zero_row (row_at rows i) (λ j lj. h.zero i j le lt (omega arith)))

  -- the pivot of a row, where the first `width` columns are reduced
  pub pivot_first_in : (cols width : ℕ) (rows : List (List ℕ)) (pivots : List ℕ) (i : ℕ) → width ≤ cols → IsMatrix k cols rows → IsReducedBelow width rows pivots → i < length pivots → First (take width (row_at rows i)) (get_or pivots i 0)
  pivot_first_in cols width rows pivots i le a h lt =
      let few : length pivots ≤ length rows = h.few in
      let v : IsVector k cols (row_at rows i) = all_at (IsVector k cols) rows i [] (omega arith) a in
      let long : length (row_at rows i) ≡ cols = v.long in
      let lw : length (take width (row_at rows i)) ≡ width = length-take-le width (row_at rows i) (omega arith) in
      let p : get_or pivots i 0 < width = h.within i lt in
      record {
        within = omega arith;
        before = λ j lj. get_or-take width (row_at rows i) j 0 (omega arith) ∙ h.first i j lt lj;
        here = λ z. one_is_not_zero (sym (h.one i lt) ∙ (sym (get_or-take width (row_at rows i) (get_or pivots i 0) 0 p) ∙ z));
      }

  -- the pivot of a row
  pub pivot_first : (n : ℕ) (rows : List (List ℕ)) (pivots : List ℕ) (i : ℕ) → IsMatrix k n rows → IsReducedBelow n rows pivots → i < length pivots → First (row_at rows i) (get_or pivots i 0)
  pivot_first n rows pivots i a h lt =
      let few : length pivots ≤ length rows = h.few in
      let v : IsVector k n (row_at rows i) = all_at (IsVector k n) rows i [] (omega arith) a in
      let long : length (row_at rows i) ≡ n = v.long in
      subst (λ (w : List ℕ). First w (get_or pivots i 0)) (take_all n (row_at rows i) (omega arith)) (pivot_first_in n n rows pivots i (omega arith) a h lt)

  pub pivot_place : (n : ℕ) (rows : List (List ℕ)) (pivots : List ℕ) (i : ℕ) → IsMatrix k n rows → IsReducedBelow n rows pivots → i < rank_of rows → first_place (row_at rows i) ≡ Some (get_or pivots i 0)
  pivot_place n rows pivots i a h lt =
      let r : rank_of rows ≡ length pivots = reduced_rank n rows pivots a h in
      first_is (row_at rows i) (get_or pivots i 0) (pivot_first n rows pivots i a h (omega arith))

  -- the rank of a reduced form is that of its pivots
  pub reduced_to_rank : (n r : ℕ) (before after : List (List ℕ)) → IsReducedTo k n r n before after → rank_of after ≡ r
  reduced_to_rank n r before after h = reduced_rank n after h.pivots h.matrix h.reduced ∙ h.rank_is

  pub rank_is_dimension : (n : ℕ) (rows basis : List (List ℕ)) → IsMatrix k n rows → IsReduced n rows → IsBasis k n rows basis → length basis ≡ rank_of rows
  rank_is_dimension n rows basis a h b =
      rank_of_basis k f n (rank_of rows) rows rows basis a
      (record {
        matrix = a;
        long = refl;
        span = record { there = λ v p. p; back = λ v p. p };
        pivots = h.pivots;
        rank_is = sym (reduced_rank n rows h.pivots a h.reduced);
        reduced = h.reduced;
      })
      b

  -- reduced forms of the same rows have the same rank
  pub rank_unique : (n r s : ℕ) (rows one other : List (List ℕ)) → IsMatrix k n rows → IsReducedTo k n r n rows one → IsReducedTo k n s n rows other → r ≡ s
  rank_unique n r s rows one other a h g =
      let us : List (List ℕ) = take r one in
      let m : IsMatrix k n us = all_take (IsVector k n) r one h.matrix in
      let spans : AllByRecursion (InSpan k n us) rows =
      all_weaker (InSpan k n one) (InSpan k n us) (λ w p. in_span_trans k f n one us w m (pivots_span k f n r rows one h) p) rows
      (all_weaker (InSpan k n rows) (InSpan k n one) h.span.there rows (span_rows k f n rows a)) in
      let inside : AllByRecursion (InSpan k n rows) us = all_take (InSpan k n rows) r one (all_weaker (InSpan k n one) (InSpan k n rows) h.span.back one (span_rows k f n one h.matrix)) in
      sym (long_pivots k f n r rows one h) ∙ same_rank k f n s rows other g us m (pivots_independent k f n r rows one h) spans inside

rising_from : (width : ℕ) (ps : List ℕ) (i : ℕ) → ((i j : ℕ) → i < j → j < length ps → get_or ps i 0 < get_or ps j 0) → i < length ps → i ≤ get_or ps i 0
rising_from width ps zero h lt = omega arith
rising_from width ps (suc i) h lt = let r : i ≤ get_or ps i 0 = rising_from width ps i h (omega arith) in let s : get_or ps i 0 < get_or ps (suc i) 0 = h i (suc i) (omega arith) lt in omega arith

-- there are no more pivots than columns
pub few_pivots : (width : ℕ) (rows : List (List ℕ)) (pivots : List ℕ) → IsReducedBelow width rows pivots → length pivots ≤ width
few_pivots width rows pivots h =
    elim (dec_lt width (length pivots)) [
      | yes l ↦
          let from : width ≤ get_or pivots width 0 = rising_from width pivots width h.rising l in
          let below : get_or pivots width 0 < width = h.within width l in
          absurd (omega arith)
      | no n ↦ omega arith
    ]
