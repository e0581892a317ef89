-- Rows that are cleared at the pivots of a reduced form, and rows reduced after that.
use Rattle.std.proofs.Common.{◌≡◌, ◌≢◌, ℕ, zero, suc, ◌<◌, ◌≤◌, inl, inr, List, [], ◌∷◌, ◌++◌, length, take, get_or, replicate, refl, ap, sym, ◌∙◌, subst, arith}
use Rattle.std.specs.List.{AllByRecursion}
use Rattle.small_field.specs.Field.{Ops, IsField}
use Rattle.small_field.specs.Values.{AreElements}
use Rattle.small_field.proofs.CallerLemmas.{zero_below, add_zero, mul_zero, add_swap, neg_mul}
use Rattle.linear_laws.specs.Echelon.{IsReducedTo}
use Rattle.linear_laws.specs.Vectors.{column, dot, plus_scaled, row_at, InSpan, IsMatrix, IsVector}
use Rattle.cohomology.specs.Swept.{IsSwept, AreSwept}
use Rattle.linear_laws.proofs.CallerLemmas.{all_at, all_take, combination-vector, dot_zeros, entry_combination, in_span_trans, one_times, pivots_span, plus_scaled-vector, same_or_not, span_plus, span_zero, taken_back}

module _ (F : Ops) (L : IsField F) where
  -- an entry of a row and s times another
  pub plus_at : (s : ℕ) (xs ys : List ℕ) (j : ℕ) → length xs ≡ length ys → j < length xs → get_or (plus_scaled F s xs ys) j 0 ≡ F.add (get_or xs j 0) (F.mul s (get_or ys j 0))
  plus_at s [] ys j e l = absurd (omega (arith, l))
  plus_at s (x ∷ xs) [] j e l = absurd (omega (arith, e))
  plus_at s (x ∷ xs) (y ∷ ys) zero e l = refl
  plus_at s (x ∷ xs) (y ∷ ys) (suc j) e l = plus_at s xs ys j (omega (arith, e)) (omega (arith, l))

  -- what is added to one and taken from the other
  one_moved : (s d v x : ℕ) → v < F.size → F.add (F.add d (F.mul s x)) (F.mul 1 (F.add v (F.mul (F.neg s) x))) ≡ F.add d (F.mul 1 v)
  one_moved s d v x l =
      ap (F.add (F.add d (F.mul s x))) (L.one_mul (F.add v (F.mul (F.neg s) x)) (L.add_below v (F.mul (F.neg s) x)))
      ∙ ap (λ y. F.add (F.add d (F.mul s x)) (F.add v y)) (neg_mul F L s x)
      ∙ add_swap F L d (F.mul s x) v (F.neg (F.mul s x))
      ∙ ap (F.add (F.add d v)) (L.add_neg (F.mul s x))
      ∙ add_zero F L (F.add d v) (L.add_below d v)
      ∙ ap (F.add d) (sym (L.one_mul v l))

  moved : (s : ℕ) (ds vs xs : List ℕ) → length ds ≡ length xs → length vs ≡ length xs → AreElements F vs → plus_scaled F 1 (plus_scaled F s ds xs) (plus_scaled F (F.neg s) vs xs) ≡ plus_scaled F 1 ds vs
  moved s [] vs xs a b e = refl
  moved s (d ∷ ds) [] [] a b e = absurd (omega (arith, a))
  moved s (d ∷ ds) [] (x ∷ xs) a b e = absurd (omega (arith, b))
  moved s (d ∷ ds) (v ∷ vs) [] a b e = absurd (omega (arith, a))
  moved s (d ∷ ds) (v ∷ vs) (x ∷ xs) a b e =
      ap (λ y. y ∷ plus_scaled F 1 (plus_scaled F s ds xs) (plus_scaled F (F.neg s) vs xs)) (one_moved s d v x e.0)
      ∙ ap (λ ys. F.add d (F.mul 1 v) ∷ ys) (moved s ds vs xs (omega (arith, a)) (omega (arith, b)) e.1)

  -- a reduced form of some rows of n coordinates, with its pivots
  module _ (n r : ℕ) (before form : List (List ℕ)) (h : IsReducedTo F n r n before form) where
    abbrev pub pivot : ℕ → ℕ
    pivot i = get_or h.pivots i 0

    pivot_within : (i : ℕ) → i < r → pivot i < n
    pivot_within i l = h.reduced.within i (omega (arith, l, h.rank_is))

    few : r ≤ length form
    few = let a : length h.pivots ≤ length form = h.reduced.few in omega (arith, a, h.rank_is)

    pub form_vector : (i : ℕ) → i < r → IsVector F n (row_at form i)
    form_vector i l = all_at (IsVector F n) form i [] (omega (arith, l, few)) h.matrix

    pub form_own : (i : ℕ) → i < r → get_or (row_at form i) (pivot i) 0 ≡ 1
    form_own i l = h.reduced.one i (omega (arith, l, h.rank_is))

    pub form_other : (i j : ℕ) → i < r → j < r → i ≢ j → get_or (row_at form j) (pivot i) 0 ≡ 0
    form_other i j li lj ne = h.reduced.alone i j (omega (arith, li, h.rank_is)) (omega (arith, lj, few)) (λ e. ne (sym e))

    -- the rows that have pivots
    abbrev pub front : List (List ℕ)
    front = take r form

    pub front_matrix : IsMatrix F n front
    front_matrix = all_take (IsVector F n) r form h.matrix

    pub front_row : (i : ℕ) → i < r → InSpan F n front (row_at form i)
    front_row i l = all_at (InSpan F n front) form i [] (omega (arith, l, few)) (pivots_span F L n r before form h)

    -- v is w less a combination of these rows, and zero at the first pivots
    abbrev IsSweptUpto : (upto : ℕ) → (w v : List ℕ) → Type 0
    IsSweptUpto upto w v = IsSwept F n front h.pivots upto w v

    span_vector : (v : List ℕ) → InSpan F n front v → IsVector F n v
    span_vector v p = subst (IsVector F n) p.is (combination-vector F L n p.coefficients front front_matrix)

    pub not_swept : (w : List ℕ) → IsVector F n w → IsSweptUpto 0 w w
    not_swept w v = record {
      vector = v;
      difference = replicate n 0;
      inside = span_zero F L n front front_matrix;
      back = sym (one_times F L n w v.long v.elements);
      clear = λ j l. absurd (omega (arith, l));
    }

    pub swept_more : (i : ℕ) (w v next : List ℕ) → i < r → IsSweptUpto i w v → next ≡ plus_scaled F (F.neg (get_or v (pivot i) 0)) v (row_at form i) → IsSweptUpto (suc i) w next
    swept_more i w v next l s e =
        let x : ℕ = get_or v (pivot i) 0 in
        let row : List ℕ = row_at form i in
        let vr : IsVector F n row = form_vector i l in
        let vd : IsVector F n s.difference = span_vector s.difference s.inside in
        let same : length v ≡ length row = s.vector.long ∙ sym vr.long in
        let at : (j : ℕ) → j < r → get_or next (pivot j) 0 ≡ F.add (get_or v (pivot j) 0) (F.mul (F.neg x) (get_or row (pivot j) 0)) =
        λ j lj. ap (λ ys. get_or ys (pivot j) 0) e ∙ plus_at (F.neg x) v row (pivot j) same (omega (arith, pivot_within j lj, s.vector.long)) in
        record {
          vector = subst (IsVector F n) (sym e) (plus_scaled-vector F L n (F.neg x) v row s.vector vr);
          difference = plus_scaled F x s.difference row;
          inside = span_plus F L n x front s.difference row front_matrix s.inside (front_row i l);
          back = s.back ∙ sym (moved x s.difference v row (vd.long ∙ sym vr.long) same s.vector.elements) ∙ ap (plus_scaled F 1 (plus_scaled F x s.difference row)) (sym e);
          clear = λ j lj. elim (same_or_not i j) [
            | inl same_place ↦
                at j (omega (arith, lj, l))
                ∙ ap (λ k. F.add (get_or v (pivot k) 0) (F.mul (F.neg x) (get_or row (pivot k) 0))) (sym same_place)
                ∙ ap (λ y. F.add x (F.mul (F.neg x) y)) (form_own i l)
                ∙ ap (F.add x) (L.mul_comm (F.neg x) 1 ∙ L.one_mul (F.neg x) (L.neg_below x))
                ∙ L.add_neg x
            | inr apart ↦
                let lower : j < i = omega (arith, lj, apart) in
                at j (omega (arith, lj, l))
                ∙ ap (λ y. F.add y (F.mul (F.neg x) (get_or row (pivot j) 0))) (s.clear j lower)
                ∙ ap (λ y. F.add 0 (F.mul (F.neg x) y)) (form_other j i (omega (arith, lower, l)) l (λ e. apart (sym e)))
                ∙ ap (F.add 0) (mul_zero F L (F.neg x))
                ∙ L.zero_add 0 (zero_below F L)
          ];
        }

    -- rows that are swept, one by one
    abbrev AllSwept : List (List ℕ) → List (List ℕ) → Type 0
    AllSwept ws vs = AreSwept F n front h.pivots ws vs

    pub one_more_swept : (ws vs : List (List ℕ)) (w v : List ℕ) → AllSwept ws vs → IsSweptUpto (length h.pivots) w v → AllSwept (ws ++ w ∷ []) (vs ++ v ∷ [])
    one_more_swept [] [] w v h s = (s, tt)
    one_more_swept [] (x ∷ vs) w v h s = absurd h
    one_more_swept (y ∷ ws) [] w v h s = absurd h
    one_more_swept (y ∷ ws) (x ∷ vs) w v h s = (h.0, one_more_swept ws vs w v h.1 s)

    pub swept_long : (ws vs : List (List ℕ)) → AllSwept ws vs → length vs ≡ length ws
    swept_long [] [] h = refl
    swept_long [] (x ∷ vs) h = absurd h
    swept_long (y ∷ ws) [] h = absurd h
    swept_long (y ∷ ws) (x ∷ vs) h = ap suc (swept_long ws vs h.1)

    pub swept_matrix : (ws vs : List (List ℕ)) → AllSwept ws vs → IsMatrix F n vs
    swept_matrix [] [] h = tt
    swept_matrix [] (x ∷ vs) h = absurd h
    swept_matrix (y ∷ ws) [] h = absurd h
    swept_matrix (y ∷ ws) (x ∷ vs) h = (h.0.vector, swept_matrix ws vs h.1)

    swept_clear : (j : ℕ) → j < r → (ws vs : List (List ℕ)) → AllSwept ws vs → (i : ℕ) → i < length vs → get_or (row_at vs i) (pivot j) 0 ≡ 0
    swept_clear j l [] [] k i li = absurd (omega (arith, li))
    swept_clear j l [] (x ∷ vs) k i li = absurd k
    swept_clear j l (y ∷ ws) [] k i li = absurd k
    swept_clear j l (y ∷ ws) (x ∷ vs) k zero li = k.0.clear j (omega (arith, l, h.rank_is))
    swept_clear j l (y ∷ ws) (x ∷ vs) k (suc i) li = swept_clear j l ws vs k.1 i (omega (arith, li))

    column_zeros : (p : ℕ) (vs : List (List ℕ)) → ((i : ℕ) → i < length vs → get_or (row_at vs i) p 0 ≡ 0) → column p vs ≡ replicate (length vs) 0
    column_zeros p [] h = refl
    column_zeros p (v ∷ vs) h = ap (λ x. x ∷ column p vs) (h 0 (omega arith)) ∙ ap (λ xs. 0 ∷ xs) (column_zeros p vs (λ i l. h (suc i) (omega (arith, l))))

    -- what is in the span of rows that are zero at a place is zero there
    pub swept_span_clear : (ws vs : List (List ℕ)) → AllSwept ws vs → (z : List ℕ) → InSpan F n vs z → (j : ℕ) → j < r → get_or z (pivot j) 0 ≡ 0
    swept_span_clear ws vs a z p j l =
        ap (λ ys. get_or ys (pivot j) 0) (sym p.is)
        ∙ entry_combination F L n (pivot j) p.coefficients vs (swept_matrix ws vs a) (pivot_within j l)
        ∙ ap (dot F p.coefficients) (column_zeros (pivot j) vs (swept_clear j l ws vs a))
        ∙ dot_zeros F L p.coefficients (length vs)

    -- a swept row with the difference is what it was
    pub swept_there : (target : List (List ℕ)) → IsMatrix F n target → AllByRecursion (InSpan F n target) front → (ws vs : List (List ℕ)) → AllSwept ws vs → AllByRecursion (InSpan F n target) vs → AllByRecursion (InSpan F n target) ws
    swept_there target m f [] [] h a = tt
    swept_there target m f [] (v ∷ vs) h a = tt
    swept_there target m f (w ∷ ws) [] h a = absurd h
    swept_there target m f (w ∷ ws) (v ∷ vs) h a = (
      subst (InSpan F n target) (sym h.0.back) (span_plus F L n 1 target h.0.difference v m (in_span_trans F L n front target h.0.difference m f h.0.inside) a.0),
      swept_there target m f ws vs h.1 a.1,
    )

    turned : (d v : List ℕ) → length d ≡ length v → AreElements F d → AreElements F v → plus_scaled F 1 d v ≡ plus_scaled F 1 v d
    turned [] [] e a b = refl
    turned [] (y ∷ v) e a b = absurd (omega (arith, e))
    turned (x ∷ d) [] e a b = absurd (omega (arith, e))
    turned (x ∷ d) (y ∷ v) e a b =
        ap (λ z. z ∷ plus_scaled F 1 d v) (ap (F.add x) (L.one_mul y b.0) ∙ L.add_comm x y ∙ ap (F.add y) (sym (L.one_mul x a.0)))
        ∙ ap (λ zs. F.add y (F.mul 1 x) ∷ zs) (turned d v (omega (arith, e)) a.1 b.1)

    -- and it is what it was less the difference
    pub swept_back : (target : List (List ℕ)) → IsMatrix F n target → AllByRecursion (InSpan F n target) front → (ws vs : List (List ℕ)) → AllSwept ws vs → AllByRecursion (InSpan F n target) ws → AllByRecursion (InSpan F n target) vs
    swept_back target m f [] [] h a = tt
    swept_back target m f [] (v ∷ vs) h a = absurd h
    swept_back target m f (w ∷ ws) [] h a = tt
    swept_back target m f (w ∷ ws) (v ∷ vs) h a =
        let vd : IsVector F n h.0.difference = span_vector h.0.difference h.0.inside in
        let difference_in : InSpan F n target h.0.difference = in_span_trans F L n front target h.0.difference m f h.0.inside in
        let is : plus_scaled F (F.neg 1) w h.0.difference ≡ v =
        ap (λ ys. plus_scaled F (F.neg 1) ys h.0.difference) (h.0.back ∙ turned h.0.difference v (vd.long ∙ sym h.0.vector.long) vd.elements h.0.vector.elements)
        ∙ taken_back F L 1 v h.0.difference (h.0.vector.long ∙ sym vd.long) h.0.vector.elements in (
          subst (InSpan F n target) is (span_plus F L n (F.neg 1) target w h.0.difference m a.0 difference_in),
          swept_back target m f ws vs h.1 a.1,
        )
