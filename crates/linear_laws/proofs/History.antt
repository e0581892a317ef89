use Rattle.std.proofs.Common.{◌≡◌, ℕ, ◌+◌, ◌-◌, ◌<◌, ◌≤◌, List, [], ◌∷◌, ◌++◌, length, length-append, length-drop, map, take, drop, replicate, get_or, refl, ap, sym, ◌∙◌, arith, subst}
use Rattle.std.specs.List.{AllByRecursion}
use Rattle.std.proofs.lemmas.Simd.{length-replicate, get_or-replicate}
use Rattle.std.proofs.lemmas.List.{length-map, length-take-le, take-append-drop, take_at, get_or-take, get_or-drop, drop-map, get_or_default, ext_get_or, drop_at, replicate-append-replicate, get_or-map}
use Rattle.std.proofs.lemmas.List.Elements.{recursion_from_All}
use Rattle.small_field.specs.Field.{Ops, IsField}
use Rattle.linear_laws.specs.Marks.{identity, beside, lefts, rights}
use Rattle.linear_laws.specs.Vectors.{IsVector, IsMatrix, plus_scaled, combination, InSpan, SameSpan, IsIndependent, IsInKernel, IsKernelBasis, IsHistory, row_at, entry}
use Rattle.linear_laws.specs.Echelon.{IsReducedTo, IsReducedBelow}
use Rattle.linear_laws.proofs.Span.{combination-vector, combination-zeros, zeros-elements, one_times, span_rows}
use Rattle.linear_laws.proofs.Betti.{combination-append, plus_zeros, pivots_independent}
use Rattle.linear_laws.proofs.Marks.{length-identity, identity_matrix, combination-identity, length-beside, beside_matrix, combination-beside}
use Rattle.linear_laws.proofs.Halves.{drop_zeros, take-combination, drop-combination, left_vector, left_matrix, right_matrix, combination_of_zeros, as_few_are_independent}
use Rattle.linear_laws.proofs.Alls.{all_append, all_weaker, all_take, all_drop, all_at}

-- rows with the identity beside them, reduced on the left
module _ (k : Ops) (f : IsField k) (m n r : ℕ) (rows after : List (List ℕ)) (a : IsMatrix k m rows) (long : length rows ≡ n) (h : IsReducedTo k (m + n) r m (beside rows (identity n)) after) where
  same_length : length rows ≡ length (identity n)
  same_length = long ∙ sym (length-identity n)

  pub long_after : length after ≡ n
  long_after = h.long ∙ (length-beside rows (identity n) same_length ∙ long)

  pub joined_matrix : IsMatrix k (m + n) (beside rows (identity n))
  joined_matrix = beside_matrix k f m n rows (identity n) a (identity_matrix k f n)

  -- a combination of what stood side by side
  joined : (cs : List ℕ) → IsVector k n cs → combination k (m + n) cs (beside rows (identity n)) ≡ combination k m cs rows ++ cs
  joined cs v = combination-beside k f m n cs rows (identity n) a (identity_matrix k f n) same_length ∙ ap (λ (w : List ℕ). combination k m cs rows ++ w) (combination-identity k f n cs v)

  coefficients_vector : (cs : List ℕ) → IsVector k (length (beside rows (identity n))) cs → IsVector k n cs
  coefficients_vector cs v = subst (λ (j : ℕ). IsVector k j cs) (length-beside rows (identity n) same_length ∙ long) v

  -- what the right half of a vector in the span tells of the left half
  pub told_by_right : (v : List ℕ) → InSpan k (m + n) (beside rows (identity n)) v → (take m v ≡ combination k m (drop m v) rows) × IsVector k n (drop m v)
  told_by_right v p =
      let cs : List ℕ = p.coefficients in
      let w : IsVector k n cs = coefficients_vector cs p.vector in
      let C : List ℕ = combination k m cs rows in
      let lc : length C ≡ m = (combination-vector k f m cs rows a).long in
      let is : v ≡ C ++ cs = sym p.is ∙ joined cs w in
      let right : drop m v ≡ cs = ap (drop m) is ∙ drop_at C cs m lc in (
        ap (take m) is ∙ (take_at C cs m lc ∙ ap (λ (xs : List ℕ). combination k m xs rows) (sym right)),
        subst (IsVector k n) (sym right) w,
      )

  in_joined : (cs : List ℕ) → IsVector k n cs → InSpan k (m + n) after (combination k m cs rows ++ cs)
  in_joined cs v =
      h.span.there (combination k m cs rows ++ cs)
      (record { coefficients = cs; vector = subst (λ (j : ℕ). IsVector k j cs) (sym (length-beside rows (identity n) same_length ∙ long)) v; is = joined cs v })

  -- each row is told by its right half
  pub history : (i : ℕ) → i < n → (take m (row_at after i) ≡ combination k m (drop m (row_at after i)) rows) × IsVector k n (drop m (row_at after i))
  history i lt =
      let li : i < length after = subst (λ (j : ℕ). i < j) (sym long_after) lt in
      told_by_right (row_at after i) (h.span.back (row_at after i) (all_at (InSpan k (m + n) after) after i [] li (span_rows k f (m + n) after h.matrix)))

  -- the left halves span what the rows spanned
  pub left_span : SameSpan k m rows (lefts m after)
  left_span = record {
    there = λ v p.
        let w : IsVector k n p.coefficients = subst (λ (j : ℕ). IsVector k j p.coefficients) long p.vector in
        let q : InSpan k (m + n) after (combination k m p.coefficients rows ++ p.coefficients) = in_joined p.coefficients w in
        record {
          coefficients = q.coefficients;
          vector = subst (λ (j : ℕ). IsVector k j q.coefficients) (sym (length-map after (take m))) q.vector;
          is =
              sym (take-combination k f m n q.coefficients after)
              ∙ (ap (take m) q.is ∙ (take_at (combination k m p.coefficients rows) p.coefficients m (combination-vector k f m p.coefficients rows a).long ∙ p.is));
        };
    back = λ v p.
        let e : List ℕ = p.coefficients in
        let w : IsVector k (length after) e = subst (λ (j : ℕ). IsVector k j e) (length-map after (take m)) p.vector in
        let q : InSpan k (m + n) (beside rows (identity n)) (combination k (m + n) e after) = h.span.back (combination k (m + n) e after) (record { coefficients = e; vector = w; is = refl }) in
        let t = told_by_right (combination k (m + n) e after) q in
        record {
          coefficients = drop m (combination k (m + n) e after);
          vector = subst (λ (j : ℕ). IsVector k j (drop m (combination k (m + n) e after))) (sym long) t.1;
          is = sym t.0 ∙ (take-combination k f m n e after ∙ p.is);
        };
  }

  left_entry : (i j : ℕ) → i < length after → j < m → entry (lefts m after) i j ≡ entry after i j
  left_entry i j li lj = ap (λ (w : List ℕ). get_or w j 0) (get_or-map (take m) after i [] [] li) ∙ get_or-take m (row_at after i) j 0 lj

  -- the left halves are a reduced form of the rows
  pub left_reduced : IsReducedTo k m r m rows (lefts m after)
  left_reduced =
      let b : IsReducedBelow m after h.pivots = h.reduced in
      let l : length (lefts m after) ≡ length after = length-map after (take m) in
      let lo : length (lefts m after) ≡ length rows = l ∙ (long_after ∙ sym long) in
      let lf : length h.pivots ≤ length after = b.few in
      record {
        matrix = left_matrix k f m n after h.matrix;
        long = lo;
        span = left_span;
        pivots = h.pivots;
        rank_is = h.rank_is;
        reduced = record {
          few = omega arith;
          within = b.within;
          rising = b.rising;
          one = λ i lt. left_entry i (get_or h.pivots i 0) (omega arith) (b.within i lt) ∙ b.one i lt;
          alone = λ i j lt lj ne. let p : j < length after = omega arith in left_entry j (get_or h.pivots i 0) p (b.within i lt) ∙ b.alone i j lt p ne;
          first = λ i j lt lj. let p : get_or h.pivots i 0 < m = b.within i lt in left_entry i j (omega arith) (omega arith) ∙ b.first i j lt lj;
          zero = λ i j le li lj. let p : i < length after = omega arith in left_entry i j p lj ∙ b.zero i j le p lj;
        };
      }

  pub left_pivots : left_reduced.pivots ≡ h.pivots
  unfolding left_reduced
  left_pivots = refl

  pub few_rows : r ≤ length after
  few_rows = let b : length h.pivots ≤ length after = h.reduced.few in let e : length h.pivots ≡ r = h.rank_is in omega arith

  -- the left halves from the rank on are zero
  pub left_zeros : (i : ℕ) → r ≤ i → i < length after → take m (row_at after i) ≡ replicate m 0
  left_zeros i le lt =
      let v : IsVector k (m + n) (row_at after i) = all_at (IsVector k (m + n)) after i [] lt h.matrix in
      let w : IsVector k m (take m (row_at after i)) = left_vector k f m n (row_at after i) v in
      let e : length h.pivots ≡ r = h.rank_is in
      let lw : length (take m (row_at after i)) ≡ m = w.long in
      ext_get_or 0 (take m (row_at after i)) (replicate m 0) (w.long ∙ sym (length-replicate m 0))
      (λ j lj. let l : j < m = omega arith in get_or-take m (row_at after i) j 0 l ∙ (h.reduced.zero i j (omega arith) lt l ∙ sym (get_or-replicate m j 0 0 l)))

  pub left_zero_rows : AllByRecursion (λ w. w ≡ replicate m 0) (drop r (lefts m after))
  left_zero_rows =
      recursion_from_All (λ (w : List ℕ). w ≡ replicate m 0) (drop r (lefts m after))
      (λ i d lt.
      let total : length (drop r (lefts m after)) ≡ length after - r = length-drop r (lefts m after) ∙ ap (λ (j : ℕ). j - r) (length-map after (take m)) in
      let li : r + i < length after = omega arith in
      sym (get_or_default (drop r (lefts m after)) i [] d lt)
      ∙ (get_or-drop r (lefts m after) i [] ∙ (get_or-map (take m) after (r + i) [] [] li ∙ left_zeros (r + i) (omega arith) li)))

  -- the right halves from the rank on
  abbrev pub kernel_rows : List (List ℕ)
  kernel_rows = drop r (rights m after)

  kernel_is : kernel_rows ≡ rights m (drop r after)
  kernel_is = drop-map (drop m) r after

  length_kernel_after : length kernel_rows ≡ length after - r
  length_kernel_after = length-drop r (rights m after) ∙ ap (λ (j : ℕ). j - r) (length-map after (drop m))

  pub kernel_matrix : IsMatrix k n kernel_rows
  kernel_matrix = all_drop (IsVector k n) r (rights m after) (right_matrix k f m n after h.matrix)

  kernel_row : (i : ℕ) → i < length kernel_rows → (row_at kernel_rows i ≡ drop m (row_at after (r + i))) × (r + i < length after)
  kernel_row i lt =
      let l : length kernel_rows ≡ length after - r = length_kernel_after in
      let li : r + i < length after = omega arith in
      (get_or-drop r (rights m after) i [] ∙ get_or-map (drop m) after (r + i) [] [] li, li)

  pub kernel_inside : AllByRecursion (IsInKernel k m rows) kernel_rows
  kernel_inside =
      recursion_from_All (IsInKernel k m rows) kernel_rows
      (λ i d lt.
      let at = kernel_row i lt in
      let is : get_or kernel_rows i d ≡ drop m (row_at after (r + i)) = get_or_default kernel_rows i d [] lt ∙ at.0 in
      let t = history (r + i) (subst (λ (j : ℕ). r + i < j) long_after at.1) in
      subst (IsInKernel k m rows) (sym is)
      (record {
        vector = subst (λ (j : ℕ). IsVector k j (drop m (row_at after (r + i)))) (sym long) t.1;
        zero = sym t.0 ∙ left_zeros (r + i) (omega arith) at.1;
      }))

  -- coefficients of the rows after the reduction, before and from the rank on
  module _ (width : ℕ) (whole : List (List ℕ)) (b : IsMatrix k width whole) (lw : length whole ≡ length after) (e : List ℕ) (v : IsVector k (length after) e) where
    front_vector : IsVector k (length (take r whole)) (take r e)
    front_vector =
        let l : length e ≡ length after = v.long in
        let le : r ≤ length after = few_rows in
        let lr : length (take r whole) ≡ r = length-take-le r whole (omega arith) in
        record { long = length-take-le r e (omega arith) ∙ sym lr; elements = all_take (λ x. x < k.size) r e v.elements }

    back_vector : IsVector k (length (drop r whole)) (drop r e)
    back_vector =
        let l : length e ≡ length after = v.long in
        let le : length (drop r e) ≡ length e - r = length-drop r e in
        let lb : length (drop r whole) ≡ length whole - r = length-drop r whole in
        record { long = omega arith; elements = all_drop (λ x. x < k.size) r e v.elements }

    in_parts : combination k width e whole ≡ plus_scaled k 1 (combination k width (drop r e) (drop r whole)) (combination k width (take r e) (take r whole))
    in_parts =
        ap (λ (cs : List ℕ). combination k width cs whole) (sym (take-append-drop r e))
        ∙ (ap (combination k width (take r e ++ drop r e)) (sym (take-append-drop r whole))
        ∙ combination-append k f width (take r e) (drop r e) (take r whole) (drop r whole) (all_take (IsVector k width) r whole b) (all_drop (IsVector k width) r whole b) front_vector.long)

  pub kernel_complete : (x : List ℕ) → IsInKernel k m rows x → InSpan k n kernel_rows x
  kernel_complete x q =
      let vx : IsVector k n x = subst (λ (j : ℕ). IsVector k j x) long q.vector in
      let p : InSpan k (m + n) after (combination k m x rows ++ x) = in_joined x vx in
      let e : List ℕ = p.coefficients in
      let ve : IsVector k (length after) e = p.vector in
      let C : IsVector k m (combination k m x rows) = combination-vector k f m x rows a in
      let L : List (List ℕ) = lefts m after in
      let R : List (List ℕ) = rights m after in
      let mL : IsMatrix k m L = left_matrix k f m n after h.matrix in
      let mR : IsMatrix k n R = right_matrix k f m n after h.matrix in
      let lL : length L ≡ length after = length-map after (take m) in
      let lR : length R ≡ length after = length-map after (drop m) in
      let left : combination k m e L ≡ replicate m 0 = sym (take-combination k f m n e after) ∙ (ap (take m) p.is ∙ (take_at (combination k m x rows) x m C.long ∙ q.zero)) in
      let right : combination k n e R ≡ x = sym (drop-combination k f m n e after h.matrix) ∙ (ap (drop m) p.is ∙ drop_at (combination k m x rows) x m C.long) in
      let fL : IsVector k (length (take r L)) (take r e) = front_vector m L mL lL e ve in
      let front : IsVector k m (combination k m (take r e) (take r L)) = combination-vector k f m (take r e) (take r L) (all_take (IsVector k m) r L mL) in
      let none : combination k m (take r e) (take r L) ≡ replicate m 0 =
      sym (one_times k f m (combination k m (take r e) (take r L)) front.long front.elements)
      ∙ (ap (λ (w : List ℕ). plus_scaled k 1 w (combination k m (take r e) (take r L))) (sym (combination_of_zeros k f m (drop r e) (drop r L) left_zero_rows))
      ∙ (sym (in_parts m L mL lL e ve) ∙ left)) in
      let zeros : take r e ≡ replicate (length (take r L)) 0 = pivots_independent k f m r rows L left_reduced (take r e) fL none in
      let back : IsVector k n (combination k n (drop r e) (drop r R)) = combination-vector k f n (drop r e) (drop r R) (all_drop (IsVector k n) r R mR) in
      let rest : combination k n e R ≡ combination k n (drop r e) (drop r R) =
      in_parts n R mR lR e ve
      ∙ (ap (plus_scaled k 1 (combination k n (drop r e) (drop r R))) (ap (λ (cs : List ℕ). combination k n cs (take r R)) zeros ∙ combination-zeros k f n (length (take r L)) (take r R) (all_take (IsVector k n) r R mR))
      ∙ plus_zeros k f n (combination k n (drop r e) (drop r R)) back) in
      record { coefficients = drop r e; vector = back_vector n R mR lR e ve; is = sym rest ∙ right }

  joined_independent : IsIndependent k (m + n) (beside rows (identity n))
  joined_independent cs v z =
      let w : IsVector k n cs = coefficients_vector cs v in
      let lc : length (combination k m cs rows) ≡ m = (combination-vector k f m cs rows a).long in
      let is : combination k m cs rows ++ cs ≡ replicate (m + n) 0 = sym (joined cs w) ∙ z in
      sym (drop_at (combination k m cs rows) cs m lc) ∙ (ap (drop m) is ∙ (drop_zeros m n ∙ ap (λ (j : ℕ). replicate {A = ℕ} j 0) (sym (length-beside rows (identity n) same_length ∙ long))))

  pub after_independent : IsIndependent k (m + n) after
  after_independent =
      as_few_are_independent k f (m + n) after (beside rows (identity n)) h.matrix joined_independent
      (all_weaker (InSpan k (m + n) (beside rows (identity n))) (InSpan k (m + n) after) h.span.there (beside rows (identity n)) (span_rows k f (m + n) (beside rows (identity n)) joined_matrix))
      (let l : length after ≡ length (beside rows (identity n)) = h.long in omega arith)

  pub kernel_independent : IsIndependent k n kernel_rows
  kernel_independent cs v z =
      let D : List (List ℕ) = drop r after in
      let mD : IsMatrix k (m + n) D = all_drop (IsVector k (m + n)) r after h.matrix in
      let mT : IsMatrix k (m + n) (take r after) = all_take (IsVector k (m + n)) r after h.matrix in
      let lk : length kernel_rows ≡ length after - r = length_kernel_after in
      let le : r ≤ length after = few_rows in
      let lt : length (take r after) ≡ r = length-take-le r after le in
      let C : List ℕ = combination k (m + n) cs D in
      let vC : IsVector k (m + n) C = combination-vector k f (m + n) cs D mD in
      let left : take m C ≡ replicate m 0 =
      take-combination k f m n cs D ∙ (ap (combination k m cs) (sym (drop-map (take m) r after)) ∙ combination_of_zeros k f m cs (drop r (lefts m after)) left_zero_rows) in
      let right : drop m C ≡ replicate n 0 = drop-combination k f m n cs D mD ∙ (ap (combination k n cs) (sym kernel_is) ∙ z) in
      let none : C ≡ replicate (m + n) 0 =
      sym (take-append-drop m C) ∙ (ap (λ (w : List ℕ). w ++ drop m C) left ∙ (ap (λ (w : List ℕ). replicate m 0 ++ w) right ∙ replicate-append-replicate {A = ℕ} m n 0)) in
      let e : List ℕ = replicate r 0 ++ cs in
      let lz : length (replicate {A = ℕ} r 0) ≡ r = length-replicate r 0 in
      let lcs : length cs ≡ length kernel_rows = v.long in
      let ve : IsVector k (length after) e = record {
        long = length-append (replicate r 0) cs ∙ omega arith;
        elements = all_append (λ x. x < k.size) (replicate r 0) cs (zeros-elements k f r) v.elements;
      } in
      let zero_front : combination k (m + n) (replicate r 0) (take r after) ≡ replicate (m + n) 0 = combination-zeros k f (m + n) r (take r after) mT in
      let all : combination k (m + n) e after ≡ replicate (m + n) 0 =
      ap (combination k (m + n) e) (sym (take-append-drop r after))
      ∙ (combination-append k f (m + n) (replicate r 0) cs (take r after) D mT mD (lz ∙ sym lt)
      ∙ (ap (plus_scaled k 1 C) zero_front ∙ (plus_zeros k f (m + n) C vC ∙ none))) in
      let e0 : e ≡ replicate (length after) 0 = after_independent e ve all in
      let split : length after ≡ r + length kernel_rows = omega arith in
      sym (drop_at (replicate r 0) cs r lz) ∙ (ap (drop r) (e0 ∙ ap (λ (j : ℕ). replicate {A = ℕ} j 0) split) ∙ drop_zeros r (length kernel_rows))

  -- the right halves from the rank on are a basis of the kernel
  pub kernel_basis : IsKernelBasis k m rows kernel_rows
  kernel_basis = record {
    matrix = subst (λ (j : ℕ). IsMatrix k j kernel_rows) (sym long) kernel_matrix;
    inside = kernel_inside;
    independent = subst (λ (j : ℕ). IsIndependent k j kernel_rows) (sym long) kernel_independent;
    complete = λ x q. subst (λ (j : ℕ). InSpan k j kernel_rows x) (sym long) (kernel_complete x q);
  }

  -- a row whose left half is told by its right half
  abbrev Given : List ℕ → Type 0
  Given w = take m w ≡ combination k m (drop m w) rows

  each_gives : (ws : List (List ℕ)) → AllByRecursion (λ w. take m w ≡ combination k m (drop m w) rows) ws → map (λ cs. combination k m cs rows) (rights m ws) ≡ lefts m ws
  each_gives [] t = refl
  each_gives (w ∷ ws) t = ap (λ (u : List ℕ). u ∷ map (λ cs. combination k m cs rows) (rights m ws)) (sym t.0) ∙ ap (λ (us : List (List ℕ)). take m w ∷ us) (each_gives ws t.1)

  -- the right halves, as coefficients of the rows, give the left halves
  gives : map (λ cs. combination k m cs rows) (rights m after) ≡ lefts m after
  gives = each_gives after (recursion_from_All Given after (λ i d lt. subst Given (sym (get_or_default after i d [] lt)) (history i (subst (λ (j : ℕ). i < j) long_after lt)).0))

  right_independent : IsIndependent k n (rights m after)
  right_independent cs v z =
      let lr : length (rights m after) ≡ length after = length-map after (drop m) in
      let w : IsVector k (length after) cs = subst (λ (j : ℕ). IsVector k j cs) lr v in
      let C : List ℕ = combination k (m + n) cs after in
      let right : drop m C ≡ replicate n 0 = drop-combination k f m n cs after h.matrix ∙ z in
      let p : InSpan k (m + n) (beside rows (identity n)) C = h.span.back C (record { coefficients = cs; vector = w; is = refl }) in
      let left : take m C ≡ replicate m 0 = (told_by_right C p).0 ∙ (ap (λ (xs : List ℕ). combination k m xs rows) right ∙ combination-zeros k f m n rows a) in
      let none : C ≡ replicate (m + n) 0 =
      sym (take-append-drop m C) ∙ (ap (λ (u : List ℕ). u ++ drop m C) left ∙ (ap (λ (u : List ℕ). replicate m 0 ++ u) right ∙ replicate-append-replicate {A = ℕ} m n 0)) in
      after_independent cs w none ∙ ap (λ (j : ℕ). replicate {A = ℕ} j 0) (sym lr)

  -- the right halves are the history of the left ones
  pub history_of : IsHistory k m rows (lefts m after) (rights m after)
  history_of = record {
    matrix = subst (λ (j : ℕ). IsMatrix k j (rights m after)) (sym long) (right_matrix k f m n after h.matrix);
    gives = gives;
    independent = subst (λ (j : ℕ). IsIndependent k j (rights m after)) (sym long) right_independent;
  }
