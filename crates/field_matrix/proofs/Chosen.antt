use Rattle.std.proofs.Common.{◌≡◌, ◌≢◌, ℕ, zero, suc, ◌+◌, ◌-◌, ◌<◌, ◌≤◌, List, [], ◌∷◌, ◌++◌, length, map, take, drop, replicate, get_or, refl, ap, sym, ◌∙◌, arith, subst}
use Rattle.std.specs.List.{AllByRecursion}
use Rattle.std.proofs.lemmas.Simd.{length-replicate, get_or-replicate}
use Rattle.std.proofs.lemmas.List.{length-map, length-take-le, get_or-take, get_or-map, get_or_default, ext_get_or}
use Rattle.std.proofs.lemmas.List.Elements.{recursion_from_All}
use Rattle.std.proofs.lemmas.Bool.{lt-ltb, le-ltb}
use native.Mathlib.Decide.{dec_lt}
use Prim.{yes, no}
use Rattle.small_field.specs.Field.{Ops, IsField}
use Rattle.linear_laws.specs.Marks.{mark}
use Rattle.linear_laws.specs.Vectors.{dot, column, boundary, IsVector, IsMatrix, InSpan, plus_scaled, combination, row_at}
use Rattle.small_field.specs.Values.{AreElements}
use Rattle.linear_laws.specs.Echelon.{IsReducedTo, IsReducedBelow}
use Rattle.linear_laws.proofs.CallerLemmas.{dot_zeros, dot_comm, dot_added, combination-vector, combination-plus, plus_scaled-vector, span_rows, all_at, list_below, entry_combination, zeros_of_dots, combination_twice, adjoint, column_entry, column_below, all_take, all_weaker, dot_unit, length-column, mark_vector, combination-mark, dot_mark, dot_of_none}
use Rattle.small_field.proofs.CallerLemmas.{neg_unique, neg_mul, neg_neg}
use Rattle.field_matrix.specs.Solutions.{above, rows_at}

pub above_low : (s p : ℕ) (ps : List ℕ) → p < s → above s (p ∷ ps) ≡ above s ps
above_low s p ps h = rw (lt-ltb p s h) refl

pub above_high : (s p : ℕ) (ps : List ℕ) → s ≤ p → above s (p ∷ ps) ≡ (p - s) ∷ above s ps
above_high s p ps h = rw (le-ltb p s h) refl

pub above_few : (s : ℕ) (ps : List ℕ) → length (above s ps) ≤ length ps
above_few s [] = omega arith
above_few s (p ∷ ps) =
    let r : length (above s ps) ≤ length ps = above_few s ps in
    elim (dec_lt p s) [ yes l ↦ omega (arith, ap length (above_low s p ps l)) | no m ↦ omega (arith, ap length (above_high s p ps (omega arith))) ]

-- where the numbers from s on begin
pub record Above (s : ℕ) (ps : List ℕ) : Type 0 where
  pub from : ℕ
  pub many : from + length (above s ps) ≡ length ps
  pub are : (a : ℕ) → a < length (above s ps) → get_or ps (from + a) 0 ≡ s + get_or (above s ps) a 0

above_each : (s p : ℕ) (ps : List ℕ) → s ≤ p → above s (p ∷ ps) ≡ (p - s) ∷ above s ps → ((a : ℕ) → a < length ps → get_or ps a 0 ≡ s + get_or (above s ps) a 0) → (a : ℕ) → a < length (p ∷ ps) → get_or (p ∷ ps) a 0 ≡ s + get_or (above s (p ∷ ps)) a 0
above_each s p ps le e h zero lt = let q : get_or (above s (p ∷ ps)) 0 0 ≡ p - s = ap (λ (w : List ℕ). get_or w 0 0) e in omega arith
above_each s p ps le e h (suc a) lt = h a (omega arith) ∙ ap (λ (w : List ℕ). s + get_or w (suc a) 0) (sym e)

all_above : (s : ℕ) (ps : List ℕ) → ((i : ℕ) → i < length ps → s ≤ get_or ps i 0) → (length (above s ps) ≡ length ps) × ((a : ℕ) → a < length ps → get_or ps a 0 ≡ s + get_or (above s ps) a 0)
all_above s [] h = (refl, λ a lt. absurd (omega arith))
all_above s (p ∷ ps) h =
    let le : s ≤ p = h 0 (omega arith) in
    let r = all_above s ps (λ i lt. h (suc i) (omega arith)) in
    let e : above s (p ∷ ps) ≡ (p - s) ∷ above s ps = above_high s p ps le in
    (ap length e ∙ ap suc r.0, above_each s p ps le e r.1)

later : (s p : ℕ) (ps : List ℕ) → s ≤ p → ((i j : ℕ) → i < j → j < length (p ∷ ps) → get_or (p ∷ ps) i 0 < get_or (p ∷ ps) j 0) → (i : ℕ) → i < length (p ∷ ps) → s ≤ get_or (p ∷ ps) i 0
later s p ps le h zero lt = le
later s p ps le h (suc i) lt = let l : p < get_or ps i 0 = h 0 (suc i) (omega arith) lt in omega arith

pub above_from : (s : ℕ) (ps : List ℕ) → ((i j : ℕ) → i < j → j < length ps → get_or ps i 0 < get_or ps j 0) → Above s ps
above_from s [] h = record { from = 0; many = omega arith; are = λ a lt. absurd (omega arith) }
above_from s (p ∷ ps) h =
    elim (dec_lt p s) [
      | yes l ↦
          let r : Above s ps = above_from s ps (λ i j lt lj. h (suc i) (suc j) (omega arith) (omega arith)) in
          let e : above s (p ∷ ps) ≡ above s ps = above_low s p ps l in
          let many : r.from + length (above s ps) ≡ length ps = r.many in
          record {
            from = suc r.from;
            many = ap (λ (w : List ℕ). suc r.from + length w) e ∙ omega arith;
            are = λ a lt.
                ap (λ (j : ℕ). get_or (p ∷ ps) j 0) (let q : suc r.from + a ≡ suc (r.from + a) = omega arith in q)
                ∙ (r.are a (subst (λ (w : List ℕ). a < length w) e lt) ∙ ap (λ (w : List ℕ). s + get_or w a 0) (sym e));
          }
      | no m ↦
          let r = all_above s (p ∷ ps) (λ i lt. later s p ps (omega arith) h i lt) in
          record {
            from = 0;
            many = let q : length (above s (p ∷ ps)) ≡ length (p ∷ ps) = r.0 in omega arith;
            are = λ a lt. ap (λ (j : ℕ). get_or (p ∷ ps) j 0) (let q : 0 + a ≡ a = omega arith in q) ∙ r.1 a (subst (λ (j : ℕ). a < j) r.0 lt);
          }
    ]

-- one more pivot
pub above-more : (s p : ℕ) (ps : List ℕ) → above s (ps ++ p ∷ []) ≡ above s ps ++ above s (p ∷ [])
above-more s p [] = refl
above-more s p (q ∷ ps) =
    elim (dec_lt q s) [
      | yes l ↦ above_low s q (ps ++ p ∷ []) l ∙ (above-more s p ps ∙ ap (λ (w : List ℕ). w ++ above s (p ∷ [])) (sym (above_low s q ps l)))
      | no m ↦
          above_high s q (ps ++ p ∷ []) (omega arith)
          ∙ (ap (λ (w : List ℕ). (q - s) ∷ w) (above-more s p ps) ∙ ap (λ (w : List ℕ). w ++ above s (p ∷ [])) (sym (above_high s q ps (omega arith))))
    ]

module _ (k : Ops) (f : IsField k) where
  minus_self : (a : ℕ) → a < k.size → k.add a (k.mul (k.neg 1) a) ≡ 0
  minus_self a h = ap (k.add a) (neg_mul k f 1 a ∙ ap k.neg (f.one_mul a h)) ∙ f.add_neg a

  -- what differs by nothing
  difference_zero : (m : ℕ) (us vs : List ℕ) → IsVector k m us → IsVector k m vs → plus_scaled k (k.neg 1) us vs ≡ replicate m 0 → us ≡ vs
  difference_zero zero [] [] a b e = refl
  difference_zero zero (u ∷ us) vs a b e = absurd (omega (arith, a.long))
  difference_zero zero [] (v ∷ vs) a b e = absurd (omega (arith, b.long))
  difference_zero (suc m) [] vs a b e = absurd (omega (arith, a.long))
  difference_zero (suc m) (u ∷ us) [] a b e = absurd (omega (arith, b.long))
  difference_zero (suc m) (u ∷ us) (v ∷ vs) a b e =
      let lu : length us ≡ m = let l : length (u ∷ us) ≡ suc m = a.long in omega arith in
      let lv : length vs ≡ m = let l : length (v ∷ vs) ≡ suc m = b.long in omega arith in
      let here : k.add u (k.mul (k.neg 1) v) ≡ 0 = ap (λ (w : List ℕ). get_or w 0 0) e in
      let rest : plus_scaled k (k.neg 1) us vs ≡ replicate m 0 = ap (drop 1) e in
      let negative : k.add u (k.neg v) ≡ 0 = ap (k.add u) (sym (neg_mul k f 1 v ∙ ap k.neg (f.one_mul v b.elements.0))) ∙ here in
      let is : u ≡ v =
      neg_unique k f (k.neg v) u a.elements.0 (f.add_comm (k.neg v) u ∙ negative) ∙ neg_neg k f v b.elements.0 in
      ap (λ (x : ℕ). x ∷ us) is ∙ ap (λ (w : List ℕ). v ∷ w) (difference_zero m us vs (record { long = lu; elements = a.elements.1 }) (record { long = lv; elements = b.elements.1 }) rest)

  -- marks, and what they read
  pub marks_matrix : (n : ℕ) (ps : List ℕ) → IsMatrix k n (map (mark n) ps)
  marks_matrix n [] = tt
  marks_matrix n (p ∷ ps) = (mark_vector k f n p, marks_matrix n ps)

  marks_read : (n : ℕ) (ps t : List ℕ) → IsVector k n t → AllByRecursion (λ p. p < n) ps → boundary k (map (mark n) ps) t ≡ map (λ p. get_or t p 0) ps
  marks_read n [] t v h = refl
  marks_read n (p ∷ ps) t v h =
      ap (λ (x : ℕ). x ∷ boundary k (map (mark n) ps) t) (dot_mark k f n p t v h.0) ∙ ap (λ (w : List ℕ). get_or t p 0 ∷ w) (marks_read n ps t v h.1)

  pub marks_rows : (m n : ℕ) (ps : List ℕ) (rows : List (List ℕ)) → IsMatrix k m rows → length rows ≡ n → AllByRecursion (λ p. p < n) ps → map (λ d. combination k m d rows) (map (mark n) ps) ≡ rows_at rows ps
  marks_rows m n [] rows a long h = refl
  marks_rows m n (p ∷ ps) rows a long h =
      ap (λ (w : List ℕ). w ∷ map (λ d. combination k m d rows) (map (mark n) ps)) (combination-mark k f m n p rows a long h.0)
      ∙ ap (λ (ws : List (List ℕ)). row_at rows p ∷ ws) (marks_rows m n ps rows a long h.1)

  -- the combination of marks, on a vector that reads 1 at one of their places and 0 at the others
  pub read_unit : (n i : ℕ) (cs ps t : List ℕ) → AreElements k cs → IsVector k n t → AllByRecursion (λ p. p < n) ps → length cs ≡ length ps → i < length ps → get_or t (get_or ps i 0) 0 ≡ 1 → ((j : ℕ) → j < length ps → j ≢ i → get_or t (get_or ps j 0) 0 ≡ 0) → dot k (combination k n cs (map (mark n) ps)) t ≡ get_or cs i 0
  read_unit n i cs ps t el v h long lt one others =
      let X : List ℕ = map (λ p. get_or t p 0) ps in
      let lX : length X ≡ length ps = length-map ps (λ p. get_or t p 0) in
      adjoint k f n cs t (map (mark n) ps) (marks_matrix n ps) (long ∙ sym (length-map ps (mark n))) v.long
      ∙ (ap (dot k cs) (marks_read n ps t v h)
      ∙ dot_unit k f cs X i el (omega arith) (omega arith) (get_or-map (λ p. get_or t p 0) ps i 0 0 lt ∙ one)
      (λ j lj ne. let l : j < length ps = omega arith in get_or-map (λ p. get_or t p 0) ps j 0 0 l ∙ others j l ne))

  -- a vector whose products with some are zero
  perp_in : (n : ℕ) (x v : List ℕ) (ts : List (List ℕ)) → IsMatrix k n ts → length x ≡ n → AllByRecursion (λ t. dot k t x ≡ 0) ts → InSpan k n ts v → dot k v x ≡ 0
  perp_in n x v ts a l h p = subst (λ (w : List ℕ). dot k w x ≡ 0) p.is (dot_of_none k f n p.coefficients x ts a l h)

  perp_all : (n : ℕ) (x : List ℕ) (ts vs : List (List ℕ)) → IsMatrix k n ts → length x ≡ n → AllByRecursion (λ t. dot k t x ≡ 0) ts → AllByRecursion (InSpan k n ts) vs → AllByRecursion (λ t. dot k t x ≡ 0) vs
  perp_all n x ts vs a l h p = all_weaker (InSpan k n ts) (λ t. dot k t x ≡ 0) (λ v q. perp_in n x v ts a l h q) vs p

  module _ (m n rank : ℕ) (rows ts after : List (List ℕ)) (a : IsMatrix k m rows) (long : length rows ≡ n) (at : IsMatrix k n ts) (lt : length ts ≡ m) (columns : (j : ℕ) → j < m → row_at ts j ≡ column j rows) (h : IsReducedTo k n rank n ts after) where
    -- the relations of the rows are what is perpendicular to the reduced columns
    pub to_after : (x : List ℕ) → IsVector k n x → combination k m x rows ≡ replicate m 0 → AllByRecursion (λ t. dot k t x ≡ 0) after
    to_after x v z =
        let before : AllByRecursion (λ t. dot k t x ≡ 0) ts =
        recursion_from_All (λ (t : List ℕ). dot k t x ≡ 0) ts
        (λ i d li.
        let l : i < m = omega arith in
        ap (λ (t : List ℕ). dot k t x) (get_or_default ts i d [] li ∙ columns i l)
        ∙ (dot_comm k f (column i rows) x ∙ (sym (entry_combination k f m i x rows a l) ∙ (ap (λ (w : List ℕ). get_or w i 0) z ∙ get_or-replicate m i 0 0 l)))) in
        perp_all n x ts after at v.long before (all_weaker (InSpan k n after) (InSpan k n ts) h.span.back after (span_rows k f n after h.matrix))

    pub from_after : (x : List ℕ) → IsVector k n x → AllByRecursion (λ t. dot k t x ≡ 0) after → combination k m x rows ≡ replicate m 0
    from_after x v z =
        let before : AllByRecursion (λ t. dot k t x ≡ 0) ts = perp_all n x after ts h.matrix v.long z (all_weaker (InSpan k n ts) (InSpan k n after) h.span.there ts (span_rows k f n ts at)) in
        zeros_of_dots k f m x rows a
        (λ j lj.
        dot_comm k f x (column j rows) ∙ (ap (λ (t : List ℕ). dot k t x) (sym (columns j lj)) ∙ all_at (λ (t : List ℕ). dot k t x ≡ 0) ts j [] (omega arith) before))

    pivots_within : AllByRecursion (λ p. p < n) h.pivots
    pivots_within = recursion_from_All (λ (p : ℕ). p < n) h.pivots (λ i d li. subst (λ (p : ℕ). p < n) (sym (get_or_default h.pivots i d 0 li)) (h.reduced.within i li))

    after_vector : (i : ℕ) → i < length after → IsVector k n (row_at after i)
    after_vector i li = all_at (IsVector k n) after i [] li h.matrix

    -- each row is a combination of those at the pivots
    pub spanned : (j : ℕ) → j < n → InSpan k m (rows_at rows h.pivots) (row_at rows j)
    spanned j lj =
        let r : IsReducedBelow n after h.pivots = h.reduced in
        let lp : length h.pivots ≡ rank = h.rank_is in
        let few : length h.pivots ≤ length after = r.few in
        let front : List (List ℕ) = take rank after in
        let lf : length front ≡ rank = length-take-le rank after (omega arith) in
        let c : List ℕ = column j front in
        let lc : length c ≡ length h.pivots = length-column front j ∙ (lf ∙ sym lp) in
        let ec : AreElements k c = column_below k f n j front (all_take (IsVector k n) rank after h.matrix) in
        let ms : List (List ℕ) = map (mark n) h.pivots in
        let y : List ℕ = combination k n c ms in
        let vy : IsVector k n y = combination-vector k f n c ms (marks_matrix n h.pivots) in
        let vm : IsVector k n (mark n j) = mark_vector k f n j in
        let x : List ℕ = plus_scaled k (k.neg 1) (mark n j) y in
        let vx : IsVector k n x = plus_scaled-vector k f n (k.neg 1) (mark n j) y vm vy in
        let read : (i : ℕ) → i < rank → dot k y (row_at after i) ≡ get_or (row_at after i) j 0 =
        λ i li.
        let la : i < length after = omega arith in
        read_unit n i c h.pivots (row_at after i) ec (after_vector i la) pivots_within lc (omega arith) (r.one i (omega arith)) (λ b lb ne. r.alone b i lb la (λ q. ne (sym q)))
        ∙ (column_entry front j i (omega arith) ∙ ap (λ (w : List ℕ). get_or w j 0) (get_or-take rank after i [] li)) in
        let perp : AllByRecursion (λ t. dot k t x ≡ 0) after =
        recursion_from_All (λ (t : List ℕ). dot k t x ≡ 0) after
        (λ i d la.
        let t : List ℕ = row_at after i in
        let vt : IsVector k n t = after_vector i la in
        ap (λ (w : List ℕ). dot k w x) (get_or_default after i d [] la)
        ∙ elim (dec_lt i rank) [
          | yes li ↦
              dot_comm k f t x
              ∙ (dot_added k f (k.neg 1) (mark n j) y t (vm.long ∙ sym vy.long) (vy.long ∙ sym vt.long)
              ∙ (ap (λ (u : ℕ). k.add u (k.mul (k.neg 1) (dot k y t))) (dot_mark k f n j t vt lj)
              ∙ (ap (λ (u : ℕ). k.add (get_or t j 0) (k.mul (k.neg 1) u)) (read i li) ∙ minus_self (get_or t j 0) (list_below k f t j vt.elements))))
          | no ni ↦
              let lt' : length t ≡ n = vt.long in
              let zeros : t ≡ replicate n 0 = ext_get_or 0 t (replicate n 0) (vt.long ∙ sym (length-replicate n 0)) (λ b lb. let l : b < n = omega arith in r.zero i b (omega arith) la l ∙ sym (get_or-replicate n b 0 0 l)) in
              ap (λ (w : List ℕ). dot k w x) zeros ∙ (dot_comm k f (replicate n 0) x ∙ dot_zeros k f x n)
        ]) in
        let none : combination k m x rows ≡ replicate m 0 = from_after x vx perp in
        let split : plus_scaled k (k.neg 1) (combination k m (mark n j) rows) (combination k m y rows) ≡ replicate m 0 =
        combination-plus k f m (k.neg 1) (mark n j) y rows a (vm.long ∙ sym long) (vy.long ∙ sym long) ∙ none in
        let same : combination k m (mark n j) rows ≡ combination k m y rows =
        difference_zero m (combination k m (mark n j) rows) (combination k m y rows) (combination-vector k f m (mark n j) rows a) (combination-vector k f m y rows a) split in
        let twice : combination k m c (map (λ d. combination k m d rows) ms) ≡ combination k m y rows =
        combination_twice k f m c ms rows a (subst (λ (i : ℕ). IsMatrix k i ms) (sym long) (marks_matrix n h.pivots)) ∙ ap (λ (i : ℕ). combination k m (combination k i c ms) rows) long in
        record {
          coefficients = c;
          vector = record { long = lc ∙ sym (length-map h.pivots (row_at rows)); elements = ec };
          is =
              ap (combination k m c) (sym (marks_rows m n h.pivots rows a long pivots_within))
              ∙ (twice ∙ (sym same ∙ combination-mark k f m n j rows a long lj));
        }
