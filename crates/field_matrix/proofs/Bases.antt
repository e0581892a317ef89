use Rattle.std.proofs.Common.{◌≡◌, ℕ, zero, suc, ◌+◌, ◌-◌, ◌<◌, ◌≤◌, List, [], ◌∷◌, ◌++◌, length, length-append, length-drop, map, take, drop, replicate, get_or, refl, ap, sym, ◌∙◌, arith, subst}
use Rattle.std.specs.List.{AllByRecursion}
use Rattle.std.specs.List.Sorted.{IsStrictlyIncreasing}
use Rattle.std.proofs.lemmas.Simd.{length-replicate, get_or-replicate}
use Rattle.std.proofs.lemmas.List.{length-map, length-take-le, take-append-drop, get_or-take, get_or-drop, get_or_append_left, get_or-append_right, get_or_default, ext_get_or, replicate-append-replicate}
use Rattle.std.proofs.lemmas.List.Elements.{recursion_from_All, All-from_recursion}
use native.Mathlib.Decide.{dec_lt}
use Prim.{yes, no}
use Rattle.small_field.specs.Field.{Ops, IsField}
use Rattle.linear_laws.specs.Marks.{mark}
use Rattle.linear_laws.specs.Vectors.{dot, column, IsVector, IsMatrix, IsBasis, InSpan, IsIndependent, plus_scaled, combination, row_at}
use Rattle.linear_laws.specs.Echelon.{IsReducedTo}
use Rattle.linear_laws.proofs.CallerLemmas.{dot_zeros, dot_comm, dot_below, dot_added, combination-vector, combination-plus, combination-zeros, plus_scaled-vector, zeros-elements, one_times, taken_back, span_rows, span_plus, span_zero, all_at, same_span, list_below, combination_twice, all_append, all_take, all_drop, all_weaker, in_span_trans, combination-append, dot-append}
use Rattle.small_field.proofs.CallerLemmas.{neg_zero, neg_mul, neg_unique, neg_neg}
use Rattle.field_matrix.specs.Solutions.{above, rows_at, IsComplement}
use Rattle.field_matrix.proofs.Chosen.{above_low, above_high, Above, above_from, marks_matrix, marks_rows, read_unit, to_after, spanned}

all_parts : (P : List ℕ → Type 0) (xs ys : List (List ℕ)) → AllByRecursion P (xs ++ ys) → AllByRecursion P xs × AllByRecursion P ys
all_parts P [] ys h = (tt, h)
all_parts P (x ∷ xs) ys h = let r = all_parts P xs ys h.1 in ((h.0, r.0), r.1)

all_at_places : (P : List ℕ → Type 0) (rows : List (List ℕ)) (ps : List ℕ) → AllByRecursion P rows → AllByRecursion (λ p. p < length rows) ps → AllByRecursion P (rows_at rows ps)
all_at_places P rows [] a h = tt
all_at_places P rows (p ∷ ps) a h = (all_at P rows p [] h.0 a, all_at_places P rows ps a h.1)

-- what holds of the rows of one list and of those of another at the numbers from s on
covered : (P : List ℕ → Type 0) (s : ℕ) (sub rows : List (List ℕ)) (qs : List ℕ) → length sub ≡ s → AllByRecursion P sub → AllByRecursion P (rows_at rows (above s qs)) → AllByRecursion P (rows_at (sub ++ rows) qs)
covered P s sub rows [] long a h = tt
covered P s sub rows (q ∷ qs) long a h =
    elim (dec_lt q s) [
      | yes l ↦ (
        subst P (sym (get_or_append_left sub rows [] q (omega arith))) (all_at P sub q [] (omega arith) a),
        covered P s sub rows qs long a (subst (λ (w : List ℕ). AllByRecursion P (rows_at rows w)) (above_low s q qs l) h),
      )
      | no n ↦
          let t : AllByRecursion P (rows_at rows ((q - s) ∷ above s qs)) = subst (λ (w : List ℕ). AllByRecursion P (rows_at rows w)) (above_high s q qs (omega arith)) h in (
            subst P (sym (get_or-append_right sub rows s q [] long (omega arith))) t.0,
            covered P s sub rows qs long a t.1,
          )
    ]

module _ (k : Ops) (f : IsField k) where
  -- two that add up to zero
  sum_zero : (m : ℕ) (us vs : List ℕ) → IsVector k m us → IsVector k m vs → plus_scaled k 1 us vs ≡ replicate m 0 → us ≡ plus_scaled k (k.neg 1) (replicate m 0) vs
  sum_zero zero [] vs a b e = refl
  sum_zero zero (u ∷ us) vs a b e = absurd (omega (arith, a.long))
  sum_zero (suc m) [] vs a b e = absurd (omega (arith, a.long))
  sum_zero (suc m) (u ∷ us) [] a b e = absurd (omega (arith, b.long))
  sum_zero (suc m) (u ∷ us) (v ∷ vs) a b e =
      let lu : length us ≡ m = let l : length (u ∷ us) ≡ suc m = a.long in omega arith in
      let lv : length vs ≡ m = let l : length (v ∷ vs) ≡ suc m = b.long in omega arith in
      let here : k.add u (k.mul 1 v) ≡ 0 = ap (λ (w : List ℕ). get_or w 0 0) e in
      let rest : plus_scaled k 1 us vs ≡ replicate m 0 = ap (drop 1) e in
      let is : u ≡ k.add 0 (k.mul (k.neg 1) v) =
      neg_unique k f (k.mul 1 v) u a.elements.0 (f.add_comm (k.mul 1 v) u ∙ here) ∙ (sym (neg_mul k f 1 v) ∙ sym (f.zero_add (k.mul (k.neg 1) v) (f.mul_below (k.neg 1) v))) in
      ap (λ (x : ℕ). x ∷ us) is
      ∙ ap (λ (w : List ℕ). k.add 0 (k.mul (k.neg 1) v) ∷ w) (sum_zero m us vs (record { long = lu; elements = a.elements.1 }) (record { long = lv; elements = b.elements.1 }) rest)

  zero_from_negative : (c : ℕ) → c < k.size → k.mul (k.neg 1) c ≡ 0 → c ≡ 0
  zero_from_negative c lt e =
      let n : k.neg c ≡ 0 = ap k.neg (sym (f.one_mul c lt)) ∙ (sym (neg_mul k f 1 c) ∙ e) in
      sym (neg_neg k f c lt) ∙ (ap k.neg n ∙ neg_zero k f)

  module _ (m s r rank : ℕ) (sub rows ts after : List (List ℕ)) (asub : IsMatrix k m sub) (ar : IsMatrix k m rows) (ls : length sub ≡ s) (lr : length rows ≡ r) (at : IsMatrix k (s + r) ts) (lt : length ts ≡ m) (columns : (j : ℕ) → j < m → row_at ts j ≡ column j (sub ++ rows)) (h : IsReducedTo k (s + r) rank (s + r) ts after) where
    whole : IsMatrix k m (sub ++ rows)
    whole = all_append (IsVector k m) sub rows asub ar

    long : length (sub ++ rows) ≡ s + r
    long = length-append sub rows ∙ omega arith

    abbrev pub places : List ℕ
    places = above s h.pivots

    start : Above s h.pivots
    start = above_from s h.pivots (λ i j l lj. h.reduced.rising i j l lj)

    place_within : (a : ℕ) → a < length places → get_or places a 0 < r
    place_within a la =
        let many : start.from + length places ≡ length h.pivots = start.many in
        let is : get_or h.pivots (start.from + a) 0 ≡ s + get_or places a 0 = start.are a la in
        let within : get_or h.pivots (start.from + a) 0 < s + r = h.reduced.within (start.from + a) (omega arith) in
        omega arith

    places_below : AllByRecursion (λ p. p < r) places
    places_below = recursion_from_All (λ (p : ℕ). p < r) places (λ i d li. subst (λ (p : ℕ). p < r) (sym (get_or_default places i d 0 li)) (place_within i li))

    chosen_matrix : IsMatrix k m (rows_at rows places)
    chosen_matrix = all_at_places (IsVector k m) rows places ar (subst (λ (j : ℕ). AllByRecursion (λ p. p < j) places) (sym lr) places_below)

    -- a combination of the chosen rows in the span of the others has zero coefficients
    free : (cs : List ℕ) → IsVector k (length places) cs → InSpan k m sub (combination k m cs (rows_at rows places)) → cs ≡ replicate (length places) 0
    free cs v p =
        let ms : List (List ℕ) = map (mark r) places in
        let y : List ℕ = combination k r cs ms in
        let vy : IsVector k r y = combination-vector k f r cs ms (marks_matrix k f r places) in
        let W : List ℕ = combination k m y rows in
        let vW : IsVector k m W = combination-vector k f m y rows ar in
        let same : combination k m cs (rows_at rows places) ≡ W =
        ap (combination k m cs) (sym (marks_rows k f m r places rows ar lr places_below))
        ∙ (combination_twice k f m cs ms rows ar (subst (λ (j : ℕ). IsMatrix k j ms) (sym lr) (marks_matrix k f r places)) ∙ ap (λ (j : ℕ). combination k m (combination k j cs ms) rows) lr) in
        let d : List ℕ = p.coefficients in
        let ld : length d ≡ s = p.vector.long ∙ ls in
        let zr : List ℕ = replicate r 0 in
        let vz : IsVector k r zr = record { long = length-replicate r 0; elements = zeros-elements k f r } in
        let ny : List ℕ = plus_scaled k (k.neg 1) zr y in
        let vn : IsVector k r ny = plus_scaled-vector k f r (k.neg 1) zr y vz vy in
        let x : List ℕ = d ++ ny in
        let vx : IsVector k (s + r) x = record {
          long = length-append d ny ∙ (let l : length ny ≡ r = vn.long in omega arith);
          elements = all_append (λ u. u < k.size) d ny p.vector.elements vn.elements;
        } in
        let negative : combination k m ny rows ≡ plus_scaled k (k.neg 1) (replicate m 0) W =
        sym (combination-plus k f m (k.neg 1) zr y rows ar (vz.long ∙ sym lr) (vy.long ∙ sym lr)) ∙ ap (λ (w : List ℕ). plus_scaled k (k.neg 1) w W) (combination-zeros k f m r rows ar) in
        let one : 1 ≡ k.neg (k.neg 1) = sym (neg_neg k f 1 f.one_below) in
        let none : combination k m x (sub ++ rows) ≡ replicate m 0 =
        combination-append k f m d ny sub rows asub ar p.vector.long
        ∙ (ap (λ (w : List ℕ). plus_scaled k 1 (combination k m ny rows) w) (p.is ∙ same)
        ∙ (ap (λ (w : List ℕ). plus_scaled k 1 w W) negative
        ∙ (ap (λ (c : ℕ). plus_scaled k c (plus_scaled k (k.neg 1) (replicate m 0) W) W) one
        ∙ taken_back k f (k.neg 1) (replicate m 0) W (length-replicate m 0 ∙ sym vW.long) (zeros-elements k f m)))) in
        let perp : AllByRecursion (λ t. dot k t x ≡ 0) after = to_after k f m (s + r) rank (sub ++ rows) ts after whole long at lt columns h x vx none in
        let lc : length cs ≡ length places = v.long in
        let many : start.from + length places ≡ length h.pivots = start.many in
        ext_get_or 0 cs (replicate (length places) 0) (v.long ∙ sym (length-replicate (length places) 0))
        (λ a la.
        let lp : a < length places = omega arith in
        let i : ℕ = start.from + a in
        let li : i < length h.pivots = omega arith in
        let few : length h.pivots ≤ length after = h.reduced.few in
        let lo : i < length after = omega arith in
        let t : List ℕ = row_at after i in
        let vt : IsVector k (s + r) t = all_at (IsVector k (s + r)) after i [] lo h.matrix in
        let lt : length t ≡ s + r = vt.long in
        let u : List ℕ = drop s t in
        let vu : IsVector k r u = record { long = length-drop s t ∙ omega arith; elements = all_drop (λ e. e < k.size) s t vt.elements } in
        let pivot : get_or h.pivots i 0 ≡ s + get_or places a 0 = start.are a lp in
        let front : take s t ≡ replicate s 0 =
        ext_get_or 0 (take s t) (replicate s 0) (length-take-le s t (omega arith) ∙ sym (length-replicate s 0))
        (λ j lj.
        let l : j < s = let q : length (take s t) ≡ s = length-take-le s t (omega arith) in omega arith in
        get_or-take s t j 0 l ∙ (h.reduced.first i j li (omega arith) ∙ sym (get_or-replicate s j 0 0 l))) in
        let zero : dot k t x ≡ 0 = all_at (λ (w : List ℕ). dot k w x ≡ 0) after i [] lo perp in
        let lfront : length (take s t) ≡ length d = length-take-le s t (omega arith) ∙ sym ld in
        let parts : dot k t x ≡ dot k u ny =
        ap (λ (w : List ℕ). dot k w x) (sym (take-append-drop s t))
        ∙ (dot-append k f (take s t) u d ny lfront
        ∙ (ap (λ (w : List ℕ). k.add (dot k w d) (dot k u ny)) front
        ∙ (ap (λ (c : ℕ). k.add c (dot k u ny)) (dot_comm k f (replicate s 0) d ∙ dot_zeros k f d s) ∙ f.zero_add (dot k u ny) (dot_below k f u ny)))) in
        let read : dot k y u ≡ get_or cs a 0 =
        read_unit k f r a cs places u v.elements vu places_below lc lp
        (get_or-drop s t (get_or places a 0) 0 ∙ (ap (λ (j : ℕ). get_or t j 0) (sym pivot) ∙ h.reduced.one i li))
        (λ b lb ne.
        let other : get_or h.pivots (start.from + b) 0 ≡ s + get_or places b 0 = start.are b lb in
        get_or-drop s t (get_or places b 0) 0 ∙ (ap (λ (j : ℕ). get_or t j 0) (sym other) ∙ h.reduced.alone (start.from + b) i (omega arith) lo (λ q. ne (omega arith)))) in
        let product : dot k u ny ≡ k.mul (k.neg 1) (get_or cs a 0) =
        dot_comm k f u ny
        ∙ (dot_added k f (k.neg 1) zr y u (vz.long ∙ sym vy.long) (vy.long ∙ sym vu.long)
        ∙ (ap (λ (c : ℕ). k.add c (k.mul (k.neg 1) (dot k y u))) (dot_comm k f zr u ∙ dot_zeros k f u r)
        ∙ (f.zero_add (k.mul (k.neg 1) (dot k y u)) (f.mul_below (k.neg 1) (dot k y u)) ∙ ap (k.mul (k.neg 1)) read))) in
        zero_from_negative (get_or cs a 0) (list_below k f cs a v.elements) (sym product ∙ (sym parts ∙ zero)) ∙ sym (get_or-replicate (length places) a 0 0 lp))

    -- each basis of the others and the chosen rows together
    module _ (bs : List (List ℕ)) (b : IsBasis k m sub bs) where
      together_matrix : IsMatrix k m (bs ++ rows_at rows places)
      together_matrix = all_append (IsVector k m) bs (rows_at rows places) b.matrix chosen_matrix

      together_independent : IsIndependent k m (bs ++ rows_at rows places)
      together_independent cs v e =
          let lb : length (bs ++ rows_at rows places) ≡ length bs + length (rows_at rows places) = length-append bs (rows_at rows places) in
          let lq : length (rows_at rows places) ≡ length places = length-map places (row_at rows) in
          let l : length cs ≡ length (bs ++ rows_at rows places) = v.long in
          let c : List ℕ = take (length bs) cs in
          let g : List ℕ = drop (length bs) cs in
          let lc : length c ≡ length bs = length-take-le (length bs) cs (omega arith) in
          let lg : length g ≡ length places = length-drop (length bs) cs ∙ omega arith in
          let vc : IsVector k (length bs) c = record { long = lc; elements = all_take (λ x. x < k.size) (length bs) cs v.elements } in
          let vg : IsVector k (length places) g = record { long = lg; elements = all_drop (λ x. x < k.size) (length bs) cs v.elements } in
          let U : List ℕ = combination k m g (rows_at rows places) in
          let W : List ℕ = combination k m c bs in
          let vU : IsVector k m U = combination-vector k f m g (rows_at rows places) chosen_matrix in
          let vW : IsVector k m W = combination-vector k f m c bs b.matrix in
          let sum : plus_scaled k 1 U W ≡ replicate m 0 =
          sym (combination-append k f m c g bs (rows_at rows places) b.matrix chosen_matrix lc) ∙ (ap (λ (w : List ℕ). combination k m w (bs ++ rows_at rows places)) (take-append-drop (length bs) cs) ∙ e) in
          let inside : InSpan k m bs U =
          subst (InSpan k m bs) (sym (sum_zero m U W vU vW sum))
          (span_plus k f m (k.neg 1) bs (replicate m 0) W b.matrix (span_zero k f m bs b.matrix) (record { coefficients = c; vector = vc; is = refl })) in
          let g0 : g ≡ replicate (length places) 0 = free g vg (b.span.back U inside) in
          let U0 : U ≡ replicate m 0 = ap (λ (w : List ℕ). combination k m w (rows_at rows places)) g0 ∙ combination-zeros k f m (length places) (rows_at rows places) chosen_matrix in
          let W0 : W ≡ replicate m 0 = sym (one_times k f m W vW.long vW.elements) ∙ (ap (λ (w : List ℕ). plus_scaled k 1 w W) (sym U0) ∙ sum) in
          let c0 : c ≡ replicate (length bs) 0 = b.independent c vc W0 in
          sym (take-append-drop (length bs) cs)
          ∙ (ap (λ (w : List ℕ). w ++ g) c0
          ∙ (ap (λ (w : List ℕ). replicate (length bs) 0 ++ w) g0
          ∙ (replicate-append-replicate {A = ℕ} (length bs) (length places) 0 ∙ ap (λ (j : ℕ). replicate {A = ℕ} j 0) (let q : length bs + length places ≡ length (bs ++ rows_at rows places) = omega arith in q))))

      together_parts : AllByRecursion (InSpan k m (bs ++ rows_at rows places)) bs × AllByRecursion (InSpan k m (bs ++ rows_at rows places)) (rows_at rows places)
      together_parts = all_parts (InSpan k m (bs ++ rows_at rows places)) bs (rows_at rows places) (span_rows k f m (bs ++ rows_at rows places) together_matrix)

      sub_inside : AllByRecursion (InSpan k m (bs ++ rows_at rows places)) sub
      sub_inside =
          all_weaker (InSpan k m sub) (InSpan k m (bs ++ rows_at rows places)) (λ w p. in_span_trans k f m bs (bs ++ rows_at rows places) w together_matrix together_parts.0 (b.span.there w p)) sub
          (span_rows k f m sub asub)

      pivots_inside : AllByRecursion (InSpan k m (bs ++ rows_at rows places)) (rows_at (sub ++ rows) h.pivots)
      pivots_inside = covered (InSpan k m (bs ++ rows_at rows places)) s sub rows h.pivots ls sub_inside together_parts.1

      all_inside : AllByRecursion (InSpan k m (bs ++ rows_at rows places)) (sub ++ rows)
      all_inside =
          recursion_from_All (InSpan k m (bs ++ rows_at rows places)) (sub ++ rows)
          (λ j d lj.
          let l : j < s + r = let q : length (sub ++ rows) ≡ s + r = long in omega arith in
          let p : InSpan k m (rows_at (sub ++ rows) h.pivots) (row_at (sub ++ rows) j) = spanned k f m (s + r) rank (sub ++ rows) ts after whole long at lt columns h j l in
          subst (InSpan k m (bs ++ rows_at rows places)) (sym (get_or_default (sub ++ rows) j d [] lj))
          (in_span_trans k f m (rows_at (sub ++ rows) h.pivots) (bs ++ rows_at rows places) (row_at (sub ++ rows) j) together_matrix pivots_inside p))

      whole_parts : AllByRecursion (InSpan k m (sub ++ rows)) sub × AllByRecursion (InSpan k m (sub ++ rows)) rows
      whole_parts = all_parts (InSpan k m (sub ++ rows)) sub rows (span_rows k f m (sub ++ rows) whole)

      together_inside : AllByRecursion (InSpan k m (sub ++ rows)) (bs ++ rows_at rows places)
      together_inside =
          all_append (InSpan k m (sub ++ rows)) bs (rows_at rows places)
          (all_weaker (InSpan k m bs) (InSpan k m (sub ++ rows)) (λ w p. in_span_trans k f m sub (sub ++ rows) w whole whole_parts.0 (b.span.back w p)) bs (span_rows k f m bs b.matrix))
          (all_at_places (InSpan k m (sub ++ rows)) rows places whole_parts.1 (subst (λ (j : ℕ). AllByRecursion (λ p. p < j) places) (sym lr) places_below))

      together_basis : IsBasis k m (sub ++ rows) (bs ++ rows_at rows places)
      together_basis = record {
        matrix = together_matrix;
        independent = together_independent;
        span = same_span k f m (sub ++ rows) (bs ++ rows_at rows places) whole together_matrix all_inside together_inside;
      }

    places_increase : IsStrictlyIncreasing places
    places_increase i li =
        let many : start.from + length places ≡ length h.pivots = start.many in
        let one : get_or h.pivots (start.from + i) 0 ≡ s + get_or places i 0 = start.are i (omega arith) in
        let two : get_or h.pivots (start.from + (i + 1)) 0 ≡ s + get_or places (i + 1) 0 = start.are (i + 1) li in
        let rise : get_or h.pivots (start.from + i) 0 < get_or h.pivots (start.from + (i + 1)) 0 = h.reduced.rising (start.from + i) (start.from + (i + 1)) (omega arith) (omega arith) in
        omega arith

    pub is_complement : IsComplement k m sub rows places
    is_complement = record {
      increasing = places_increase;
      below = All-from_recursion (λ p. p < length rows) places (subst (λ (j : ℕ). AllByRecursion (λ p. p < j) places) (sym lr) places_below);
      basis = together_basis;
    }
