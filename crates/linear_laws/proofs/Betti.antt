use Rattle.std.proofs.Common.{◌≡◌, ◌≢◌, ℕ, zero, suc, ◌+◌, ◌<◌, ◌≤◌, inl, inr, List, [], ◌∷◌, ◌++◌, length, length-append, replicate, take, drop, get_or, refl, ap, sym, ◌∙◌, arith, subst}
use Rattle.std.specs.List.{AllByRecursion}
use Rattle.std.proofs.lemmas.List.{ext_get_or, get_or_default, get_or-take, length-take-le, take-append-drop, length-drop, take-replicate}
use Rattle.std.proofs.lemmas.List.Elements.{recursion_from_All}
use Rattle.std.proofs.lemmas.Simd.{length-replicate, get_or-replicate}
use native.Mathlib.Decide.{dec_lt}
use Prim.{yes, no}
use Rattle.small_field.specs.Field.{Ops, IsField}
use Rattle.linear_laws.specs.Vectors.{dot, column, IsVector, IsMatrix, plus_scaled, combination, InSpan, IsIndependent, IsInKernel, row_at, entry}
use Rattle.small_field.specs.Values.{AreElements}
use Rattle.linear_laws.specs.Echelon.{IsReducedTo, IsReducedBelow}
use Rattle.linear_laws.specs.Betti.{HasBasis}
use Rattle.small_field.proofs.CallerLemmas.{zero_below, add_zero, mul_zero, neg_neg}
use Rattle.linear_laws.proofs.Span.{combination-vector, combination-zeros, combination-plus, plus_scaled-vector, zeros-elements, taken_back, span_rows, span_within, span_zero, span_all_more}
use Rattle.linear_laws.proofs.Decide.{entry_combination}
use Rattle.linear_laws.proofs.Dimension.{in_span_or_not, no_more}
use Rattle.linear_laws.proofs.Dot.{dot_below}
use Rattle.linear_laws.proofs.Bump.{column_entry}
use Rattle.linear_laws.proofs.RankSplit.{RankSplit, rank_split}
use Rattle.linear_laws.proofs.Alls.{all_append, all_weaker, all_take, all_both, all_at}
use Rattle.linear_laws.proofs.Solve.{length-column}

module _ (k : Ops) (f : IsField k) where
  pub in_span_trans : (n : ℕ) (rows others : List (List ℕ)) (v : List ℕ) → IsMatrix k n others → AllByRecursion (InSpan k n others) rows → InSpan k n rows v → InSpan k n others v
  in_span_trans n rows others v a h p = subst (InSpan k n others) p.is (span_within k f n rows others a h p.coefficients)

  -- independent vectors and more from a list
  pub record Extension (n : ℕ) (P : List ℕ → Type 0) (bs zs : List (List ℕ)) : Type 0 where
    pub new : List (List ℕ)
    pub matrix : IsMatrix k n new
    pub chosen : AllByRecursion P new
    pub independent : IsIndependent k n (new ++ bs)
    pub spans : AllByRecursion (InSpan k n (new ++ bs)) zs

  pub extension : (n : ℕ) (P : List ℕ → Type 0) (bs : List (List ℕ)) → IsMatrix k n bs → IsIndependent k n bs → (zs : List (List ℕ)) → IsMatrix k n zs → AllByRecursion P zs → Extension n P bs zs
  extension n P bs b ind [] a h = record { new = []; matrix = tt; chosen = tt; independent = ind; spans = tt }
  extension n P bs b ind (z ∷ zs) a h =
      let e : Extension n P bs zs = extension n P bs b ind zs a.1 h.1 in
      let m : IsMatrix k n (e.new ++ bs) = all_append (IsVector k n) e.new bs e.matrix b in
      elim (in_span_or_not k f n (e.new ++ bs) z m a.0 e.independent) [
        | inl p ↦ record { new = e.new; matrix = e.matrix; chosen = e.chosen; independent = e.independent; spans = (p, e.spans) }
        | inr i ↦ record {
          new = z ∷ e.new;
          matrix = (a.0, e.matrix);
          chosen = (h.0, e.chosen);
          independent = i;
          spans = ((span_rows k f n (z ∷ (e.new ++ bs)) (a.0, m)).0, span_all_more k f n (e.new ++ bs) z m a.0 zs e.spans);
        }
      ]

  -- dot with a column of one 1
  pub dot_all_zero : (cs xs : List ℕ) → ((j : ℕ) → j < length xs → get_or xs j 0 ≡ 0) → dot k cs xs ≡ 0
  dot_all_zero [] xs h = refl
  dot_all_zero (c ∷ cs) [] h = refl
  dot_all_zero (c ∷ cs) (x ∷ xs) h =
      let x0 : x ≡ 0 = h 0 (omega arith) in
      ap (λ (y : ℕ). k.add (k.mul c y) (dot k cs xs)) x0 ∙ (ap (λ (y : ℕ). k.add y (dot k cs xs)) (mul_zero k f c) ∙ (ap (k.add 0) (dot_all_zero cs xs (λ j lt. h (suc j) (omega arith))) ∙ f.zero_add 0 (zero_below k f)))

  pub dot_unit : (cs xs : List ℕ) (i : ℕ) → AreElements k cs → i < length cs → i < length xs → get_or xs i 0 ≡ 1 → ((j : ℕ) → j < length xs → j ≢ i → get_or xs j 0 ≡ 0) → dot k cs xs ≡ get_or cs i 0
  dot_unit [] xs i el lc lx one others = absurd (omega arith)
  dot_unit (c ∷ cs) [] i el lc lx one others = absurd (omega arith)
  dot_unit (c ∷ cs) (x ∷ xs) zero el lc lx one others =
      ap (k.add (k.mul c x)) (dot_all_zero cs xs (λ j lt. others (suc j) (omega arith) (omega arith)))
      ∙ (add_zero k f (k.mul c x) (f.mul_below c x) ∙ (ap (k.mul c) one ∙ (f.mul_comm c 1 ∙ f.one_mul c el.0)))
  dot_unit (c ∷ cs) (x ∷ xs) (suc i) el lc lx one others =
      let x0 : x ≡ 0 = others 0 (omega arith) (omega arith) in
      let r : dot k cs xs ≡ get_or cs i 0 = dot_unit cs xs i el.1 (omega arith) (omega arith) one (λ j lt ne. others (suc j) (omega arith) (omega arith)) in
      ap (λ (y : ℕ). k.add (k.mul c y) (dot k cs xs)) x0 ∙ (ap (λ (y : ℕ). k.add y (dot k cs xs)) (mul_zero k f c) ∙ (f.zero_add (dot k cs xs) (dot_below k f cs xs) ∙ r))

  -- the rows with a pivot
  module _ (cols rank : ℕ) (before after : List (List ℕ)) (h : IsReducedTo k cols rank cols before after) where
    pub few : rank ≤ length after
    few = let a : length h.pivots ≤ length after = h.reduced.few in let b : length h.pivots ≡ rank = h.rank_is in omega arith

    pub long_pivots : length (take rank after) ≡ rank
    long_pivots = length-take-le rank after few

    pub same_row : (i : ℕ) → i < rank → row_at (take rank after) i ≡ row_at after i
    same_row i lt = get_or-take rank after i [] lt

    -- the entry of a combination at a pivot is the coefficient of its row
    pub pivot_coefficient : (cs : List ℕ) (i : ℕ) → IsVector k (length (take rank after)) cs → i < rank → get_or (combination k cols cs (take rank after)) (get_or h.pivots i 0) 0 ≡ get_or cs i 0
    pivot_coefficient cs i v li =
        let r : IsReducedBelow cols after h.pivots = h.reduced in
        let lp : length h.pivots ≡ rank = h.rank_is in
        let lr : length (take rank after) ≡ rank = long_pivots in
        let lf : rank ≤ length after = few in
        let lc : length cs ≡ length (take rank after) = v.long in
        let m : IsMatrix k cols (take rank after) = all_take (IsVector k cols) rank after h.matrix in
        let p : ℕ = get_or h.pivots i 0 in
        let pc : p < cols = r.within i (omega arith) in
        let lcol : length (column p (take rank after)) ≡ length (take rank after) = length-column (take rank after) p in
        let at : (j : ℕ) → j < rank → get_or (column p (take rank after)) j 0 ≡ entry after j p =
        λ j lj. column_entry (take rank after) p j (omega arith) ∙ ap (λ (w : List ℕ). get_or w p 0) (same_row j lj) in
        entry_combination k f cols p cs (take rank after) m pc
        ∙ dot_unit cs (column p (take rank after)) i v.elements (omega arith) (omega arith) (at i li ∙ r.one i (omega arith))
        (λ j lj ne. at j (omega arith) ∙ r.alone i j (omega arith) (omega arith) ne)

    -- only zero coefficients where the combination is zero at the pivots
    zero_coefficients : (cs : List ℕ) → IsVector k (length (take rank after)) cs → ((i : ℕ) → i < rank → get_or (combination k cols cs (take rank after)) (get_or h.pivots i 0) 0 ≡ 0) → cs ≡ replicate (length (take rank after)) 0
    zero_coefficients cs v z =
        let lr : length (take rank after) ≡ rank = long_pivots in
        let lc : length cs ≡ length (take rank after) = v.long in
        ext_get_or 0 cs (replicate (length (take rank after)) 0) (v.long ∙ sym (length-replicate (length (take rank after)) 0))
        (λ i lt.
        let li : i < rank = omega arith in
        sym (pivot_coefficient cs i v li) ∙ (z i li ∙ sym (get_or-replicate (length (take rank after)) i 0 0 (omega arith))))

    pub pivots_independent : IsIndependent k cols (take rank after)
    pivots_independent cs v e =
        let lp : length h.pivots ≡ rank = h.rank_is in
        zero_coefficients cs v
        (λ i li. ap (λ (w : List ℕ). get_or w (get_or h.pivots i 0) 0) e ∙ get_or-replicate cols (get_or h.pivots i 0) 0 0 (h.reduced.within i (omega arith)))

    pub pivots_span : AllByRecursion (InSpan k cols (take rank after)) after
    pivots_span =
        let r : IsReducedBelow cols after h.pivots = h.reduced in
        let lp : length h.pivots ≡ rank = h.rank_is in
        let lr : length (take rank after) ≡ rank = long_pivots in
        let m : IsMatrix k cols (take rank after) = all_take (IsVector k cols) rank after h.matrix in
        recursion_from_All (InSpan k cols (take rank after)) after
        (λ i d lt.
        elim (dec_lt i rank) [
          | yes li ↦
              subst (InSpan k cols (take rank after)) (same_row i li ∙ get_or_default after i [] d lt)
              (all_at (InSpan k cols (take rank after)) (take rank after) i [] (omega arith) (span_rows k f cols (take rank after) m))
          | no n ↦
              let v : IsVector k cols (row_at after i) = all_at (IsVector k cols) after i [] lt h.matrix in
              let lv : length (row_at after i) ≡ cols = v.long in
              let z : row_at after i ≡ replicate cols 0 =
              ext_get_or 0 (row_at after i) (replicate cols 0) (v.long ∙ sym (length-replicate cols 0))
              (λ j lj. r.zero i j (omega arith) lt (omega arith) ∙ sym (get_or-replicate cols j 0 0 (omega arith))) in
              subst (InSpan k cols (take rank after)) (sym z ∙ get_or_default after i [] d lt) (span_zero k f cols (take rank after) m)
        ])

    -- what is in the span and zero at the pivots is zero
    pub zero_at_pivots : (u : List ℕ) → InSpan k cols before u → ((i : ℕ) → i < rank → get_or u (get_or h.pivots i 0) 0 ≡ 0) → u ≡ replicate cols 0
    zero_at_pivots u p z =
        let m : IsMatrix k cols (take rank after) = all_take (IsVector k cols) rank after h.matrix in
        let q : InSpan k cols (take rank after) u = in_span_trans cols after (take rank after) u m pivots_span (h.span.there u p) in
        let none : q.coefficients ≡ replicate (length (take rank after)) 0 =
        zero_coefficients q.coefficients q.vector (λ i li. ap (λ (w : List ℕ). get_or w (get_or h.pivots i 0) 0) q.is ∙ z i li) in
        sym q.is ∙ (ap (λ (cs : List ℕ). combination k cols cs (take rank after)) none ∙ combination-zeros k f cols (length (take rank after)) (take rank after) m)

    pub rank_is_dimension : (us : List (List ℕ)) → IsMatrix k cols us → IsIndependent k cols us → AllByRecursion (InSpan k cols us) before → AllByRecursion (InSpan k cols before) us → length us ≡ rank
    rank_is_dimension us a ind spans inside =
        let m : IsMatrix k cols (take rank after) = all_take (IsVector k cols) rank after h.matrix in
        let lr : length (take rank after) ≡ rank = long_pivots in
        let one : length us ≤ length (take rank after) =
        no_more k f cols us (take rank after) m ind
        (all_weaker (InSpan k cols before) (InSpan k cols (take rank after)) (λ v p. in_span_trans cols after (take rank after) v m pivots_span (h.span.there v p)) us inside) in
        let other : length (take rank after) ≤ length us =
        no_more k f cols (take rank after) us a pivots_independent
        (all_take (InSpan k cols us) rank after
        (all_weaker (InSpan k cols after) (InSpan k cols us) (λ v p. in_span_trans cols before us v a spans (h.span.back v p)) after (span_rows k f cols after h.matrix))) in
        omega arith

  -- a combination of vectors and of others
  pub regroup : (c : ℕ) (gs xs zs : List ℕ) → length gs ≡ length zs → length xs ≡ length zs → plus_scaled k c (plus_scaled k 1 gs xs) zs ≡ plus_scaled k 1 gs (plus_scaled k c xs zs)
  regroup c [] xs zs a b = refl
  regroup c (g ∷ gs) [] zs a b = refl
  regroup c (g ∷ gs) (x ∷ xs) [] a b = absurd (omega arith)
  regroup c (g ∷ gs) (x ∷ xs) (z ∷ zs) a b =
      let here : k.add (k.add g (k.mul 1 x)) (k.mul c z) ≡ k.add g (k.mul 1 (k.add x (k.mul c z))) =
      f.add_assoc g (k.mul 1 x) (k.mul c z)
      ∙ ap (k.add g) (ap (k.add (k.mul 1 x)) (sym (f.one_mul (k.mul c z) (f.mul_below c z))) ∙ sym (f.mul_add 1 x (k.mul c z))) in
      ap (λ (m : ℕ). m ∷ plus_scaled k c (plus_scaled k 1 gs xs) zs) here
      ∙ ap (λ (r : List ℕ). k.add g (k.mul 1 (k.add x (k.mul c z))) ∷ r) (regroup c gs xs zs (omega arith) (omega arith))

  pub plus_zeros : (n : ℕ) (w : List ℕ) → IsVector k n w → plus_scaled k 1 w (replicate n 0) ≡ w
  plus_zeros zero [] v = refl
  plus_zeros zero (x ∷ w) v = absurd (omega (arith, v.long))
  plus_zeros (suc n) [] v = absurd (omega (arith, v.long))
  plus_zeros (suc n) (x ∷ w) v =
      let l : length w ≡ n = let h : length (x ∷ w) ≡ suc n = v.long in omega arith in
      ap (λ (m : ℕ). m ∷ plus_scaled k 1 w (replicate n 0)) (ap (k.add x) (mul_zero k f 1) ∙ add_zero k f x v.elements.0)
      ∙ ap (λ (r : List ℕ). x ∷ r) (plus_zeros n w (record { long = l; elements = v.elements.1 }))

  pub combination-append : (n : ℕ) (cs gs : List ℕ) (vs ws : List (List ℕ)) → IsMatrix k n vs → IsMatrix k n ws → length cs ≡ length vs → combination k n (cs ++ gs) (vs ++ ws) ≡ plus_scaled k 1 (combination k n gs ws) (combination k n cs vs)
  combination-append n [] gs [] ws a b l = sym (plus_zeros n (combination k n gs ws) (combination-vector k f n gs ws b))
  combination-append n [] gs (v ∷ vs) ws a b l = absurd (omega arith)
  combination-append n (c ∷ cs) gs [] ws a b l = absurd (omega arith)
  combination-append n (c ∷ cs) gs (v ∷ vs) ws a b l =
      let G : IsVector k n (combination k n gs ws) = combination-vector k f n gs ws b in
      let C : IsVector k n (combination k n cs vs) = combination-vector k f n cs vs a.1 in
      ap (λ (w : List ℕ). plus_scaled k c w v) (combination-append n cs gs vs ws a.1 b (omega arith))
      ∙ regroup c (combination k n gs ws) (combination k n cs vs) v (G.long ∙ sym a.0.long) (C.long ∙ sym a.0.long)

  pub take_front : (xs ys : List ℕ) → take (length xs) (xs ++ ys) ≡ xs
  take_front [] ys = refl
  take_front (x ∷ xs) ys = ap (λ (r : List ℕ). x ∷ r) (take_front xs ys)

  pub basis_by_ranks : (n m rank_last rank_next : ℕ) (last next last' next' : List (List ℕ)) → IsMatrix k n last → IsMatrix k m next → length next ≡ n → AllByRecursion (λ b. combination k m b next ≡ replicate m 0) last → IsReducedTo k n rank_last n last last' → IsReducedTo k m rank_next m next next' → HasBasis k m last next rank_last rank_next
  basis_by_ranks n m rank_last rank_next last next last' next' al an ln closed rl rn =
      let sn : RankSplit k m next = rank_split k f m next an in
      let sl : RankSplit k n last = rank_split k f n last al in
      let back : IsMatrix k (length next) last = subst (λ (j : ℕ). IsMatrix k j last) (sym ln) al in
      let zsm : IsMatrix k n sn.zs = subst (λ (j : ℕ). IsMatrix k j sn.zs) ln sn.zs_matrix in
      let zsi : IsIndependent k n sn.zs = subst (λ (j : ℕ). IsIndependent k j sn.zs) ln sn.zs_independent in
      let whole : (x : List ℕ) → IsInKernel k m next x → InSpan k n sn.zs x = λ x h. subst (λ (j : ℕ). InSpan k j sn.zs x) ln (sn.complete x h) in
      let kz : AllByRecursion (IsInKernel k m next) sn.zs =
      all_weaker (λ z. IsVector k (length next) z × (combination k m z next ≡ replicate m 0)) (IsInKernel k m next) (λ z h. record { vector = h.0; zero = h.1 }) sn.zs
      (all_both (IsVector k (length next)) (λ z. combination k m z next ≡ replicate m 0) sn.zs sn.zs_matrix sn.kernel) in
      let bs : List (List ℕ) = sl.us in
      let e : Extension n (IsInKernel k m next) bs sn.zs = extension n (IsInKernel k m next) bs sl.us_matrix sl.us_independent sn.zs zsm kz in
      let both : IsMatrix k n (e.new ++ bs) = all_append (IsVector k n) e.new bs e.matrix sl.us_matrix in
      -- the coboundaries are cocycles
      let lk : AllByRecursion (IsInKernel k m next) last =
      all_weaker (λ z. IsVector k (length next) z × (combination k m z next ≡ replicate m 0)) (IsInKernel k m next) (λ z h. record { vector = h.0; zero = h.1 }) last
      (all_both (IsVector k (length next)) (λ z. combination k m z next ≡ replicate m 0) last back closed) in
      let bs_in : AllByRecursion (InSpan k n sn.zs) bs =
      all_weaker (InSpan k n last) (InSpan k n sn.zs) (λ v p. in_span_trans n last sn.zs v zsm (all_weaker (IsInKernel k m next) (InSpan k n sn.zs) whole last lk) p) bs sl.inside in
      let new_in : AllByRecursion (InSpan k n sn.zs) e.new = all_weaker (IsInKernel k m next) (InSpan k n sn.zs) whole e.new e.chosen in
      let up : length (e.new ++ bs) ≤ length sn.zs = no_more k f n (e.new ++ bs) sn.zs zsm e.independent (all_append (InSpan k n sn.zs) e.new bs new_in bs_in) in
      let down : length sn.zs ≤ length (e.new ++ bs) = no_more k f n sn.zs (e.new ++ bs) both zsi e.spans in
      let app : length (e.new ++ bs) ≡ length e.new + length bs = length-append e.new bs in
      let dl : length bs ≡ rank_last = rank_is_dimension n rank_last last last' rl bs sl.us_matrix sl.us_independent sl.spans sl.inside in
      let dn : length sn.us ≡ rank_next = rank_is_dimension m rank_next next next' rn sn.us sn.us_matrix sn.us_independent sn.spans sn.inside in
      let total : length sn.us + length sn.zs ≡ length next = sn.count in
      record {
        zs = e.new;
        basis = record {
          cocycles = e.chosen;
          spans = λ z h.
              let p : InSpan k n (e.new ++ bs) z = in_span_trans n sn.zs (e.new ++ bs) z both e.spans (whole z h) in
              let q : ℕ = length e.new in
              let cs : List ℕ = take q p.coefficients in
              let gs : List ℕ = drop q p.coefficients in
              let lp : length p.coefficients ≡ length (e.new ++ bs) = p.vector.long in
              let lc : length cs ≡ q = length-take-le q p.coefficients (omega arith) in
              let lg : length gs ≡ length bs = omega (arith, length-drop q p.coefficients) in
              let b : List ℕ = combination k n gs bs in
              let b_in : InSpan k n last b = span_within k f n bs last al sl.inside gs in
              let is : z ≡ plus_scaled k 1 b (combination k n cs e.new) =
              sym p.is ∙ (ap (λ (c : List ℕ). combination k n c (e.new ++ bs)) (sym (take-append-drop q p.coefficients)) ∙ combination-append n cs gs e.new bs e.matrix sl.us_matrix lc) in (
                cs,
                b,
                record { long = lc; elements = all_take (λ x. x < k.size) q p.coefficients p.vector.elements },
                subst (λ (j : ℕ). InSpan k j last b) (sym ln) b_in,
                subst (λ (j : ℕ). z ≡ plus_scaled k 1 b (combination k j cs e.new)) (sym ln) is,
              );
          unique = λ cs v h.
              let W : List ℕ = combination k n cs e.new in
              let vW : IsVector k n W = combination-vector k f n cs e.new e.matrix in
              let p : InSpan k n bs W = in_span_trans n last bs W sl.us_matrix sl.spans (subst (λ (j : ℕ). InSpan k j last (combination k j cs e.new)) ln h) in
              let zs : List ℕ = replicate (length bs) 0 in
              let gs : List ℕ = plus_scaled k (k.neg 1) zs p.coefficients in
              let vz : IsVector k (length bs) zs = record { long = length-replicate (length bs) 0; elements = zeros-elements k f (length bs) } in
              let vg : IsVector k (length bs) gs = plus_scaled-vector k f (length bs) (k.neg 1) zs p.coefficients vz p.vector in
              let G : combination k n gs bs ≡ plus_scaled k (k.neg 1) (replicate n 0) W =
              sym (combination-plus k f n (k.neg 1) zs p.coefficients bs sl.us_matrix vz.long p.vector.long)
              ∙ (ap (λ (w : List ℕ). plus_scaled k (k.neg 1) w (combination k n p.coefficients bs)) (combination-zeros k f n (length bs) bs sl.us_matrix) ∙ ap (plus_scaled k (k.neg 1) (replicate n 0)) p.is) in
              let one : 1 ≡ k.neg (k.neg 1) = sym (neg_neg k f 1 f.one_below) in
              let z : combination k n (cs ++ gs) (e.new ++ bs) ≡ replicate n 0 =
              combination-append n cs gs e.new bs e.matrix sl.us_matrix v.long
              ∙ (ap (λ (w : List ℕ). plus_scaled k 1 w W) G
              ∙ (ap (λ (c : ℕ). plus_scaled k c (plus_scaled k (k.neg 1) (replicate n 0) W) W) one
              ∙ taken_back k f (k.neg 1) (replicate n 0) W (length-replicate n 0 ∙ sym vW.long) (zeros-elements k f n))) in
              let vall : IsVector k (length (e.new ++ bs)) (cs ++ gs) = record {
                long = length-append cs gs ∙ (ap (λ (j : ℕ). j + length gs) v.long ∙ (ap (λ (j : ℕ). length e.new + j) vg.long ∙ sym app));
                elements = all_append (λ x. x < k.size) cs gs v.elements vg.elements;
              } in
              let all : cs ++ gs ≡ replicate (length (e.new ++ bs)) 0 = e.independent (cs ++ gs) vall z in
              sym (take_front cs gs) ∙ (ap (take (length cs)) all ∙ (ap (λ (j : ℕ). take j (replicate (length (e.new ++ bs)) 0)) v.long ∙ take-replicate (length e.new) (length (e.new ++ bs)) 0 (omega arith)));
        };
        count = omega arith;
      }
